-- Lines that are followed, with their header. Source: this project.
use Rattle.std.specs.Prelude.{◌≡◌, ◌≤◌, ℕ, List, [], Some}
use Rattle.trace_text.specs.declared.said.Sizes.{Sizes}
use Rattle.trace_text.specs.TraceGrammar.{sizes_in}
use Rattle.linked_text.specs.LinkEffects.{plain_told}
use Rattle.linked_text.specs.LinkLines.{Content}
use Rattle.linked_exchange.specs.InTurn.{EachInTurn}

-- these lines have these contents and this header, over a fabric of 30 to 59 internal slots
pub record AreFollowed (slots : ℕ) (rows : List (List ℕ)) (told : List Content) (sizes : Sizes) : Type 0 where
  pub meets : EachInTurn [] rows told
  pub header : sizes_in (plain_told told) ≡ Some sizes
  pub enough : 30 ≤ slots
  pub most : slots ≤ 59
