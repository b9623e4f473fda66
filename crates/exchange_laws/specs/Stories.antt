-- The lines of a trace that is processed when its lines arrive. Source: this project.
use Rattle.std.specs.Prelude.{◌≡◌, ℕ, List, [], length, Some}
use Rattle.tone_rules.specs.Tables.{table_of}
use Rattle.exchange_events.specs.Orders.{file_order}
use Rattle.trace_text.specs.declared.said.Said.{Said}
use Rattle.trace_text.specs.declared.said.Sizes.{Sizes}
use Rattle.trace_text.specs.TraceGrammar.{changes_in, events_in, sizes_in}
use Rattle.linked_text.specs.LinkEffects.{plain_told}
use Rattle.linked_text.specs.LinkLines.{Content}
use Rattle.linked_exchange.specs.InTurn.{ArePlain}
use Rattle.linked_exchange.specs.Told.{setting_said}
use Rattle.exchange_laws.specs.Printed.{items_text, lines_with}

-- the report lines of the events of these lines, in file order
abbrev pub lines_said : ℕ → Sizes → List Said → List ℕ
lines_said slots sizes told =
    let s = setting_said slots sizes told in lines_with (items_text (table_of s.tones) s) s [] (file_order (length (events_in told))) (events_in told)

-- the lines have a header with these sizes, no line has a data link, and none changes meters
pub record IsPlainTrace (sizes : Sizes) (told : List Content) : Type 0 where
  pub plain : ArePlain told
  pub header : sizes_in (plain_told told) ≡ Some sizes
  pub unchanged : changes_in (plain_told told) ≡ []
