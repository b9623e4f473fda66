-- Traces that are followed. Source: this project.
use Rattle.std.specs.Prelude.{◌≡◌, ◌≤◌, ℕ, List, [], All, length}
use Rattle.exchange_events.specs.declared.trace.Trace.{Trace}
use Rattle.exchange_events.specs.Orders.{file_order}
use Rattle.circuit_model.specs.Hears.{Plays}
use Rattle.report_lines.specs.declared.listing.Listing.TheVariants.{Report}
use Rattle.trace_text.specs.TraceWords.{lines, max_line_len}
use Rattle.linked_text.specs.LinkLines.{Content}
use Rattle.linked_exchange.specs.InTurn.{ArePlain, EachInTurn, story_in_turn}
use Rattle.linked_exchange.specs.Story.{story}

-- no line of a text is longer than a line may be
abbrev pub AreShort : List ℕ → Type 0
AreShort bytes = All (λ line. length line ≤ max_line_len) (lines bytes)

-- the lines of a text have contents without data links, and their story is the story of a run of the trace in file order
abbrev pub IsFollowedInTurn : Plays → ℕ → List ℕ → Trace → Type 0
IsFollowedInTurn plays slots bytes t =
    (told : List Content) × ArePlain told × EachInTurn [] (lines bytes) told
    × (story_in_turn plays slots told ≡ story plays Report slots t (file_order (length t.events)))
