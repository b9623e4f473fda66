-- The effect of a line, and the result of the lines after it. Source: this project.
use Rattle.std.specs.Prelude.{◌≡◌, ℕ, ◌+◌, IsTrue, List, [], ◌∷◌, ◌++◌, Some, None, Ok}
use Rattle.number_plan.specs.Plan.{is_number, with_number}
use Rattle.trace_text.specs.declared.heading.Happening.{Happening}
use Rattle.trace_text.specs.declared.heading.Happening.TheVariants as happening
use Rattle.trace_text.specs.declared.limits.Limits.{Limits}
use Rattle.trace_text.specs.declared.said.Said.{Said}
use Rattle.trace_text.specs.declared.said.Said.TheVariants.{Header, Numbered, Toned, Timed, Happens, Sync, Change}
use Rattle.trace_text.specs.TraceTimers.{with_timer}
use Rattle.trace_text.specs.TraceLines.{SoFar, says, with_tone}
use Rattle.trace_text.specs.TraceGrammar.{so_far}

-- the effect of a line with this content: an event, the end of the segment, or the end and a change of meters
abbrev pub happening_of : Said → Happening
happening_of (Happens event) = happening.Event event
happening_of Sync = happening.SegmentEnd
happening_of Change = happening.Change
happening_of other = happening.Nothing

-- the result of the lines after one more event
abbrev pub with_event : SoFar → SoFar
with_event known = record known { events = known.events + 1 }

-- the result of the lines after one more line with this content
abbrev pub with_said : SoFar → Said → SoFar
with_said known (Header sizes) = record known { sizes = Some sizes }
with_said known (Numbered number) = record known { plan = with_number known.plan number }
with_said known (Toned given) = record known { tones = with_tone known.tones given }
with_said known (Timed given) = record known { timers = with_timer known.timers given }
with_said known (Happens event) = record known { events = known.events + 1 }
with_said known Change = record known { changes = known.changes + 1 }
with_said known other = known

-- the content of a line fits the lines before it: the header comes first, and a number has valid digits
abbrev pub Suits : SoFar → Said → Type 0
Suits known (Header sizes) = known.sizes ≡ None
Suits known (Numbered number) = IsTrue (is_number number.digits)
Suits known other = Unit {0}

-- the effect of a line after these lines, and the result of the lines with it
pub record IsLineRead (limits : Limits) (before : SoFar) (line : List ℕ) (happening : Happening) (after : SoFar) : Type 0 where
  pub said : Said
  pub meets : says limits before line ≡ Ok said
  pub happens : happening ≡ happening_of said
  pub known : after ≡ with_said before said
  pub behind : (told : List Said) → before ≡ so_far told → after ≡ so_far (told ++ said ∷ [])
