-- The state of the parser after some lines. Source: this project.
use Rattle.std.specs.Prelude.{◌≡◌, ℕ, ◌+◌, ◌<◌, List, [], ◌∷◌, ◌++◌, length, Option, Ok, None}
use Rattle.number_plan.specs.declared.plan.PlanFault.{PlanFault}
use Rattle.number_plan.specs.declared.plan.PlanFault.TheVariants as plan_fault
use Rattle.trace_text.specs.declared.draft.Draft.{Draft}
use Rattle.trace_text.specs.declared.fault.LineError.{LineError}
use Rattle.trace_text.specs.declared.fault.LineError.TheVariants as line_fault
use Rattle.trace_text.specs.declared.fault.TraceFault.{TraceFault}
use Rattle.trace_text.specs.declared.fault.TraceFault.TheVariants as trace_fault
use Rattle.trace_text.specs.declared.fault.Reason.TheVariants as reason
use Rattle.trace_text.specs.declared.said.Sizes.{Sizes}
use Rattle.trace_text.specs.declared.said.Said.{Said}
use Rattle.trace_text.specs.TraceWords.{lines}
use Rattle.trace_text.specs.TraceLines.{says, trace_limits, Fails}
use Rattle.trace_text.specs.TraceGrammar.{so_far, events_in, open_segment_end, segment_ends, ends_after, changes_in, IsRefused}

-- the error of a trace, from the error of its line
abbrev pub at_line : LineError → ℕ → TraceFault
at_line line_fault.Memory number = trace_fault.Memory
at_line (line_fault.Refused why) number = trace_fault.Line number why

-- the error of a line, from the error of a number plan
abbrev pub of_plan : PlanFault → LineError
of_plan plan_fault.Prefix = line_fault.Refused reason.Prefix
of_plan plan_fault.TooMany = line_fault.Refused reason.Limit
of_plan plan_fault.Memory = line_fault.Memory

-- the draft is the result of the lines so far: the heading, the events, the ends of the closed segments, and the changes of meters
pub record Holds (d : Draft) (told : List Said) : Type 0 where
  pub heading : d.heading ≡ so_far told
  pub events : d.events.items ≡ events_in told
  pub ends : (more : List Said) → segment_ends (told ++ more) ≡ d.ends.items ++ ends_after d.begun (length d.events.items) more
  pub changes : d.changes.items ≡ changes_in told

-- the first of these octets' lines meets its checks, the draft then holds what it says, and these octets follow it
pub record HasRead (d n : Draft) (bytes others : List ℕ) : Type 0 where
  pub line : List ℕ
  pub cut : lines bytes ≡ line ∷ lines others
  pub shorter : length others < length bytes
  pub holds : (told : List Said) → Holds d told → (said : Said) × (says trace_limits (so_far told) line ≡ Ok said) × Holds n (told ++ said ∷ [])

-- the first of these octets' lines fails a check, or an allocation fails
pub record FailsFirst (d : Draft) (bytes : List ℕ) (e : LineError) : Type 0 where
  pub line : List ℕ
  pub others : List ℕ
  pub cut : lines bytes ≡ line ∷ lines others
  pub fails : Fails e (says trace_limits d.heading line)

-- the draft after the end of its open segment
pub record IsEnded (d n : Draft) : Type 0 where
  pub heading : n.heading ≡ d.heading
  pub events : n.events.items ≡ d.events.items
  pub ends : n.ends.items ≡ d.ends.items ++ open_segment_end d.begun d.heading.events
  pub begun : n.begun ≡ d.heading.events
  pub changes : n.changes.items ≡ d.changes.items

-- the error at the end of `count` lines: a failed allocation, or a trace without a header
abbrev pub FailsAtEnd : Option Sizes → ℕ → TraceFault → Type 0
FailsAtEnd sizes count trace_fault.Memory = Unit {0}
FailsAtEnd sizes count (trace_fault.Line number why) = (sizes ≡ None) × (number ≡ count + 1) × (why ≡ reason.Header)

-- the error for these bytes: a failed allocation, or their first wrong line
abbrev pub IsFault : List ℕ → TraceFault → Type 0
IsFault bytes trace_fault.Memory = Unit {0}
IsFault bytes (trace_fault.Line number why) = IsRefused bytes number why
