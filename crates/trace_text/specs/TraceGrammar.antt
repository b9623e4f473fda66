-- The grammar of a trace: the trace of some bytes, or the reason why they are refused. Source: this project.
use Rattle.std.specs.Prelude.{◌≡◌, ℕ, ◌+◌, ◌≤◌, ◌<◌, ◌==◌, List, [], ◌∷◌, ◌++◌, length, fold, Option, Some, None, Ok, Err, if◌then◌else◌}
use Rattle.std.specs.List.{filter_map}
use Rattle.number_plan.specs.declared.plan.Number.{Number}
use Rattle.number_plan.specs.Plan.{with_number}
use Rattle.tone_rules.specs.declared.tones.Tones.{Tones}
use Rattle.tone_rules.specs.Tables.{no_tones}
use Rattle.exchange_events.specs.declared.trace.Trace.{Trace}
use Rattle.exchange_events.specs.declared.trace.Event.{Event}
use Rattle.trace_text.specs.declared.fault.Reason.{Reason}
use Rattle.trace_text.specs.declared.fault.Reason.TheVariants as reason
use Rattle.trace_text.specs.declared.said.Sizes.{Sizes}
use Rattle.trace_text.specs.declared.said.GivenTone.{GivenTone}
use Rattle.trace_text.specs.declared.said.Said.{Said}
use Rattle.trace_text.specs.declared.said.Said.TheVariants.{Header, Numbered, Toned, Timed, Happens, Sync, Change}
use Rattle.trace_text.specs.declared.timing.GivenTimer.{GivenTimer}
use Rattle.trace_text.specs.declared.timing.GivenTimers.{GivenTimers}
use Rattle.trace_text.specs.TraceTimers.{no_timers, with_timer, timers_by}
use Rattle.trace_text.specs.TraceWords.{lines}
use Rattle.trace_text.specs.TraceLines.{SoFar, says, trace_limits, with_tone}

-- the maximum number of bytes of a trace
abbrev pub max_bytes : ℕ
max_bytes = 67108864

-- the sizes of the header, if there is one
abbrev pub sizes_in : List Said → Option Sizes
sizes_in [] = None
sizes_in (Header sizes ∷ others) = Some sizes
sizes_in (said ∷ others) = sizes_in others

-- the events, in file order
abbrev pub event_said : Said → Option Event
event_said (Happens event) = Some event
event_said other = None

abbrev pub events_in : List Said → List Event
events_in told = filter_map event_said told

-- the numbers, in file order
abbrev pub number_said : Said → Option Number
number_said (Numbered number) = Some number
number_said other = None

abbrev pub numbers_in : List Said → List Number
numbers_in told = filter_map number_said told

-- the number plan of these numbers
abbrev pub plan_of : List Number → List Number
plan_of numbers = fold with_number [] numbers

-- the tones, in file order
abbrev pub tone_said : Said → Option GivenTone
tone_said (Toned given) = Some given
tone_said other = None

abbrev pub tones_in : List Said → List GivenTone
tones_in told = filter_map tone_said told

-- the octets of each tone; a tone without a line has none
abbrev pub tones_of : List GivenTone → Tones
tones_of given = fold with_tone no_tones given

-- the timers, in file order
abbrev pub timer_said : Said → Option GivenTimer
timer_said (Timed given) = Some given
timer_said other = None

abbrev pub timers_in : List Said → List GivenTimer
timers_in told = filter_map timer_said told

-- the duration of each timer
abbrev pub timers_of : List GivenTimer → GivenTimers
timers_of given = fold with_timer no_timers given

-- the end of a segment, if it has events: the number of the last event so far
abbrev pub open_segment_end : ℕ → ℕ → List ℕ
open_segment_end begun count = if begun == count then [] else count ∷ []

-- the numbers of the last events of the segments that have events, after `count` events, `begun` of them before the open segment
abbrev pub ends_after : ℕ → ℕ → List Said → List ℕ
ends_after begun count [] = open_segment_end begun count
ends_after begun count (Happens event ∷ others) = ends_after begun (count + 1) others
ends_after begun count (Sync ∷ others) = open_segment_end begun count ++ ends_after count count others
ends_after begun count (Change ∷ others) = open_segment_end begun count ++ ends_after count count others
ends_after begun count (said ∷ others) = ends_after begun count others

abbrev pub segment_ends : List Said → List ℕ
segment_ends told = ends_after 0 0 told

-- the number of events before each change of meters, in file order, after `count` events
abbrev pub changes_after : ℕ → List Said → List ℕ
changes_after count [] = []
changes_after count (Happens event ∷ others) = changes_after (count + 1) others
changes_after count (Change ∷ others) = count ∷ changes_after count others
changes_after count (said ∷ others) = changes_after count others

abbrev pub changes_in : List Said → List ℕ
changes_in told = changes_after 0 told

-- the result of some lines, as far as the next line depends on it
abbrev pub so_far : List Said → SoFar
so_far told = record { sizes = sizes_in told; events = length (events_in told); plan = plan_of (numbers_in told); tones = tones_of (tones_in told); timers = timers_of (timers_in told); changes = length (changes_in told) }

-- each line passes all of its checks after the lines before it, and has this content
abbrev pub EachSays : List Said → List (List ℕ) → List Said → Type 0
EachSays before [] [] = Unit {0}
EachSays before [] (said ∷ told) = ⊥
EachSays before (line ∷ others) [] = ⊥
EachSays before (line ∷ others) (said ∷ told) = (says trace_limits (so_far before) line ≡ Ok said) × EachSays (before ++ said ∷ []) others told

-- the trace of lines with this content: the sizes of the header, the number plan, the tones, the timers, the events, the ends of the segments, and
-- the changes of meters
pub record IsWhatLinesSay (t : Trace) (told : List Said) : Type 0 where
  pub sizes : sizes_in told ≡ Some (record { external = t.external; bridges = t.bridges; processors = t.processors })
  pub plan : t.plan ≡ plan_of (numbers_in told)
  pub tones : t.tones ≡ tones_of (tones_in told)
  pub timers : t.timers ≡ timers_by (timers_of (timers_in told))
  pub events : t.events ≡ events_in told
  pub segments : t.segments ≡ segment_ends told
  pub changes : t.changes ≡ changes_in told

-- the bytes are the trace: each line passes all of its checks after the lines before it, and the trace is the result of the lines
pub record IsTrace (bytes : List ℕ) (t : Trace) : Type 0 where
  pub few : length bytes ≤ max_bytes
  pub told : List Said
  pub meets : EachSays [] (lines bytes) told
  pub all : IsWhatLinesSay t told

-- the first line that fails, with its first failing check
pub record IsFirstFault (bytes : List ℕ) (number : ℕ) (why : Reason) : Type 0 where
  pub before : List (List ℕ)
  pub line : List ℕ
  pub after : List (List ℕ)
  pub told : List Said
  pub parts : lines bytes ≡ before ++ line ∷ after
  pub meets : EachSays [] before told
  pub fails : says trace_limits (so_far told) line ≡ Err why
  pub place : number ≡ length before + 1

-- no line fails, and there is no header
pub record LacksHeader (bytes : List ℕ) (number : ℕ) (why : Reason) : Type 0 where
  pub told : List Said
  pub meets : EachSays [] (lines bytes) told
  pub none : sizes_in told ≡ None
  pub place : number ≡ length (lines bytes) + 1
  pub named : why ≡ reason.Header

-- the bytes are refused, for the first of these reasons: too many bytes (line 0), a line that fails, or no header (the line after the last)
pub data IsRefused (bytes : List ℕ) (number : ℕ) (why : Reason) : Type 0 where
  Too_long : max_bytes < length bytes → number ≡ 0 → why ≡ reason.Limit → IsRefused bytes number why
  At_line : length bytes ≤ max_bytes → IsFirstFault bytes number why → IsRefused bytes number why
  At_end : length bytes ≤ max_bytes → LacksHeader bytes number why → IsRefused bytes number why
