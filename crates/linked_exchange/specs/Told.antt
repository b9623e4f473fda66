-- A trace without data links whose lines are processed when they arrive, and its story. Source: this project.
use Rattle.std.specs.Prelude.{◌≡◌, ℕ, ◌+◌, All, nat_lt, if◌then◌else◌, List, [], ◌∷◌, ◌++◌, length, Option, Some, None, Result, Ok, Err}
use Rattle.circuit_model.specs.Hears.{Plays}
use Rattle.tone_rules.specs.Tables.{table_of}
use Rattle.exchange_events.specs.declared.trace.Event.{Event}
use Rattle.exchange_events.specs.Kept.{kept_of}
use Rattle.exchange_events.specs.Sizes.{Setting}
use Rattle.call_profile.specs.CallsTold.{calls_kept}
use Rattle.call_profile.specs.Step.{MovesAtMost, next, reply, run, world_after_all}
use Rattle.call_profile.specs.World.{World, start}
use Rattle.report_text.specs.RunReport.{Played, event_line}
use Rattle.meters.specs.Changing.{Step, Event_done, Meters_changed}
use Rattle.trace_text.specs.declared.fault.Reason.{Reason}
use Rattle.trace_text.specs.declared.fault.Reason.TheVariants as reason
use Rattle.trace_text.specs.declared.said.Said.{Said}
use Rattle.trace_text.specs.declared.said.Said.TheVariants.{Happens, Change}
use Rattle.trace_text.specs.declared.said.Sizes.{Sizes}
use Rattle.trace_text.specs.TraceGrammar.{events_in, numbers_in, plan_of, sizes_in, so_far, timers_in, timers_of, tones_in, tones_of}
use Rattle.trace_text.specs.TraceLines.{line_limits, says}
use Rattle.trace_text.specs.TraceTimers.{timers_by}
use Rattle.trace_text.specs.TraceWords.{max_line_len}

-- ---- lines that follow one another

-- the maximum number of lines
abbrev pub max_lines : ℕ
max_lines = 4294967294

-- the content of a line after the lines with these contents, or the reason for which it is refused: it is too long,
-- there are too many lines before it, or a check of it fails
abbrev pub follows : List Said → List ℕ → Result Said Reason
follows told line =
    if nat_lt max_line_len (length line) then Err reason.Limit
    else if nat_lt (length told) max_lines then says line_limits (so_far told) line
    else Err reason.Limit

-- each line follows the lines before it, and has the content in its place
abbrev pub EachFollows : List Said → List (List ℕ) → List Said → Type 0
EachFollows before [] [] = Unit {0}
EachFollows before [] (said ∷ told) = ⊥
EachFollows before (line ∷ others) [] = ⊥
EachFollows before (line ∷ others) (said ∷ told) = (follows before line ≡ Ok said) × EachFollows (before ++ said ∷ []) others told

-- ---- the story of lines

-- the setting of the header, the numbers, the tones and the timers, over a fabric of n internal slots
abbrev pub setting_said : ℕ → Sizes → List Said → Setting
setting_said slots sizes told = record {
  dimensions = record { external = sizes.external; bridges = sizes.bridges; slots = slots };
  plan = plan_of (numbers_in told);
  tones = tones_of (tones_in told);
  timers = timers_by (timers_of (timers_in told));
}

-- the exchange state after the events of these lines
abbrev pub world_said : ℕ → Sizes → List Said → World
world_said slots sizes told = let s = setting_said slots sizes told in world_after_all s (start s.dimensions) (events_in told)

-- in a run of these events, a new path moves at most this number of live paths, which depends on the number of lines
abbrev pub MovesFewIn : (ℕ → ℕ) → Setting → List Event → Type 0
MovesFewIn moves s events = All (MovesAtMost (moves (s.dimensions.external + s.dimensions.bridges))) (run s (start s.dimensions) events)

-- the same for the events of these lines
abbrev pub MovesFewSaid : ℕ → (ℕ → ℕ) → Sizes → List Said → Type 0
MovesFewSaid slots moves sizes told = MovesFewIn moves (setting_said slots sizes told) (events_in told)

-- the events and the changes of meters of these lines, from an exchange state and after n events: each event has its
-- numbered line, and the records of the calls that ended with it
abbrev pub steps_said : Played → Setting → World → ℕ → List Said → List Step
steps_said played s w n [] = []
steps_said played s w n (Happens e ∷ told) =
    Event_done (event_line played s w (n + 1) e) (calls_kept (kept_of (reply s w e))) ∷ steps_said played s (next s w e) (n + 1) told
steps_said played s w n (Change ∷ told) = Meters_changed ∷ steps_said played s w n told
steps_said played s w n (said ∷ told) = steps_said played s w n told

-- the story of these lines in an exchange of these sizes; before the header it has no step
abbrev pub story_by : Plays → ℕ → Option Sizes → List Said → List Step
story_by plays slots None told = []
story_by plays slots (Some sizes) told =
    let s = setting_said slots sizes told in steps_said (plays (table_of s.tones)) s (start s.dimensions) 0 told

-- the story of these lines: their events and changes of meters, in the order of the lines
abbrev pub story_said : Plays → ℕ → List Said → List Step
story_said plays slots told = story_by plays slots (sizes_in told) told
