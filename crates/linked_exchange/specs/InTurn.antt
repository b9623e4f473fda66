-- Lines with data links that are processed when they arrive, and their story. Source: this project.
use Rattle.std.specs.Prelude.{◌≡◌, ℕ, nat_lt, if◌then◌else◌, List, [], ◌∷◌, ◌++◌, length, All, Option, Some, None, Result, Ok, Err}
use Rattle.circuit_model.specs.Hears.{Plays}
use Rattle.tone_rules.specs.Tables.{table_of}
use Rattle.exchange_events.specs.declared.trace.Event.{Event}
use Rattle.exchange_events.specs.Sizes.{Setting}
use Rattle.call_profile.specs.Step.{world_after_all}
use Rattle.call_profile.specs.World.{World, start}
use Rattle.link_procedures.specs.declared.state.LinkTimers.{LinkTimers}
use Rattle.meters.specs.Changing.{Step}
use Rattle.trace_text.specs.declared.fault.Reason.{Reason}
use Rattle.trace_text.specs.declared.fault.Reason.TheVariants as reason
use Rattle.trace_text.specs.declared.said.Sizes.{Sizes}
use Rattle.trace_text.specs.TraceGrammar.{events_in, sizes_in}
use Rattle.trace_text.specs.TraceLines.{line_limits}
use Rattle.trace_text.specs.TraceWords.{max_line_len}
use Rattle.linked_exchange.specs.Runs.{derived_trace, joint_after_all, start_joint}
use Rattle.linked_exchange.specs.Steps.{Joint}
use Rattle.linked_text.specs.LinkEffects.{in_turn, link_row, link_timers_in, link_timers_of, linked_in, plain_told}
use Rattle.linked_text.specs.LinkLines.{Content, Plain, says_in_turn}
use Rattle.linked_text.specs.LinkTimers.{link_timers_by}
use Rattle.linked_exchange.specs.LinkedStory.{inputs_in, linked_steps}
use Rattle.linked_exchange.specs.Told.{MovesFewIn, max_lines, setting_said, story_said}

-- ---- lines that follow one another

-- the content of a line after the lines with these contents, or the reason for which it is refused: it is too long, there are too many lines before
-- it, or a check of it fails
abbrev pub follows_in_turn : List Content → List ℕ → Result Content Reason
follows_in_turn told line =
    if nat_lt max_line_len (length line) then Err reason.Limit
    else if nat_lt (length told) max_lines then says_in_turn line_limits (in_turn told) line
    else Err reason.Limit

-- each line follows the lines before it, and has the content in its place
abbrev pub EachInTurn : List Content → List (List ℕ) → List Content → Type 0
EachInTurn before [] [] = Unit {0}
EachInTurn before [] (content ∷ told) = ⊥
EachInTurn before (line ∷ others) [] = ⊥
EachInTurn before (line ∷ others) (content ∷ told) = (follows_in_turn before line ≡ Ok content) × EachInTurn (before ++ content ∷ []) others told

-- each of these lines is a line of a trace without data links
abbrev pub IsPlain : Content → Type 0
IsPlain (Plain said) = Unit {0}
IsPlain other = ⊥

abbrev pub ArePlain : List Content → Type 0
ArePlain told = All IsPlain told

-- ---- the setting

-- the setting of these lines, over a fabric of n internal slots, and the timers of their data links
abbrev pub setting_in_turn : ℕ → Sizes → List Content → Setting
setting_in_turn slots sizes told = setting_said slots sizes (plain_told told)

abbrev pub link_timers_said : List Content → LinkTimers
link_timers_said told = link_timers_by (link_timers_of (link_timers_in told))

-- the exchange state and the links before the first event: the link of each line that has one is down
abbrev pub first_joint : ℕ → Sizes → List Content → Joint
first_joint slots sizes told = start_joint (setting_in_turn slots sizes told) (link_row sizes.external (linked_in told))

-- the exchange state and the links after the events of these lines
abbrev pub joint_said : ℕ → Sizes → List Content → Joint
joint_said slots sizes told =
    joint_after_all (setting_in_turn slots sizes told) (link_timers_said told) (first_joint slots sizes told) (inputs_in told)

-- ---- the events, as a trace without data links

-- the events of these lines; with links on some lines, the events of the steps of the links
abbrev pub events_by : List ℕ → ℕ → Sizes → List Content → List Event
events_by [] slots sizes told = events_in (plain_told told)
events_by (line ∷ linked) slots sizes told =
    derived_trace (setting_in_turn slots sizes told) (link_timers_said told) (link_row sizes.external (line ∷ linked)) (inputs_in told)

abbrev pub events_in_turn : ℕ → Sizes → List Content → List Event
events_in_turn slots sizes told = events_by (linked_in told) slots sizes told

-- the exchange state after them
abbrev pub world_in_turn : ℕ → Sizes → List Content → World
world_in_turn slots sizes told = let s = setting_in_turn slots sizes told in world_after_all s (start s.dimensions) (events_in_turn slots sizes told)

-- in a run of them, a new path moves at most this number of live paths, which depends on the number of lines
abbrev pub MovesFewInTurn : ℕ → (ℕ → ℕ) → Sizes → List Content → Type 0
MovesFewInTurn slots moves sizes told = MovesFewIn moves (setting_in_turn slots sizes told) (events_in_turn slots sizes told)

-- ---- the story

-- the story of lines with data links in an exchange of these sizes
abbrev pub linked_story : Plays → ℕ → Option Sizes → List Content → List Step
linked_story plays slots None told = []
linked_story plays slots (Some sizes) told =
    let s = setting_in_turn slots sizes told in linked_steps (plays (table_of s.tones)) s (link_timers_said told) (first_joint slots sizes told) 0 told

abbrev pub story_by_links : Plays → ℕ → List ℕ → List Content → List Step
story_by_links plays slots [] told = story_said plays slots (plain_told told)
story_by_links plays slots (line ∷ linked) told = linked_story plays slots (sizes_in (plain_told told)) told

-- the story of these lines: their events and changes of meters, in the order of the lines; without links, the story of a trace without them
abbrev pub story_in_turn : Plays → ℕ → List Content → List Step
story_in_turn plays slots told = story_by_links plays slots (linked_in told) told
