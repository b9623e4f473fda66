-- The inputs of an exchange with data links, and the link of a line in a step that is not on this link. Source: this
-- project.
use Rattle.std.specs.Prelude.{◌≡◌, ℕ, ◌≤◌, ◌==◌, Bool, All, List, [], ◌∷◌, length, Option, option_map, if◌then◌else◌}
use Rattle.exchange_events.specs.declared.signal.Signal.{Signal}
use Rattle.exchange_events.specs.Sizes.{Setting}
use Rattle.exchange_events.specs.Sound.{IsPlanned}
use Rattle.call_profile.specs.World.{World}
use Rattle.link_procedures.specs.declared.state.LinkTimers.{LinkTimers}
use Rattle.link_procedures.specs.Establishment.{submitted}
use Rattle.link_procedures.specs.Links.{DataLink, step}
use Rattle.link_table.specs.Steps.{line_of_turn}
use Rattle.link_table.specs.Tables.{link_of}
use Rattle.linked_exchange.specs.Steps.{Joint, LinkedInput, Happens, Receives, Turns, derived, frames_so_far, next_joint, reply_to, sends_of}
use Rattle.linked_exchange.specs.Runs.{FitsLinked, joint_after_all, start_joint}

-- the step is on the data link of the line: a frame of its user, or its turn; an event of the exchange is on no link
abbrev pub IsOnLink : ℕ → Joint → LinkedInput → Type 0
IsOnLink line j (Happens e) = ⊥
IsOnLink line j (Receives other octets) = other ≡ line
IsOnLink line j Turns = line_of_turn (frames_so_far j) ≡ line

-- the messages for a line among those that call control sends
abbrev pub messages_to : ℕ → List Signal → List (List ℕ)
messages_to line [] = []
messages_to line (m ∷ ms) = if m.line == line then m.octets ∷ messages_to line ms else messages_to line ms

-- the messages that call control sends to a line in a step
abbrev pub messages_of_step : Setting → LinkTimers → Joint → LinkedInput → ℕ → List (List ℕ)
messages_of_step s timers j i line = messages_to line (sends_of (reply_to s j.world (derived timers j i)))

-- a data link after a message of call control; the frames that it sends do not matter here
abbrev pub after_message : ℕ → List ℕ → DataLink → DataLink
after_message at m l = (submitted m at (step l [])).link

-- the same for messages that are submitted in turn
abbrev pub after_messages : ℕ → List (List ℕ) → DataLink → DataLink
after_messages at [] l = l
after_messages at (m ∷ ms) l = after_messages at ms (after_message at m l)

-- the link of a line before a step, after the messages of the step
abbrev pub link_with_messages : Setting → LinkTimers → Joint → LinkedInput → ℕ → Option DataLink
link_with_messages s timers j i line =
    option_map (after_messages (frames_so_far (next_joint s timers j i)) (messages_of_step s timers j i line)) (link_of line j.links)

-- ---- lists of inputs

-- the exchange state after inputs from the start, if these lines have links
abbrev pub world_of_inputs : Setting → LinkTimers → List Bool → List LinkedInput → World
world_of_inputs s timers linked is = (joint_after_all s timers (start_joint s linked) is).world

-- the plan routes numbers to lines of the exchange only, each line with a link is one of them, and the inputs fit
pub record AreLinkedInputs (s : Setting) (linked : List Bool) (is : List LinkedInput) : Type 0 where
  pub planned : IsPlanned s
  pub lines : length linked ≤ s.dimensions.external
  pub fits : All (FitsLinked s.dimensions.external) is
