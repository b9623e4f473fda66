-- Lists of steps of an exchange with data links, and the trace without data links that they are. Source: this project.
use Rattle.std.specs.Prelude.{ℕ, ◌+◌, ◌<◌, ◌≤◌, Bool, List, [], ◌∷◌, ◌++◌, length, All, if◌then◌else◌}
use Rattle.exchange_events.specs.declared.reply.Reply.{Reply}
use Rattle.exchange_events.specs.declared.trace.Event.{Event}
use Rattle.exchange_events.specs.declared.trace.Event.TheVariants.{Message, LinkDown}
use Rattle.exchange_events.specs.Sizes.{Setting}
use Rattle.exchange_events.specs.Sound.{Fits}
use Rattle.call_profile.specs.Step.{run, world_after_all}
use Rattle.call_profile.specs.World.{start}
use Rattle.link_procedures.specs.declared.state.LinkTimers.{LinkTimers}
use Rattle.link_frames.specs.Fields.{max_information_len}
use Rattle.link_table.specs.Tables.{new_table}
use Rattle.linked_exchange.specs.Steps.{Joint, LinkedInput, Happens, Receives, Turns, derived, next_joint}

-- ---- the start

-- the events of an exchange whose lines from `line` on begin with these links: the data link of each is down
abbrev pub links_down : ℕ → List Bool → List Event
links_down line [] = []
links_down line (has_link ∷ rest) = if has_link then LinkDown line ∷ links_down (line + 1) rest else links_down (line + 1) rest

-- before the first step
abbrev pub start_joint : Setting → List Bool → Joint
start_joint s linked = record { world = world_after_all s (start s.dimensions) (links_down 0 linked); links = new_table linked 0 }

-- ---- lists of steps

abbrev pub joint_after_all : Setting → LinkTimers → Joint → List LinkedInput → Joint
joint_after_all s timers j [] = j
joint_after_all s timers j (i ∷ is) = joint_after_all s timers (next_joint s timers j i) is

-- the events of the steps, in order
abbrev pub derived_all : Setting → LinkTimers → Joint → List LinkedInput → List Event
derived_all s timers j [] = []
derived_all s timers j (i ∷ is) = derived timers j i ++ derived_all s timers (next_joint s timers j i) is

-- the replies to the events of the steps, each in the exchange state of its step
abbrev pub replies_all : Setting → LinkTimers → Joint → List LinkedInput → List Reply
replies_all s timers j [] = []
replies_all s timers j (i ∷ is) = run s j.world (derived timers j i) ++ replies_all s timers (next_joint s timers j i) is

-- the trace without data links of the steps from the start
abbrev pub derived_trace : Setting → LinkTimers → List Bool → List LinkedInput → List Event
derived_trace s timers linked is = links_down 0 linked ++ derived_all s timers (start_joint s linked) is

-- ---- conditions

-- an input of an exchange with n external lines; a received frame is any octets, on any line
abbrev pub FitsLinked : ℕ → LinkedInput → Type 0
FitsLinked external (Happens e) = Fits external e
FitsLinked external (Receives line octets) = All (λ octet. octet < 256) octets
FitsLinked external Turns = Unit {0}

-- a message of the user has at most 260 octets
abbrev pub IsShortEvent : Event → Type 0
IsShortEvent (Message line octets) = length octets ≤ max_information_len
IsShortEvent _ = Unit {0}

abbrev pub IsShortInput : LinkedInput → Type 0
IsShortInput (Happens e) = IsShortEvent e
IsShortInput _ = Unit {0}
