-- One line of an exchange with data links, and the link of its user at the other end of two wires. The wires lose frames and preserve their order.
-- Source: this project.
use Rattle.std.specs.Prelude.{◌≡◌, ◌≢◌, ℕ, ◌==◌, Bool, true, List, [], ◌∷◌, ◌++◌, All, Option, Some, None, if◌then◌else◌}
use Rattle.exchange_events.specs.declared.signal.Signal.{Signal}
use Rattle.exchange_events.specs.declared.trace.Event.{Event}
use Rattle.exchange_events.specs.declared.trace.Event.TheVariants.{Message, LinkUp, LinkDown}
use Rattle.exchange_events.specs.Sizes.{Setting}
use Rattle.link_procedures.specs.declared.state.LinkTimers.{LinkTimers}
use Rattle.link_procedures.specs.Links.{DataLink, initial, is_up}
use Rattle.link_procedures.specs.AnyPeer.{IsShort}
use Rattle.link_table.specs.Tables.{link_of}
use Rattle.link_table.specs.Steps.{line_of_turn}
use Rattle.link_laws.specs.TwoLinks.{Pair, mirror}
use Rattle.link_laws.specs.Epochs as epochs
use Rattle.link_laws.specs.Epochs.{Act, IsParted, HasArrivedFrom, IsTimelyAct, acts, epochs_after, with_messages, younger}
use Rattle.linked_exchange.specs.Steps.{Joint, LinkedInput, Happens, Receives, Turns, derived, frames_so_far, next_joint, reply_to, sends_of}
use Rattle.linked_exchange.specs.Runs.{start_joint}
use Rattle.exchange_laws.specs.Layers.{BeginsLinked}
use Rattle.exchange_laws.specs.Sides.{as_user}

-- ---- the line in a step

-- the frames of a step that are sent on the line
abbrev pub frames_on : ℕ → List ℕ → List (List ℕ) → List (List ℕ)
frames_on line [] frames = []
frames_on line (n ∷ lines) [] = []
frames_on line (n ∷ lines) (octets ∷ frames) = if n == line then octets ∷ frames_on line lines frames else frames_on line lines frames

-- the messages of call control to the user of the line
abbrev pub messages_to : ℕ → List Signal → List (List ℕ)
messages_to line [] = []
messages_to line (m ∷ ms) = if m.line == line then m.octets ∷ messages_to line ms else messages_to line ms

-- the messages to the user of the line in a step
abbrev pub messages_in : Setting → LinkTimers → ℕ → Joint → LinkedInput → List (List ℕ)
messages_in s timers line j input = messages_to line (sends_of (reply_to s j.world (derived timers j input)))

-- the messages that call control receives from the user of the line
abbrev pub message_from : ℕ → Event → List (List ℕ)
message_from line (Message n m) = if n == line then m ∷ [] else []
message_from line _ = []

abbrev pub messages_from : ℕ → List Event → List (List ℕ)
messages_from line [] = []
messages_from line (e ∷ es) = message_from line e ++ messages_from line es

-- if call control is informed of a change of the link, the newest epoch ends
abbrev pub epochs_after_event : ℕ → Event → List (List (List ℕ)) → List (List (List ℕ))
epochs_after_event line (LinkUp n) epochs = if n == line then [] ∷ epochs else epochs
epochs_after_event line (LinkDown n) epochs = if n == line then [] ∷ epochs else epochs
epochs_after_event line _ epochs = epochs

abbrev pub epochs_told : ℕ → List Event → List (List (List ℕ)) → List (List (List ℕ))
epochs_told line [] epochs = epochs
epochs_told line (e ∷ es) epochs = epochs_told line es (epochs_after_event line e epochs)

-- the event is not a message from the user of the line, and not a change of its data link
abbrev pub IsBeside : ℕ → Event → Type 0
IsBeside line (Message other m) = other ≢ line
IsBeside line (LinkUp other) = other ≢ line
IsBeside line (LinkDown other) = other ≢ line
IsBeside line _ = Unit {0}

abbrev pub IsBesideIn : ℕ → LinkedInput → Type 0
IsBesideIn line (Happens e) = IsBeside line e
IsBesideIn line _ = Unit {0}

-- ---- the exchange and the user

-- the exchange; the link of the user; the octets on the wire to the user, and on the wire to the exchange before the user sends them as such, oldest
-- first; the messages of call control and of the user, divided by the indications, newest epoch first; and the messages delivered to each of them
pub record Attached : Type 0 where
  pub exchange : Joint
  pub user : DataLink
  pub there : List (List ℕ)
  pub back : List (List ℕ)
  pub sent : List (List (List ℕ))
  pub said : List (List (List ℕ))
  pub arrived : List (List ℕ)
  pub returned : List (List ℕ)

-- a step of the exchange with an input that is not a frame of the line; a step with the oldest frame of the user; the loss of this frame; or an act of
-- the user
pub data Happening : Type 0 where
  Steps : LinkedInput → Happening
  Arrives : Happening
  Loses : Happening
  Acts : Act → Happening

abbrev pub the_link : Option DataLink → DataLink
the_link None = initial 0
the_link (Some l) = l

-- the link of the line
abbrev pub link_on : ℕ → Joint → DataLink
link_on line j = the_link (link_of line j.links)

-- the two links, each the peer of the other
abbrev pub pair_on : ℕ → Attached → Pair
pair_on line a = record {
  first = link_on line a.exchange;
  second = a.user;
  there = a.there;
  back = a.back;
  submitted = [];
  replied = [];
  arrived = a.arrived;
  returned = a.returned;
}

-- the exchange comes into a state after these events and messages
abbrev pub with_exchange : ℕ → Joint → List Event → List (List ℕ) → List (List ℕ) → Attached → Attached
with_exchange line j es messages rest a = record {
  exchange = j;
  user = a.user;
  there = a.there ++ frames_on line j.links.lines j.links.frames;
  back = rest;
  sent = with_messages messages (epochs_told line es a.sent);
  said = a.said;
  arrived = a.arrived;
  returned = a.returned ++ messages_from line es;
}

abbrev pub exchange_steps : Setting → LinkTimers → ℕ → LinkedInput → List (List ℕ) → Attached → Attached
exchange_steps s timers line input rest a =
    with_exchange line (next_joint s timers a.exchange input) (derived timers a.exchange input) (messages_in s timers line a.exchange input) rest a

-- the frame of the user arrives with its C/R bit (3.3.2)
abbrev pub exchange_receives : Setting → LinkTimers → ℕ → List (List ℕ) → Attached → Attached
exchange_receives s timers line [] a = a
exchange_receives s timers line (octets ∷ rest) a = exchange_steps s timers line (Receives line (as_user octets)) rest a

abbrev pub with_user : Pair → List (List (List ℕ)) → Attached → Attached
with_user p said a = record {
  exchange = a.exchange;
  user = p.first;
  there = p.back;
  back = p.there;
  sent = a.sent;
  said = said;
  arrived = p.returned;
  returned = a.returned;
}

abbrev pub user_acts : ℕ → Act → Attached → Attached
user_acts line act a = with_user (acts (mirror (pair_on line a)) act) (epochs_after (mirror (pair_on line a)) act a.said) a

abbrev pub happens : Setting → LinkTimers → ℕ → Attached → Happening → Attached
happens s timers line a (Steps input) = exchange_steps s timers line input a.back a
happens s timers line a Arrives = exchange_receives s timers line a.back a
happens s timers line a Loses = record a { back = younger a.back }
happens s timers line a (Acts act) = user_acts line act a

abbrev pub run : Setting → LinkTimers → ℕ → List Happening → Attached → Attached
run s timers line [] a = a
run s timers line (h ∷ hs) a = run s timers line hs (happens s timers line a h)

-- both links are at their start, and nothing is on the wires
abbrev pub attached : Setting → List Bool → ℕ → Attached
attached s linked at = record {
  exchange = start_joint s linked;
  user = initial at;
  there = [];
  back = [];
  sent = [] ∷ [];
  said = [] ∷ [];
  arrived = [];
  returned = [];
}

-- ---- the premises

-- only the user sends on the line
abbrev pub IsOther : ℕ → LinkedInput → Type 0
IsOther line (Happens e) = IsBeside line e
IsOther line (Receives n octets) = n ≢ line
IsOther line Turns = Unit {0}

-- a message of call control has at most 112 octets
abbrev pub AreShort : Setting → LinkTimers → ℕ → Joint → LinkedInput → Type 0
AreShort s timers line j input = All IsShort (messages_in s timers line j input)

-- T200 of the link in state 5 expires only if neither its SABME nor the UA is on the wires
abbrev pub IsTimelyIn : LinkTimers → ℕ → Attached → LinkedInput → Type 0
IsTimelyIn timers line a Turns =
    line_of_turn (frames_so_far a.exchange) ≡ line → IsTimelyAct (pair_on line a) (epochs.Steps (epochs.Turn timers) [] (frames_so_far a.exchange))
IsTimelyIn timers line a _ = Unit {0}

abbrev pub ArriveShort : Setting → LinkTimers → ℕ → Joint → List (List ℕ) → Type 0
ArriveShort s timers line j [] = Unit {0}
ArriveShort s timers line j (octets ∷ rest) = AreShort s timers line j (Receives line (as_user octets))

abbrev pub IsAllowed : Setting → LinkTimers → ℕ → Attached → Happening → Type 0
IsAllowed s timers line a (Steps input) = IsOther line input × AreShort s timers line a.exchange input × IsTimelyIn timers line a input
IsAllowed s timers line a Arrives = ArriveShort s timers line a.exchange a.back
IsAllowed s timers line a Loses = Unit {0}
IsAllowed s timers line a (Acts act) = IsTimelyAct (mirror (pair_on line a)) act

abbrev pub AreAllowed : Setting → LinkTimers → ℕ → List Happening → Attached → Type 0
AreAllowed s timers line [] a = Unit {0}
AreAllowed s timers line (h ∷ hs) a = IsAllowed s timers line a h × AreAllowed s timers line hs (happens s timers line a h)

-- ---- what is delivered

-- after anything that can happen on a line that begins with a data link
abbrev pub AlwaysOn : (ℕ → Attached → Type 0) → Type 0
AlwaysOn Holds = (s : Setting) (timers : LinkTimers) (linked : List Bool) (line at : ℕ) (hs : List Happening) → BeginsLinked linked line
    → AreAllowed s timers line hs (attached s linked at) → Holds line (run s timers line hs (attached s linked at))

-- a prefix of each epoch is delivered, both ways
abbrev pub IsInOrderOrTold : ℕ → Attached → Type 0
IsInOrderOrTold line a = IsParted a.sent a.arrived × IsParted a.said a.returned

-- the newest epoch loses nothing while the link is up, both ways
abbrev pub HasArrived : ℕ → Attached → Type 0
HasArrived line a =
    (is_up (link_on line a.exchange) ≡ true → HasArrivedFrom (link_on line a.exchange).queue a.sent a.arrived)
    × (is_up a.user ≡ true → HasArrivedFrom a.user.queue a.said a.returned)
