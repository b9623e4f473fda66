-- The messages of two links across establishments, divided by the indications to layer 3 (ITU-T Q.921 (09/97), 5.5 and 5.7). An epoch is what a side
-- submits between two indications DL-ESTABLISH or DL-RELEASE that it gets.
use Rattle.std.specs.Prelude.{◌≡◌, ℕ, ◌+◌, ◌≤◌, nat_le, true, List, [], ◌∷◌, ◌++◌, length, take, drop, Option, Some, None, if◌then◌else◌}
use Rattle.link_frames.specs.declared.frame.Sender.TheVariants.{Network}
use Rattle.link_frames.specs.declared.frame.Frame.{Frame}
use Rattle.link_frames.specs.Reading.{reading}
use Rattle.link_procedures.specs.declared.state.Indication.{Indication}
use Rattle.link_procedures.specs.declared.state.Indication.TheVariants as indication
use Rattle.link_procedures.specs.declared.state.LinkTimers.{LinkTimers}
use Rattle.link_procedures.specs.Links.{SendQueue, Step, step, is_awaiting, is_up}
use Rattle.link_procedures.specs.Sending.{finished}
use Rattle.link_procedures.specs.Establishment.{Outcome, quietly, submitted}
use Rattle.link_procedures.specs.Receiving.{received}
use Rattle.link_procedures.specs.Timing.{is_due, turned}
use Rattle.link_laws.specs.TwoLinks.{Pair, mirror, stepped, as_step, message_of, loses}
use Rattle.link_laws.specs.Numberings.{IsStart, is_sabme, is_ua, Without}

-- ---- a step of the first link

-- a step begins with the oldest frame on the wire, with the turn of the link, or with messages of layer 3 only
pub data Cause : Type 0 where
  Arrival : Cause
  Turn : LinkTimers → Cause
  Request : Cause

-- a step, with the messages that layer 3 submits in it, in a frame of the exchange; or the loss of the oldest frame on the wire to the link
pub data Act : Type 0 where
  Steps : Cause → List (List ℕ) → ℕ → Act
  Lose : Act

pub data Event : Type 0 where
  First : Act → Event
  Second : Act → Event

abbrev pub oldest : List (List ℕ) → Option Frame
oldest [] = None
oldest (octets ∷ rest) = reading Network octets

abbrev pub younger : List (List ℕ) → List (List ℕ)
younger [] = []
younger (octets ∷ rest) = rest

abbrev pub outcome_of : Pair → ℕ → Option Frame → Outcome
outcome_of p at None = quietly (step p.first [])
outcome_of p at (Some f) = received f at (step p.first [])

abbrev pub outcome : Pair → Cause → ℕ → Outcome
outcome p Arrival at = outcome_of p at (oldest p.back)
outcome p (Turn t) at = turned t at (step p.first [])
outcome p Request at = quietly (step p.first [])

abbrev pub remaining : Pair → Cause → List (List ℕ)
remaining p Arrival = younger p.back
remaining p _ = p.back

-- the message that the step delivers
abbrev pub message_in : Pair → ℕ → Option Frame → List (List ℕ)
message_in p at None = []
message_in p at (Some f) = message_of f (received f at (step p.first [])).indication

abbrev pub delivery : Pair → Cause → ℕ → List (List ℕ)
delivery p Arrival at = message_in p at (oldest p.back)
delivery p _ at = []

-- the messages of layer 3 have at most 112 octets
abbrev pub submits : List (List ℕ) → ℕ → Step → Step
submits [] at s = s
submits (m ∷ messages) at s = submits messages at (if nat_le (length m) 112 then submitted m at s else s)

abbrev pub acts : Pair → Act → Pair
acts p (Steps cause messages at) = stepped p (finished at (submits messages at (as_step (outcome p cause at)))) (remaining p cause) (p.submitted ++ messages) (p.returned ++ delivery p cause at)
acts p Lose = loses p p.back

-- ---- epochs, newest first

-- an indication ends the newest epoch
abbrev pub after_indication : Option Indication → List (List (List ℕ)) → List (List (List ℕ))
after_indication (Some indication.Established) epochs = [] ∷ epochs
after_indication (Some indication.Released) epochs = [] ∷ epochs
after_indication _ epochs = epochs

-- a message belongs to the newest epoch
abbrev pub with_message : List ℕ → List (List (List ℕ)) → List (List (List ℕ))
with_message m [] = (m ∷ []) ∷ []
with_message m (epoch ∷ older) = (epoch ++ m ∷ []) ∷ older

abbrev pub with_messages : List (List ℕ) → List (List (List ℕ)) → List (List (List ℕ))
with_messages [] epochs = epochs
with_messages (m ∷ messages) epochs = with_messages messages (if nat_le (length m) 112 then with_message m epochs else epochs)

-- layer 3 submits messages after the indication that the step brings
abbrev pub epochs_after : Pair → Act → List (List (List ℕ)) → List (List (List ℕ))
epochs_after p (Steps cause messages at) epochs = with_messages messages (after_indication (outcome p cause at).indication epochs)
epochs_after p Lose epochs = epochs

-- ---- two links, and the epochs of each side

pub record Story : Type 0 where
  pub pair : Pair
  pub first : List (List (List ℕ))
  pub second : List (List (List ℕ))

abbrev pub begin : Pair → Story
begin p = record { pair = p; first = [] ∷ []; second = [] ∷ [] }

abbrev pub next : Story → Event → Story
next s (First a) = record { pair = acts s.pair a; first = epochs_after s.pair a s.first; second = s.second }
next s (Second a) = record { pair = mirror (acts (mirror s.pair) a); first = s.first; second = epochs_after (mirror s.pair) a s.second }

abbrev pub run : List Event → Story → Story
run [] s = s
run (e ∷ es) s = run es (next s e)

-- T200 of a link in state 5 expires only if neither its SABME nor the UA is on the wires
abbrev pub IsTimelyAct : Pair → Act → Type 0
IsTimelyAct p (Steps (Turn t) messages at) = is_awaiting p.first.state ≡ true → is_due t at p.first.timer ≡ true → Without is_sabme p.there × Without is_ua p.back
IsTimelyAct p _ = Unit {0}

abbrev pub IsTimelyEvent : Pair → Event → Type 0
IsTimelyEvent p (First a) = IsTimelyAct p a
IsTimelyEvent p (Second a) = IsTimelyAct (mirror p) a

abbrev pub IsTimely : List Event → Story → Type 0
IsTimely [] s = Unit {0}
IsTimely (e ∷ es) s = IsTimelyEvent s.pair e × IsTimely es (next s e)

-- after any events, from the start of both links, if T200 is longer than the way there and back
abbrev pub Always : (Story → Type 0) → Type 0
Always Holds = (events : List Event) (p : Pair) → IsStart p → IsTimely events (begin p) → Holds (run events (begin p))

-- ---- what is delivered

-- a prefix of each epoch is delivered, oldest epoch first: what an epoch loses is its end, and the indication that ends the epoch follows the loss
abbrev pub IsParted : List (List (List ℕ)) → List (List ℕ) → Type 0
IsParted [] delivered = delivered ≡ []
IsParted (epoch ∷ older) delivered = (n : ℕ) × (before : List (List ℕ)) × (delivered ≡ before ++ take n epoch) × IsParted older before

abbrev pub IsInOrderOrTold : Story → Type 0
IsInOrderOrTold s = IsParted s.first s.pair.arrived × IsParted s.second s.pair.returned

-- the newest epoch loses nothing: its messages that left the queue were delivered, and no more of them than are sent and not acknowledged
pub record HasArrived (queue : SendQueue) (epoch : List (List ℕ)) (older : List (List (List ℕ))) (delivered : List (List ℕ)) : Type 0 where
  pub before : List (List ℕ)
  pub parted : IsParted older before
  pub part : ℕ
  pub taken : delivered ≡ before ++ take part epoch
  pub submitted : part ≤ length epoch
  pub acknowledged : ℕ
  pub kept : queue.waiting ≡ drop acknowledged epoch
  pub arrived : acknowledged ≤ part
  pub unacknowledged : part ≤ acknowledged + queue.sent
  pub window : queue.sent ≤ 7

abbrev pub HasArrivedFrom : SendQueue → List (List (List ℕ)) → List (List ℕ) → Type 0
HasArrivedFrom queue [] delivered = ⊥
HasArrivedFrom queue (epoch ∷ older) delivered = HasArrived queue epoch older delivered

-- while the link is up for layer 3
abbrev pub HasArrivedBothWays : Story → Type 0
HasArrivedBothWays s =
    (is_up s.pair.first ≡ true → HasArrivedFrom s.pair.first.queue s.first s.pair.arrived)
    × (is_up s.pair.second ≡ true → HasArrivedFrom s.pair.second.queue s.second s.pair.returned)
