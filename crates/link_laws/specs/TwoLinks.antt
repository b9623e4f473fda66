-- Two links, each the peer of the other, over wires that lose frames and preserve their order, between two establishments.
use Rattle.std.specs.Prelude.{◌≡◌, ℕ, ◌+◌, ◌≤◌, ◌&&◌, nat_le, Bool, true, List, [], ◌∷◌, ◌++◌, length, take, drop, All, Option, Some, None, if◌then◌else◌}
use Rattle.link_frames.specs.declared.frame.Sender.TheVariants.{Network}
use Rattle.link_frames.specs.declared.frame.Frame.{Frame}
use Rattle.link_frames.specs.Reading.{reading}
use Rattle.link_frames.specs.Writing.{information_in}
use Rattle.link_procedures.specs.declared.state.LinkTimers.{LinkTimers}
use Rattle.link_procedures.specs.declared.state.Indication.{Indication}
use Rattle.link_procedures.specs.declared.state.Indication.TheVariants as indication
use Rattle.link_procedures.specs.Links.{DataLink, Step, step, is_multiple_frame}
use Rattle.link_procedures.specs.Sending.{finished}
use Rattle.link_procedures.specs.Establishment.{Outcome, submitted}
use Rattle.link_procedures.specs.Receiving.{received}
use Rattle.link_procedures.specs.Timing.{turned}
use Rattle.link_procedures.specs.AnyPeer.{IsShort, IsRenumbered}

-- both links; the octets on the wire to the second link, and on the wire back, oldest first; the messages submitted to each link; and the messages
-- that each link delivered to its layer 3
pub record Pair : Type 0 where
  pub first : DataLink
  pub second : DataLink
  pub there : List (List ℕ)
  pub back : List (List ℕ)
  pub submitted : List (List ℕ)
  pub replied : List (List ℕ)
  pub arrived : List (List ℕ)
  pub returned : List (List ℕ)

abbrev pub mirror : Pair → Pair
mirror p = record {
  first = p.second;
  second = p.first;
  there = p.back;
  back = p.there;
  submitted = p.replied;
  replied = p.submitted;
  arrived = p.returned;
  returned = p.arrived;
}

-- a step of the first link in a frame of the exchange: a message of layer 3; its turn; or the arrival of the oldest frame; or the loss of that frame
pub data Act : Type 0 where
  Submit : List ℕ → ℕ → Act
  Turn : LinkTimers → ℕ → Act
  Arrive : ℕ → Act
  Lose : Act

pub data Event : Type 0 where
  First : Act → Event
  Second : Act → Event

-- the first link and the frames sent come from the step
abbrev pub stepped : Pair → Step → List (List ℕ) → List (List ℕ) → List (List ℕ) → Pair
stepped p t rest messages delivered = record {
  first = t.link;
  second = p.second;
  there = p.there ++ t.out;
  back = rest;
  submitted = messages;
  replied = p.replied;
  arrived = p.arrived;
  returned = delivered;
}

abbrev pub as_step : Outcome → Step
as_step o = step o.link o.out

-- the message that a frame delivers
abbrev pub message_of : Frame → Option Indication → List (List ℕ)
message_of f (Some indication.Data) = information_in f.control ∷ []
message_of f _ = []

abbrev pub submits : Pair → List ℕ → ℕ → Pair
submits p m at = stepped p (finished at (submitted m at (step p.first []))) p.back (p.submitted ++ m ∷ []) p.returned

abbrev pub turns : Pair → LinkTimers → ℕ → Pair
turns p t at = stepped p (finished at (as_step (turned t at (step p.first [])))) p.back p.submitted p.returned

-- the frame of a read string of octets
abbrev pub takes : Pair → ℕ → List (List ℕ) → Option Frame → Pair
takes p at rest None = stepped p (step p.first []) rest p.submitted p.returned
takes p at rest (Some f) =
    stepped p (finished at (as_step (received f at (step p.first [])))) rest p.submitted
    (p.returned ++ message_of f (received f at (step p.first [])).indication)

abbrev pub arrives : Pair → ℕ → List (List ℕ) → Pair
arrives p at [] = p
arrives p at (octets ∷ rest) = takes p at rest (reading Network octets)

abbrev pub loses : Pair → List (List ℕ) → Pair
loses p [] = p
loses p (octets ∷ rest) = stepped p (step p.first []) rest p.submitted p.returned

abbrev pub acts : Pair → Act → Pair
acts p (Submit m at) = if nat_le (length m) 112 then submits p m at else p
acts p (Turn t at) = turns p t at
acts p (Arrive at) = arrives p at p.back
acts p Lose = loses p p.back

abbrev pub next : Pair → Event → Pair
next p (First a) = acts p a
next p (Second a) = mirror (acts (mirror p) a)

-- both links are in multiple frame operation
abbrev pub is_running : Pair → Bool
is_running p = is_multiple_frame p.first.state && is_multiple_frame p.second.state

-- the run ends before the event that ends the operation of a link
abbrev pub run : List Event → Pair → Pair
run [] p = p
run (e ∷ es) p = if is_running (next p e) then run es (next p e) else p

-- both links have just been established, and nothing is on the wires
pub record IsFresh (p : Pair) : Type 0 where
  pub running : is_running p ≡ true
  pub first : IsRenumbered p.first
  pub second : IsRenumbered p.second
  pub there : p.there ≡ []
  pub back : p.back ≡ []
  pub submitted : p.submitted ≡ p.first.queue.waiting
  pub replied : p.replied ≡ p.second.queue.waiting
  pub short : All IsShort p.submitted × All IsShort p.replied
  pub arrived : p.arrived ≡ []
  pub returned : p.returned ≡ []

-- the messages delivered are a prefix of the submitted ones; those that left the queue arrived, and at most seven more
pub record IsDelivered (submitted delivered waiting : List (List ℕ)) : Type 0 where
  pub prefix : delivered ≡ take (length delivered) submitted
  pub acknowledged : ℕ
  pub kept : waiting ≡ drop acknowledged submitted
  pub arrived : acknowledged ≤ length delivered
  pub window : length delivered ≤ acknowledged + 7

abbrev pub IsDeliveredBothWays : Pair → Type 0
IsDeliveredBothWays p = IsDelivered p.submitted p.arrived p.first.queue.waiting × IsDelivered p.replied p.returned p.second.queue.waiting

-- if no sent message is unacknowledged, exactly the messages that have not arrived are waiting
abbrev pub WaitsUndelivered : DataLink → List (List ℕ) → List (List ℕ) → Type 0
WaitsUndelivered l submitted delivered = l.queue.sent ≡ 0 → l.queue.waiting ≡ drop (length delivered) submitted

abbrev pub WaitsBothWays : Pair → Type 0
WaitsBothWays p = WaitsUndelivered p.first p.submitted p.arrived × WaitsUndelivered p.second p.replied p.returned
