-- The handshake that two links follow: each link is a side of it, and each octet string on a wire is a frame of it.
use Rattle.std.specs.Prelude.{◌≡◌, ℕ, ◌<◌, Bool, true, false, List, [], ◌∷◌, Option, Some, None}
use Rattle.link_frames.specs.declared.frame.Sender.TheVariants.{Network}
use Rattle.link_frames.specs.declared.frame.Control.{Control}
use Rattle.link_frames.specs.declared.frame.Control.TheVariants as control
use Rattle.link_frames.specs.declared.frame.Frame.{Frame}
use Rattle.link_frames.specs.Reading.{reading}
use Rattle.link_procedures.specs.declared.state.State.TheVariants as state
use Rattle.link_procedures.specs.Links.{DataLink, initial, is_multiple_frame, is_awaiting}
use Rattle.link_procedures.specs.Sending.{command, response}
use Rattle.link_procedures.specs.Timing.{is_due}
use Rattle.link_laws.specs.Handshake.{Signal, Sabme, Ua, Numbered, Side, Off, Calling, On, Pair as Handshake, Event as HandshakeEvent, run as shake, start}
use Rattle.link_laws.specs.TwoLinks.{Pair, mirror, Act, Turn, Event, First, Second, next}

-- two links at their start, with nothing on the wires
abbrev pub begun : ℕ → ℕ → Pair
begun first second = record {
  first = initial first;
  second = initial second;
  there = [];
  back = [];
  submitted = [];
  replied = [];
  arrived = [];
  returned = [];
}

abbrev pub IsStart : Pair → Type 0
IsStart p = (first : ℕ) × (second : ℕ) × (p ≡ begun first second)

abbrev pub run : List Event → Pair → Pair
run [] p = p
run (e ∷ es) p = run es (next p e)

-- ---- the premise of time

abbrev pub is_sabme : Control → Bool
is_sabme (control.Sabme poll) = true
is_sabme _ = false

abbrev pub is_ua : Control → Bool
is_ua (control.Ua final) = true
is_ua _ = false

abbrev pub is_in : (Control → Bool) → Option Frame → Bool
is_in kind None = false
is_in kind (Some f) = kind f.control

-- no such frame is on the wire
abbrev pub Without : (Control → Bool) → List (List ℕ) → Type 0
Without kind [] = Unit {0}
Without kind (octets ∷ rest) = (is_in kind (reading Network octets) ≡ false) × Without kind rest

-- T200 of a link in state 5 expires only if neither its SABME nor the UA is on the wires
abbrev pub IsTimelyAct : Pair → Act → Type 0
IsTimelyAct p (Turn t at) = is_awaiting p.first.state ≡ true → is_due t at p.first.timer ≡ true → Without is_sabme p.there × Without is_ua p.back
IsTimelyAct p _ = Unit {0}

abbrev pub IsTimelyEvent : Pair → Event → Type 0
IsTimelyEvent p (First a) = IsTimelyAct p a
IsTimelyEvent p (Second a) = IsTimelyAct (mirror p) a

abbrev pub IsTimely : List Event → Pair → Type 0
IsTimely [] p = Unit {0}
IsTimely (e ∷ es) p = IsTimelyEvent p e × IsTimely es (next p e)

-- ---- the handshake

abbrev pub IsSide : DataLink → Side → Type 0
IsSide l (Off g) = l.state ≡ state.TeiAssigned
IsSide l (Calling g) = l.state ≡ state.AwaitingEstablishment
IsSide l (On g t) = is_multiple_frame l.state ≡ true

-- an I or S frame
abbrev pub HasNumbers : Control → Type 0
HasNumbers (control.Information poll ns nr information) = nr < 128
HasNumbers (control.Supervisory kind pf nr) = nr < 128
HasNumbers _ = ⊥

abbrev pub HasNumbersIn : Option Frame → Type 0
HasNumbersIn (Some f) = HasNumbers f.control
HasNumbersIn None = ⊥

abbrev pub IsSignal : Option Frame → Signal → Type 0
IsSignal o (Sabme n) = o ≡ Some (command (control.Sabme true))
IsSignal o (Ua u) = o ≡ Some (response (control.Ua true))
IsSignal o (Numbered number acknowledged) = HasNumbersIn o

abbrev pub Carries : List (List ℕ) → List Signal → Type 0
Carries [] [] = Unit {0}
Carries [] (t ∷ ts) = ⊥
Carries (octets ∷ rest) [] = ⊥
Carries (octets ∷ rest) (t ∷ ts) = IsSignal (reading Network octets) t × Carries rest ts

-- the handshake has these links and wires
pub record Follows (p : Pair) (w : Handshake) : Type 0 where
  pub first : IsSide p.first w.first
  pub second : IsSide p.second w.second
  pub there : Carries p.there w.there
  pub back : Carries p.back w.back

-- some run of the handshake has these links and wires
abbrev pub FollowsSome : Pair → Type 0
FollowsSome p = (events : List HandshakeEvent) × Follows p (shake events start)
