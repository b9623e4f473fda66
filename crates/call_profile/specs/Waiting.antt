-- Numbers in overlap sending. Source: ITU-T Q.931 (05/98), 5.1.3; the rest is this project's.
use Rattle.std.specs.Prelude.{◌≡◌, ◌≢◌, ℕ, ◌*◌, List, length, Option, Some, None, option_map}
use Rattle.circuit_model.specs.declared.channel.Slot.{Slot}
use Rattle.circuit_model.specs.Circuits.{heard_by}
use Rattle.circuit_model.specs.Extent.{IsExternal}
use Rattle.number_plan.specs.declared.plan.Number.{Number}
use Rattle.number_plan.specs.declared.target.Found.TheVariants.{More}
use Rattle.number_plan.specs.Plan.{found_for}
use Rattle.q931_codec.specs.CallStates.{overlap_sending}
use Rattle.q931_codec.specs.Contents.{dialled_digits}
use Rattle.call_states.specs.declared.leg.Leg.{Leg}
use Rattle.call_states.specs.declared.leg.Peer.TheVariants as peer
use Rattle.call_states.specs.declared.leg.Side.TheVariants.{Caller}
use Rattle.call_states.specs.declared.pending.Pending.{Pending}
use Rattle.call_states.specs.Pending.{FitsElements}
use Rattle.call_profile.specs.Legs.{Legs, leg_at, pending_at}
use Rattle.call_profile.specs.World.{World}
use Rattle.exchange_events.specs.Sizes.{Setting}

-- a leg in overlap sending: a caller's, without a peer; the digits so far are a proper prefix of a number
pub record IsWaiting (plan : List Number) (leg : Leg) (p : Pending) : Type 0 where
  pub state : leg.state ≡ overlap_sending
  pub calls : leg.side ≡ Caller
  pub alone : leg.peer ≡ peer.Alone
  pub dialled : option_map (found_for plan) (dialled_digits p.called) ≡ Some More
  pub fits : FitsElements p

-- a number is pending at a slot if and only if its leg is in overlap sending
abbrev pub MayWait : List Number → Option Leg → Option Pending → Type 0
MayWait plan None None = Unit {0}
MayWait plan None (Some p) = ⊥
MayWait plan (Some leg) None = leg.state ≢ overlap_sending
MayWait plan (Some leg) (Some p) = IsWaiting plan leg p

pub record NumbersPend (external : ℕ) (plan : List Number) (legs : Legs) : Type 0 where
  pub legs_count : length legs.held ≡ 30 * external
  pub count : length legs.pending ≡ 30 * external
  pub each : (x : Slot) → IsExternal external x → MayWait plan (leg_at legs x) (pending_at legs x)

-- ---- the pending numbers of an exchange state

-- its number is pending, and its slot is silent
pub record Waits (s : Setting) (w : World) (x : Slot) (leg : Leg) : Type 0 where
  pub number : Pending
  pub pends : pending_at w.legs x ≡ Some number
  pub waiting : IsWaiting s.plan leg number
  pub silent : heard_by w.holding.circuits x ≡ None

abbrev pub EachWaits : Setting → World → Type 0
EachWaits s w =
    (x : Slot) (leg : Leg) → IsExternal s.dimensions.external x → leg_at w.legs x ≡ Some leg → leg.state ≡ overlap_sending
    → Waits s w x leg

-- in no other state a number is pending
abbrev pub NoneElsePends : Setting → World → Type 0
NoneElsePends s w =
    (x : Slot) (p : Pending) → IsExternal s.dimensions.external x → pending_at w.legs x ≡ Some p
    → (leg : Leg) × (leg_at w.legs x ≡ Some leg) × (leg.state ≡ overlap_sending)
