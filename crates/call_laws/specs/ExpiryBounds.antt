-- The limits of a frame's turn, and the legs and circuits that it preserves. Source: this project.
use Rattle.std.specs.Prelude.{◌≡◌, ℕ, ◌*◌, ◌≤◌, ◌%◌, Bool, true, false, List, [], ◌∷◌, length, ◌⊎◌, Some, is_some, IfSome, ◌≢◌}
use Rattle.std.specs.List.{filter}
use Rattle.circuit_model.specs.declared.channel.Slot.{Slot}
use Rattle.circuit_model.specs.Extent.{IsExternal}
use Rattle.circuit_model.specs.declared.circuit.Circuit.{Circuit}
use Rattle.circuit_model.specs.declared.circuit.Circuit.TheVariants.{Pair, Member, Tone}
use Rattle.q931_codec.specs.CallStates.{active}
use Rattle.call_timers.specs.declared.expiry.Expiry.TheVariants as expiry
use Rattle.call_timers.specs.declared.timers.Timers.{Timers}
use Rattle.call_states.specs.Acts.{is_among}
use Rattle.call_states.specs.declared.leg.Leg.{Leg}
use Rattle.call_states.specs.declared.leg.Peer.TheVariants as peer
use Rattle.circuit_model.specs.FrameInput.{Input}
use Rattle.exchange_events.specs.Sizes.{Setting}
use Rattle.call_profile.specs.Expiring.{due_of, outcome_of_frame}
use Rattle.call_profile.specs.Legs.{Legs, leg_at}
use Rattle.call_profile.specs.World.{World, pass}

-- at most two messages for each external line
abbrev pub SendsFew : Setting → World → Input → Type 0
SendsFew s w input = length (outcome_of_frame s w input).making.sends ≤ 2 * s.dimensions.external

-- at most one record for each external line
abbrev pub RecordsFew : Setting → World → Input → Type 0
RecordsFew s w input = length (outcome_of_frame s w input).recorded ≤ s.dimensions.external

-- ---- the legs

-- the timer of this leg expires in a frame: the frame examines its slot, and the timer is due
pub record RunsOut (timers : Timers) (frame : ℕ) (legs : Legs) (x : Slot) (leg : Leg) : Type 0 where
  pub looked : x.place ≡ frame % 30
  pub at : leg_at legs x ≡ Some leg
  pub due : is_some (due_of timers frame leg) ≡ true

-- the timer of its peer, the other leg of its call, expires
abbrev pub PeerRunsOut : Timers → ℕ → Legs → Leg → Type 0
PeerRunsOut timers frame legs leg = (y : Slot) × (other : Leg) × (leg.peer ≡ peer.Leg y) × RunsOut timers frame legs y other

abbrev pub EitherRunsOut : Timers → ℕ → Legs → Slot → Type 0
EitherRunsOut timers frame legs x = (leg : Leg) × (leg_at legs x ≡ Some leg) × (RunsOut timers frame legs x leg ⊎ PeerRunsOut timers frame legs leg)

-- a slot has another leg afterwards, or none, only if its leg's timer expires, or its peer's does
abbrev pub NoneElseChanges : Setting → World → Input → Type 0
NoneElseChanges s w input =
    (x : Slot) → IsExternal s.dimensions.external x
    → let after = (outcome_of_frame s w input).making.world.legs in
    (leg_at after x ≡ leg_at w.legs x) ⊎ EitherRunsOut s.timers w.holding.next w.legs x

-- the data link of no leg's line has been down too long: T309 of no leg expires in the frame
abbrev pub NoneIsLost : Timers → ℕ → Legs → Type 0
NoneIsLost timers frame legs = (x : Slot) (leg : Leg) → leg_at legs x ≡ Some leg → due_of timers frame leg ≢ Some expiry.Outage

-- the state in which neither a leg nor the other leg of its call has a timer, unless a data link is down
abbrev pub without_timers : List ℕ
without_timers = active ∷ []

-- a leg in this state is unchanged
abbrev pub UntimedStay : Setting → World → Input → Type 0
UntimedStay s w input =
    (x : Slot) (leg : Leg) → IsExternal s.dimensions.external x → leg_at w.legs x ≡ Some leg → is_among without_timers leg.state ≡ true
    → leg_at (outcome_of_frame s w input).making.world.legs x ≡ Some leg

-- each leg is unchanged, or its wait restarts in the frame after, so that it is not due again in the same frame
abbrev pub EachStaysOrBegins : Setting → World → Input → Type 0
EachStaysOrBegins s w input =
    (x : Slot) → IsExternal s.dimensions.external x
    → let after = (outcome_of_frame s w input).making.world.legs in
    (leg_at after x ≡ leg_at w.legs x) ⊎ IfSome (leg_at after x) (λ leg. leg.since ≡ (pass w input).holding.next)

-- ---- the circuits

-- a connection or a membership, and not a tone
abbrev pub is_conversation : Circuit → Bool
is_conversation (Pair from to since) = true
is_conversation (Member room at since) = true
is_conversation (Tone kind to since) = false

-- each connection and each membership is unchanged
abbrev pub ConversationsStay : Setting → World → Input → Type 0
ConversationsStay s w input =
    filter is_conversation (outcome_of_frame s w input).making.world.holding.circuits ≡ filter is_conversation w.holding.circuits

-- each path and each member's port is unchanged
abbrev pub LayoutStays : Setting → World → Input → Type 0
LayoutStays s w input = (outcome_of_frame s w input).making.world.layout ≡ w.layout

abbrev pub PortsStay : Setting → World → Input → Type 0
PortsStay s w input = (outcome_of_frame s w input).making.world.ports ≡ w.ports
