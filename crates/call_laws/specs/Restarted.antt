-- The exchange state after a RESTART. Source: ITU-T Q.931 (05/98), 5.5; the clearing of the calls is this project's
-- profile.
use Rattle.std.specs.Prelude.{◌≡◌, ◌<◌, ℕ, List, true, false, None, Some, if◌then◌else◌}
use Rattle.circuit_model.specs.declared.channel.Slot.{Slot}
use Rattle.circuit_model.specs.Circuits.{heard_by}
use Rattle.circuit_model.specs.Extent.{IsExternal}
use Rattle.q931_codec.specs.Causes.{temporary_failure}
use Rattle.call_states.specs.declared.leg.Leg.{Leg}
use Rattle.call_states.specs.declared.leg.Peer.{Peer}
use Rattle.call_states.specs.declared.leg.Peer.TheVariants as peer
use Rattle.clearing_rules.specs.declared.scope.Restart.{Restart}
use Rattle.call_profile.specs.Acts.{in_disconnect_indication}
use Rattle.call_profile.specs.Calls.{Restarts, request_of}
use Rattle.call_profile.specs.LegStanding.{CallsStand}
use Rattle.call_profile.specs.Legs.{leg_at}
use Rattle.call_profile.specs.Operations.{begun}
use Rattle.call_profile.specs.Restarts.{restarts_slot}
use Rattle.exchange_events.specs.Sizes.{Setting}
use Rattle.call_profile.specs.World.{World}

-- the octets are an accepted RESTART, on a line of an exchange in which circuits and legs are consistent
pub record IsRestart (s : Setting) (w : World) (line : ℕ) (octets : List ℕ) (r : Restart) : Type 0 where
  pub stands : CallsStand s w
  pub line_exists : line < s.dimensions.external
  pub restarts : request_of w.legs line octets ≡ Restarts r

-- a leg at a slot that is not restarted: if the other leg of its call was at a restarted one, it is cleared with cause
-- 41, temporary failure
abbrev pub left_with : Restart → ℕ → World → Leg → Peer → Leg
left_with r line w leg peer.Alone = leg
left_with r line w leg (peer.Leg y) = if restarts_slot r line y then begun w (in_disconnect_indication temporary_failure leg) else leg
left_with r line w leg (peer.Room room) = leg

abbrev pub left_by : Restart → ℕ → World → Leg → Leg
left_by r line w leg = left_with r line w leg leg.peer

-- no leg holds the slot, and its circuit is unchanged: a nail or a seat stays
abbrev pub StaysUnheld : World → World → Slot → Type 0
StaysUnheld before afterwards x = (leg_at afterwards.legs x ≡ None) × (heard_by afterwards.holding.circuits x ≡ heard_by before.holding.circuits x)

-- no leg holds a restarted slot
abbrev pub RestartedAreEmpty : ℕ → Restart → ℕ → World → Type 0
RestartedAreEmpty external r line afterwards = (x : Slot) → IsExternal external x → restarts_slot r line x ≡ true → leg_at afterwards.legs x ≡ None

-- each leg at any other slot is the one that the RESTART leaves
abbrev pub OthersAreLeft : ℕ → Restart → ℕ → World → World → Type 0
OthersAreLeft external r line before afterwards =
    (x : Slot) (leg : Leg) → IsExternal external x → restarts_slot r line x ≡ false → leg_at before.legs x ≡ Some leg → leg_at afterwards.legs x ≡ Some (left_by r line before leg)

-- slots without a leg stay without one
abbrev pub UnheldStay : ℕ → World → World → Type 0
UnheldStay external before afterwards = (x : Slot) → IsExternal external x → leg_at before.legs x ≡ None → StaysUnheld before afterwards x
