-- The exchange state after the failure of a data link. Source: ITU-T Q.931 (05/98), 5.8.9; the clearing of the rest of a
-- call is this project's profile.
use Rattle.std.specs.Prelude.{◌≡◌, ◌≢◌, ◌<◌, ℕ, ◌==◌, None, Some, ◌&&◌, not, if◌then◌else◌, true, false}
use Rattle.circuit_model.specs.declared.channel.Slot.{Slot}
use Rattle.circuit_model.specs.Extent.{IsExternal}
use Rattle.q931_codec.specs.CallStates.{active}
use Rattle.q931_codec.specs.Causes.{destination_out_of_order}
use Rattle.call_states.specs.declared.leg.Leg.{Leg}
use Rattle.call_states.specs.declared.leg.Peer.{Peer}
use Rattle.call_states.specs.declared.leg.Peer.TheVariants as peer
use Rattle.exchange_events.specs.Sizes.{Setting}
use Rattle.call_profile.specs.Acts.{in_disconnect_indication, with_enquiry}
use Rattle.call_profile.specs.LegStanding.{CallsStand}
use Rattle.call_profile.specs.Legs.{leg_at, retransmitted_from}
use Rattle.call_profile.specs.Operations.{begun}
use Rattle.call_profile.specs.World.{World}
use Rattle.call_profile.specs.LinkChanges.{being_cleared}
use Rattle.call_states.specs.Acts.{is_among}

-- the line exists, in an exchange in which circuits and legs are consistent
pub record HasLine (s : Setting) (w : World) (line : ℕ) : Type 0 where
  pub stands : CallsStand s w
  pub line_exists : line < s.dimensions.external

-- a leg in active of the line, which waits for the data link, and whose user is asked again when the link is up: its
-- wait does not restart if it waits already
abbrev pub waiting_for_link : World → Leg → Leg
waiting_for_link w leg = if leg.resent then leg else retransmitted_from w.holding.next (with_enquiry false leg)

-- a leg of another line, whose call had its other leg there: cleared with cause 27, unless the call is active
abbrev pub left_by_failure : ℕ → World → Leg → Peer → Leg
left_by_failure line w leg peer.Alone = leg
left_by_failure line w leg (peer.Leg y) = if (y.line == line) && not (leg.state == active) then begun w (in_disconnect_indication destination_out_of_order leg) else leg
left_by_failure line w leg (peer.Room room) = leg

-- each leg of the line in another state is removed, unless it is being cleared
abbrev pub OthersAreGone : ℕ → ℕ → World → World → Type 0
OthersAreGone external line before afterwards =
    (x : Slot) (leg : Leg) → IsExternal external x → x.line ≡ line → leg_at before.legs x ≡ Some leg → leg.state ≢ active
    → is_among being_cleared leg.state ≡ false → leg_at afterwards.legs x ≡ None

-- each leg of the line that is being cleared is unchanged: T305 or T308 goes on
abbrev pub ClearedStay : ℕ → ℕ → World → World → Type 0
ClearedStay external line before afterwards =
    (x : Slot) (leg : Leg) → IsExternal external x → x.line ≡ line → leg_at before.legs x ≡ Some leg → is_among being_cleared leg.state ≡ true
    → leg_at afterwards.legs x ≡ Some leg

-- each leg of the line in active waits
abbrev pub ActiveWait : ℕ → ℕ → World → World → Type 0
ActiveWait external line before afterwards =
    (x : Slot) (leg : Leg) → IsExternal external x → x.line ≡ line → leg_at before.legs x ≡ Some leg → leg.state ≡ active
    → leg_at afterwards.legs x ≡ Some (waiting_for_link before leg)

-- each leg of another line is the one that the failure leaves
abbrev pub OtherLinesAreLeft : ℕ → ℕ → World → World → Type 0
OtherLinesAreLeft external line before afterwards =
    (x : Slot) (leg : Leg) → IsExternal external x → x.line ≢ line → leg_at before.legs x ≡ Some leg
    → leg_at afterwards.legs x ≡ Some (left_by_failure line before leg leg.peer)
