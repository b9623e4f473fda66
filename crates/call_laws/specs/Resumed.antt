-- The exchange state after the establishment of a data link. Source: ITU-T Q.931 (05/98), 5.8.8 to 5.8.10.
use Rattle.std.specs.Prelude.{◌≡◌, ℕ, ◌==◌, option_map, if◌then◌else◌, true}
use Rattle.circuit_model.specs.declared.channel.Slot.{Slot}
use Rattle.circuit_model.specs.Extent.{IsExternal}
use Rattle.q931_codec.specs.CallStates.{active, overlap_sending, release_request}
use Rattle.q931_codec.specs.Causes.{temporary_failure}
use Rattle.call_states.specs.declared.leg.Leg.{Leg}
use Rattle.call_profile.specs.Acts.{in_disconnect_indication, with_enquiry}
use Rattle.call_profile.specs.Legs.{leg_at, retransmitted_from}
use Rattle.call_profile.specs.Operations.{begun}
use Rattle.call_profile.specs.World.{World}

-- a leg of the line: in active it waits for the link no longer, and its user is sent STATUS ENQUIRY; in overlap
-- sending it is cleared with cause 41; in release request RELEASE is retransmitted to its user, and T308 restarts; in
-- every other state it is unchanged
abbrev pub resumed : World → Leg → Leg
resumed w leg =
    if leg.state == active then begun w (with_enquiry true leg)
    else if leg.state == overlap_sending then begun w (in_disconnect_indication temporary_failure leg)
    else if leg.state == release_request then retransmitted_from w.holding.next leg
    else leg

-- a leg of any line
abbrev pub resumed_on : ℕ → World → Slot → Leg → Leg
resumed_on line w x leg = if x.line == line then resumed w leg else leg

-- each slot has the leg that the establishment leaves, and no leg where none was
abbrev pub LegsAreResumed : ℕ → ℕ → World → World → Type 0
LegsAreResumed external line before afterwards =
    (x : Slot) → IsExternal external x → leg_at afterwards.legs x ≡ option_map (resumed_on line before x) (leg_at before.legs x)
