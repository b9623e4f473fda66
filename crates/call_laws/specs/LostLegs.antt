-- The expiry of T309 in a frame. Source: ITU-T Q.931 (05/98), 5.8.9; the clearing of the rest of the call is this
-- project's profile.
use Rattle.std.specs.Prelude.{◌≡◌, ◌≤◌, ◌%◌, ℕ, true, Contains, Some, None}
use Rattle.circuit_model.specs.declared.channel.Slot.{Slot}
use Rattle.circuit_model.specs.Circuits.{heard_by, is_idle}
use Rattle.circuit_model.specs.Extent.{IsExternal}
use Rattle.circuit_model.specs.FrameInput.{Input}
use Rattle.q931_codec.specs.CallStates.{active}
use Rattle.q931_codec.specs.Causes.{destination_out_of_order}
use Rattle.q931_codec.specs.Outgoing.{encoding}
use Rattle.call_timers.specs.declared.expiry.Expiry.TheVariants as expiry
use Rattle.call_timers.specs.declared.timers.Timers.{Timers}
use Rattle.call_states.specs.declared.leg.Leg.{Leg}
use Rattle.call_states.specs.declared.leg.Peer.TheVariants as peer
use Rattle.exchange_events.specs.declared.record.CallRecord.{CallRecord}
use Rattle.exchange_events.specs.declared.signal.Signal.{Signal}
use Rattle.exchange_events.specs.Sizes.{Setting}
use Rattle.tone_rules.specs.declared.tones.Tones.{Tones}
use Rattle.call_profile.specs.Acts.{disconnect, in_disconnect_indication, tone_of, with_progress}
use Rattle.call_profile.specs.EndedCalls.{record_ended}
use Rattle.call_profile.specs.Expiring.{due_of, outcome_of_frame}
use Rattle.call_profile.specs.Legs.{Legs, leg_at}
use Rattle.call_profile.specs.Operations.{begun}
use Rattle.call_profile.specs.World.{World, pass}

-- T309 of a leg expires in a frame: the frame examines its slot, and the timer is due
pub record IsLost (timers : Timers) (frame : ℕ) (legs : Legs) (x : Slot) (leg : Leg) : Type 0 where
  pub looked : x.place ≡ frame % 30
  pub at : leg_at legs x ≡ Some leg
  pub due : due_of timers frame leg ≡ Some expiry.Outage

-- T309 of a leg expires in the next frame, and its peer's does not on a lower line, which the frame would examine first
pub record IsLostFirst (s : Setting) (w : World) (x : Slot) (leg : Leg) : Type 0 where
  pub within : IsExternal s.dimensions.external x
  pub lost : IsLost s.timers w.holding.next w.legs x leg
  pub first : (y : Slot) (other : Leg) → leg.peer ≡ peer.Leg y → IsLost s.timers w.holding.next w.legs y other → x.line ≤ y.line

-- the other leg of the call of such a leg
pub record IsLeftBehind (s : Setting) (w : World) (y : Slot) (other : Leg) : Type 0 where
  pub at : leg_at w.legs y ≡ Some other
  pub lost : (x : Slot) × (leg : Leg) × IsLostFirst s w x leg × (leg.peer ≡ peer.Leg y)

-- T309 of neither leg of the call of a leg in active expires in the next frame
pub record NeitherIsLost (s : Setting) (w : World) (x : Slot) (leg : Leg) : Type 0 where
  pub within : IsExternal s.dimensions.external x
  pub at : leg_at w.legs x ≡ Some leg
  pub state : leg.state ≡ active
  pub own : ¬ IsLost s.timers w.holding.next w.legs x leg
  pub others : (y : Slot) (other : Leg) → leg.peer ≡ peer.Leg y → ¬ IsLost s.timers w.holding.next w.legs y other

-- ---- after the frame

-- no leg holds the slot, and no circuit uses it
pub record IsVacated (after : World) (x : Slot) : Type 0 where
  pub leg : leg_at after.legs x ≡ None
  pub idle : is_idle after.holding.circuits x ≡ true

-- the leg is cleared with cause 27, from the next frame on
abbrev pub cleared_by_outage : World → Leg → Leg
cleared_by_outage passed leg = begun passed (in_disconnect_indication destination_out_of_order leg)

-- DISCONNECT with cause 27 to the user of the leg, with a progress indicator if and only if its slot gets a tone
abbrev pub outage_signal : Tones → Slot → Leg → Signal
outage_signal tones y leg =
    let tone = tone_of tones (in_disconnect_indication destination_out_of_order leg) in
    record { line = y.line; octets = encoding (with_progress tone (disconnect leg destination_out_of_order)) }

-- the leg is cleared, and its user is sent DISCONNECT
pub record IsDisconnected (s : Setting) (w : World) (input : Input) (y : Slot) (leg : Leg) : Type 0 where
  pub cleared : leg_at (outcome_of_frame s w input).making.world.legs y ≡ Some (cleared_by_outage (pass w input) leg)
  pub sent : Contains (outcome_of_frame s w input).making.sends (outage_signal s.tones y leg)

-- the frame has the record of the leg's call, with cause 27
abbrev pub IsLossRecorded : Setting → World → Input → Slot → Leg → Type 0
IsLossRecorded s w input x leg =
    (told : CallRecord)
    × (record_ended (pass w input) (record { slot = x; leg = leg }) destination_out_of_order ≡ Some told)
    × Contains (outcome_of_frame s w input).recorded told

-- the leg is unchanged, and so is the circuit by which its slot receives: its connection or its membership
pub record IsUnchanged (s : Setting) (w : World) (input : Input) (x : Slot) (held : Leg) : Type 0 where
  pub leg : leg_at (outcome_of_frame s w input).making.world.legs x ≡ Some held
  pub hears : heard_by (outcome_of_frame s w input).making.world.holding.circuits x ≡ heard_by w.holding.circuits x
