-- The records of calls whose clearing has begun. Source: this project.
use Rattle.std.specs.Prelude.{ℕ, ◌==◌, ◌&&◌, not, Bool, false, List, [], ◌∷◌, length, filter_map, Option, Some, None, option_map, option_and_then, if◌then◌else◌}
use Rattle.std.specs.List.{range_with_len}
use Rattle.circuit_model.specs.declared.channel.Slot.{Slot}
use Rattle.circuit_model.specs.declared.circuit.Circuit.{Circuit}
use Rattle.circuit_model.specs.Circuits.{heard_by, first_frame_of}
use Rattle.control_memory.specs.Layout.{slot_numbered}
use Rattle.q931_codec.specs.CallStates.{outgoing_call_proceeding, call_delivered, active}
use Rattle.call_states.specs.declared.leg.Leg.{Leg}
use Rattle.call_states.specs.declared.leg.Peer.{Peer}
use Rattle.call_states.specs.declared.leg.Peer.TheVariants as peer
use Rattle.call_states.specs.declared.leg.Side.TheVariants.{Caller}
use Rattle.call_states.specs.Acts.{is_among}
use Rattle.call_states.specs.declared.leg.HeldLeg.{HeldLeg}
use Rattle.exchange_events.specs.declared.record.CallRecord.{CallRecord}
use Rattle.exchange_events.specs.declared.record.Party.{Party}
use Rattle.exchange_events.specs.declared.record.Party.TheVariants as party
use Rattle.call_profile.specs.Legs.{leg_at, held_at, same_side}
use Rattle.call_profile.specs.World.{World}

-- the states of a caller's leg until clearing begins
abbrev pub before_clearing : List ℕ
before_clearing = outgoing_call_proceeding ∷ call_delivered ∷ active ∷ []

-- the caller's leg of a call whose clearing has not begun
abbrev pub is_calling : Option Leg → Bool
is_calling None = false
is_calling (Some leg) = same_side Caller leg.side && is_among before_clearing leg.state

abbrev pub party_of : Peer → Option Party
party_of peer.Alone = None
party_of (peer.Leg y) = Some (party.Line y)
party_of (peer.Room room) = Some (party.Room room)

-- the first frame of the circuit by which a slot receives
abbrev pub since_heard : ℕ → Option Circuit → ℕ
since_heard next None = next
since_heard next (Some c) = first_frame_of c

-- the first frame of the conversation, if there was one
abbrev pub conversation_begin : World → HeldLeg → ℕ
conversation_begin w h = if h.leg.state == active then since_heard w.holding.next (heard_by w.holding.circuits h.slot) else w.holding.next

abbrev pub record_of : World → ℕ → HeldLeg → Option CallRecord
record_of w cause h = option_map (λ called. record {
  caller = h.slot;
  called = called;
  answered = h.leg.state == active;
  from = conversation_begin w h;
  to = w.holding.next;
  cause = cause;
}) (party_of h.leg.peer)

-- the call of the caller at a slot existed before, and has ended
abbrev pub is_ended : World → World → Slot → Bool
is_ended before after x = is_calling (leg_at before.legs x) && not (is_calling (leg_at after.legs x))

-- the record of a slot whose caller's call was ended
abbrev pub record_at : World → World → ℕ → Slot → Option CallRecord
record_at before after cause x = if is_ended before after x then option_and_then (record_of before cause) (held_at before.legs x) else None

-- the records of the calls that were ended
abbrev pub records : World → World → ℕ → List CallRecord
records before after cause = filter_map (λ n. record_at before after cause (slot_numbered n)) (range_with_len 0 (length before.legs.held))

-- the records with a cause; no records without one
abbrev pub records_by : World → World → Option ℕ → List CallRecord
records_by before after None = []
records_by before after (Some cause) = records before after cause
