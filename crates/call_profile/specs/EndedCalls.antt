-- The record of the call of a leg that begins to be cleared. It is made before the act, because the circuit with the
-- first frame of the conversation is removed by the act. Source: this project.
use Rattle.std.specs.Prelude.{ℕ, ◌==◌, List, [], Option, Some, None, option_and_then, if◌then◌else◌}
use Rattle.std.specs.List.{cons_option}
use Rattle.circuit_model.specs.declared.channel.Slot.{Slot}
use Rattle.q931_codec.specs.CallStates.{active}
use Rattle.q931_codec.specs.Causes.{destination_out_of_order, message_not_compatible_with_call_state, no_answer_from_user, no_user_responding, temporary_failure}
use Rattle.call_timers.specs.declared.expiry.Expiry.{Expiry}
use Rattle.call_timers.specs.declared.expiry.Expiry.TheVariants as expiry
use Rattle.call_states.specs.Acts.{cause_of_act}
use Rattle.call_states.specs.declared.act.Act.{Act}
use Rattle.call_states.specs.declared.act.Act.TheVariants as act
use Rattle.call_states.specs.declared.leg.Leg.{Leg}
use Rattle.call_states.specs.declared.leg.Side.{Side}
use Rattle.call_states.specs.declared.leg.Side.TheVariants.{Caller, Called}
use Rattle.clearing_rules.specs.declared.scope.Restart.{Restart}
use Rattle.clearing_rules.specs.Restarting.{is_restarted}
use Rattle.call_states.specs.declared.leg.HeldLeg.{HeldLeg}
use Rattle.exchange_events.specs.declared.record.CallRecord.{CallRecord}
use Rattle.call_profile.specs.Acts.{peer_of}
use Rattle.call_profile.specs.CallRecords.{is_calling, record_of}
use Rattle.call_profile.specs.Expiring.{due_of}
use Rattle.call_profile.specs.Legs.{held_at}
use Rattle.exchange_events.specs.Sizes.{Setting}
use Rattle.call_profile.specs.World.{World}

-- the caller's leg of a leg's call: that leg itself, or its peer
abbrev pub caller_in : Side → HeldLeg → Option HeldLeg → Option HeldLeg
caller_in Caller h peer = Some h
caller_in Called h peer = peer

-- the record of a caller's leg, if its call's clearing has not begun
abbrev pub record_calling : World → ℕ → HeldLeg → Option CallRecord
record_calling w cause h = if is_calling (Some h.leg) then record_of w cause h else None

-- the record of the call of a leg, which ends with this cause
abbrev pub record_ended : World → HeldLeg → ℕ → Option CallRecord
record_ended w h cause = option_and_then (record_calling w cause) (caller_in h.leg.side h (peer_of w.legs h.leg.peer))

-- the cause with which an act clears the call of a leg, if it clears it: what the user reports matters only if it was asked
abbrev pub cause_of_act_at : Leg → Act → Option ℕ
cause_of_act_at leg (act.Report reported) = if leg.enquired then (if reported == active then None else Some message_not_compatible_with_call_state) else None
cause_of_act_at leg a = cause_of_act a

-- the record of the call that an act ends
abbrev pub record_of_act : World → HeldLeg → Act → Option CallRecord
record_of_act w h a = option_and_then (record_ended w h) (cause_of_act_at h.leg a)

-- the records of the calls that the restart of a slot ends
abbrev pub slot_records : Restart → World → Slot → List CallRecord
slot_records r w x = if is_restarted r x.place then cons_option (option_and_then (λ h. record_ended w h temporary_failure) (held_at w.legs x)) [] else []

-- the record of the call that a data link's failure ends at a slot: T309 starts at a leg in active, and ends nothing
abbrev pub dropped_record : World → HeldLeg → Option CallRecord
dropped_record w h = if h.leg.state == active then None else record_ended w h destination_out_of_order

abbrev pub dropped_records : World → Slot → List CallRecord
dropped_records w x = cons_option (option_and_then (dropped_record w) (held_at w.legs x)) []

-- the record of the call that an expiry ends
abbrev pub record_of_expiry : World → HeldLeg → Expiry → Option CallRecord
record_of_expiry w h expiry.SetupOver = record_ended w h no_user_responding
record_of_expiry w h expiry.Proceeding = record_ended w h no_user_responding
record_of_expiry w h expiry.Alerting = record_ended w h no_answer_from_user
record_of_expiry w h expiry.Outage = record_ended w h destination_out_of_order
record_of_expiry w h _ = None

-- the records of the calls that expiries at a slot end in a frame
abbrev pub expired_records : Setting → ℕ → World → Slot → List CallRecord
expired_records s frame w x = cons_option (option_and_then (λ h. option_and_then (record_of_expiry w h) (due_of s.timers frame h.leg)) (held_at w.legs x)) []
