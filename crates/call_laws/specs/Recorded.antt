-- The calls that a message ends, by the legs before and after it. Source: this project.
use Rattle.std.specs.Prelude.{◌≡◌, ℕ, ◌<◌, nat_lt, true, false, List, AllPairs, Contains, Option, Some, None, if◌then◌else◌}
use Rattle.circuit_model.specs.Extent.{IsExternal}
use Rattle.q931_codec.specs.Causes.{temporary_failure}
use Rattle.call_states.specs.Acts.{act_on}
use Rattle.call_states.specs.declared.leg.HeldLeg.{HeldLeg}
use Rattle.clearing_rules.specs.declared.scope.Restart.{Restart}
use Rattle.exchange_events.specs.declared.record.CallRecord.{CallRecord}
use Rattle.exchange_events.specs.declared.record.Party.{Party}
use Rattle.exchange_events.specs.declared.record.Party.TheVariants as party
use Rattle.exchange_events.specs.declared.trace.Event.TheVariants as event
use Rattle.exchange_events.specs.Sizes.{Setting}
use Rattle.exchange_events.specs.Sound.{Fits, IsPlanned}
use Rattle.call_profile.specs.CallRecords.{is_calling, record_of}
use Rattle.call_profile.specs.Calls.{Request, For_leg, New_call, On_no_call, Restarts, Confirms, Unanswered, request_of, after_message, answer_to}
use Rattle.call_profile.specs.EndedCalls.{cause_of_act_at}
use Rattle.call_profile.specs.LegStanding.{CallsStand}
use Rattle.call_profile.specs.Legs.{leg_at}
use Rattle.call_profile.specs.Restarts.{restarts_slot}
use Rattle.call_profile.specs.World.{World}

-- the octets arrive on a line of an exchange in which circuits and legs are consistent
pub record Arrive (s : Setting) (w : World) (line : ℕ) (octets : List ℕ) : Type 0 where
  pub planned : IsPlanned s
  pub fits : Fits s.dimensions.external (event.Message line octets)
  pub stands : CallsStand s w

-- a caller's leg was in state 3, 4 or 10 before, and is in none of them afterwards, or is removed
pub record HasEnded (external : ℕ) (before afterwards : World) (h : HeldLeg) : Type 0 where
  pub within : IsExternal external h.slot
  pub at : leg_at before.legs h.slot ≡ Some h.leg
  pub calls : is_calling (Some h.leg) ≡ true
  pub stops : is_calling (leg_at afterwards.legs h.slot) ≡ false

-- the cause with which a message begins to clear calls, if it clears any
abbrev pub cause_of_clearing : Request → Option ℕ
cause_of_clearing (For_leg h m) = cause_of_act_at h.leg (act_on h.leg.state m)
cause_of_clearing (New_call setup) = None
cause_of_clearing (On_no_call m) = None
cause_of_clearing (Restarts r) = Some temporary_failure
cause_of_clearing (Confirms r) = None
cause_of_clearing Unanswered = None

-- a call ended with the cause that the message gives, and this is its record
pub record IsRecordOf (s : Setting) (w : World) (line : ℕ) (octets : List ℕ) (h : HeldLeg) (told : CallRecord) : Type 0 where
  pub ended : HasEnded s.dimensions.external w (after_message s w line octets) h
  pub cause : cause_of_clearing (request_of w.legs line octets) ≡ Some told.cause
  pub is : record_of w told.cause h ≡ Some told

-- the record of a call is among the records of the answer
abbrev pub IsRecorded : Setting → World → ℕ → List ℕ → HeldLeg → Type 0
IsRecorded s w line octets h = (told : CallRecord) × IsRecordOf s w line octets h told × Contains (answer_to s w line octets).records told

-- ---- the order of records

-- the message is not an accepted RESTART
abbrev pub RestartsNothing : World → ℕ → List ℕ → Type 0
RestartsNothing w line octets = (r : Restart) → ¬ (request_of w.legs line octets ≡ Restarts r)

-- the place of a party's slot if a RESTART on a line restarts it; beyond all places otherwise
abbrev pub restarted_place : Restart → ℕ → Party → ℕ
restarted_place r line (party.Line x) = if restarts_slot r line x then x.place else 30
restarted_place r line (party.Room room) = 30

-- the place of the first restarted leg of a call
abbrev pub first_restarted : Restart → ℕ → CallRecord → ℕ
first_restarted r line told =
    let caller = restarted_place r line (party.Line told.caller) in
    let called = restarted_place r line told.called in
    if nat_lt called caller then called else caller

-- the records come by the place of the first restarted leg of their call, each once
abbrev pub ComeByPlace : Restart → ℕ → List CallRecord → Type 0
ComeByPlace r line told = AllPairs (λ one later. first_restarted r line one < first_restarted r line later) told
