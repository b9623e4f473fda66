-- The records of a frame, in which calls end because a timer expires. Source: this project.
use Rattle.std.specs.Prelude.{◌≡◌, ◌<◌, ◌≤◌, ◌==◌, ◌⊎◌, ℕ, if◌then◌else◌, List, AllPairs, Contains, Some}
use Rattle.circuit_model.specs.declared.channel.Slot.{Slot}
use Rattle.circuit_model.specs.FrameInput.{Input}
use Rattle.q931_codec.specs.CallStates.{active, call_delivered}
use Rattle.q931_codec.specs.Causes.{destination_out_of_order, no_answer_from_user, no_user_responding}
use Rattle.call_timers.specs.declared.timers.Timers.{Timers}
use Rattle.call_states.specs.declared.leg.HeldLeg.{HeldLeg}
use Rattle.call_states.specs.declared.leg.Leg.{Leg}
use Rattle.exchange_events.specs.declared.record.CallRecord.{CallRecord}
use Rattle.exchange_events.specs.declared.record.Party.TheVariants as party
use Rattle.exchange_events.specs.Sizes.{Setting}
use Rattle.call_profile.specs.CallRecords.{record_of}
use Rattle.call_profile.specs.Expiring.{outcome_of_frame}
use Rattle.call_laws.specs.ExpiryBounds.{RunsOut}
use Rattle.call_profile.specs.Legs.{Legs}
use Rattle.call_laws.specs.Recorded.{HasEnded}
use Rattle.call_profile.specs.World.{World, pass}

-- the cause of the record, by the state of the caller's leg: no answer from user in call delivered, in which the called
-- user is alerted, and otherwise no user responding
abbrev pub cause_of_silence : Leg → ℕ
cause_of_silence leg = if leg.state == call_delivered then no_answer_from_user else no_user_responding

-- the same, and in active, in which only T309 runs, destination out of order
abbrev pub cause_of_end : Leg → ℕ
cause_of_end leg = if leg.state == active then destination_out_of_order else cause_of_silence leg

-- ---- any frame

-- a leg of the recorded call holds the slot: the caller's leg, or the called one
abbrev pub IsLegOf : CallRecord → Slot → Type 0
IsLegOf told x = (told.caller ≡ x) ⊎ (told.called ≡ party.Line x)

-- the timer of a leg of the recorded call expires in a frame, on this line; if the timers of both legs expire, it is the
-- lower line, which the frame examines first
pub record ExpiresOn (timers : Timers) (frame : ℕ) (legs : Legs) (told : CallRecord) (line : ℕ) : Type 0 where
  pub slot : Slot
  pub leg : Leg
  pub of_call : IsLegOf told slot
  pub due : RunsOut timers frame legs slot leg
  pub on : slot.line ≡ line
  pub first : (y : Slot) (other : Leg) → IsLegOf told y → RunsOut timers frame legs y other → line ≤ y.line

-- the call of a caller's leg ended in the frame, in which the timer of a leg of the call expired, and this is its record
pub record IsEndRecord (s : Setting) (w : World) (input : Input) (h : HeldLeg) (told : CallRecord) : Type 0 where
  pub ended : HasEnded s.dimensions.external w (outcome_of_frame s w input).making.world h
  pub is : record_of (pass w input) told.cause h ≡ Some told
  pub cause : told.cause ≡ cause_of_end h.leg
  pub due : (line : ℕ) × ExpiresOn s.timers w.holding.next w.legs told line

-- the record of the caller's leg is among the frame's records
abbrev pub IsInTurn : Setting → World → Input → HeldLeg → Type 0
IsInTurn s w input h = (told : CallRecord) × IsEndRecord s w input h told × Contains (outcome_of_frame s w input).recorded told

-- the timer that ended one call expired on a lower line than the other's
abbrev pub IsExpiredBefore : Timers → ℕ → Legs → CallRecord → CallRecord → Type 0
IsExpiredBefore timers frame legs one later = (m n : ℕ) → ExpiresOn timers frame legs one m → ExpiresOn timers frame legs later n → m < n

-- the records come by the line on which the timer expired, lowest first, and each line has at most one
abbrev pub ComeByExpiry : Setting → World → List CallRecord → Type 0
ComeByExpiry s w told = AllPairs (IsExpiredBefore s.timers w.holding.next w.legs) told

-- ---- a frame in which T309 of no leg expires

-- the call of a caller's leg ended in the frame, in which the timer of its called leg expired, and this is its record
pub record IsFrameRecord (s : Setting) (w : World) (input : Input) (h : HeldLeg) (told : CallRecord) : Type 0 where
  pub ended : HasEnded s.dimensions.external w (outcome_of_frame s w input).making.world h
  pub is : record_of (pass w input) told.cause h ≡ Some told
  pub cause : told.cause ≡ cause_of_silence h.leg
  pub due : (y : Slot) × (leg : Leg) × (told.called ≡ party.Line y) × RunsOut s.timers w.holding.next w.legs y leg

-- the record of the caller's leg is among the frame's records
abbrev pub IsInFrame : Setting → World → Input → HeldLeg → Type 0
IsInFrame s w input h = (told : CallRecord) × IsFrameRecord s w input h told × Contains (outcome_of_frame s w input).recorded told

-- one record's called line comes before the other's
abbrev pub IsLineBefore : CallRecord → CallRecord → Type 0
IsLineBefore one later = (x y : Slot) → one.called ≡ party.Line x → later.called ≡ party.Line y → x.line < y.line

-- the records come by the line of the called slot, lowest first, and each line has at most one
abbrev pub ComeByLine : List CallRecord → Type 0
ComeByLine told = AllPairs IsLineBefore told
