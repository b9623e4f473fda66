-- The exchange state after a RESTART, slot by slot. Source: ITU-T Q.931 (05/98), 5.5; the clearing of the calls is this
-- project's profile.
use Rattle.std.specs.Prelude.{ℕ, zero, suc, ◌==◌, ◌&&◌, Bool, List, [], ◌∷◌, ◌++◌, Option, Some, None, if◌then◌else◌}
use Rattle.circuit_model.specs.declared.channel.Slot.{Slot}
use Rattle.q931_codec.specs.Causes.{temporary_failure}
use Rattle.clearing_rules.specs.declared.scope.Restart.{Restart}
use Rattle.clearing_rules.specs.Restarting.{is_restarted, acknowledgement}
use Rattle.tone_rules.specs.declared.tones.Tones.{Tones}
use Rattle.call_states.specs.declared.condition.Condition.{Condition}
use Rattle.call_states.specs.declared.condition.Condition.TheVariants.{Idle}
use Rattle.call_states.specs.declared.leg.HeldLeg.{HeldLeg}
use Rattle.exchange_events.specs.declared.record.CallRecord.{CallRecord}
use Rattle.call_profile.specs.Acts.{peer_of, with_peer, clear_with, remove_leg}
use Rattle.call_profile.specs.CallRecords.{records}
use Rattle.call_profile.specs.Legs.{Legs, held_at, is_unconfirmed}
use Rattle.call_profile.specs.Operations.{Operation, Making, making_at, making_after, making_after_all, Remove, Send}
use Rattle.exchange_events.specs.Sizes.{Dimensions}
use Rattle.call_profile.specs.World.{World}

-- ---- one slot

-- the slots that a RESTART on a line restarts
abbrev pub restarts_slot : Restart → ℕ → Slot → Bool
restarts_slot r line x = (x.line == line) && is_restarted r x.place

-- the other leg of a call is removed too if its slot is also restarted, and its user is sent nothing; otherwise it is
-- cleared with a cause
abbrev pub restart_peer : Tones → ℕ → Condition → Restart → ℕ → HeldLeg → List Operation
restart_peer tones cause condition r line other =
    if restarts_slot r line other.slot then remove_leg condition other else clear_with tones cause other

-- the leg that holds a restarted slot is removed; its channel is in this condition
abbrev pub restart_leg : Tones → ℕ → Condition → Restart → Legs → Option HeldLeg → List Operation
restart_leg tones cause condition r legs None = []
restart_leg tones cause condition r legs (Some h) =
    remove_leg condition h ++ with_peer (peer_of legs h.leg.peer) (restart_peer tones cause condition r h.slot.line)

-- the user who requests a restart knows that the channel is idle
abbrev pub restart_slot : Tones → Restart → Legs → Slot → List Operation
restart_slot tones r legs x = if is_restarted r x.place then restart_leg tones temporary_failure Idle r legs (held_at legs x) else []

-- ---- the slots of the line, in sequence

-- the outcome of a message so far: the exchange state with its messages, and the calls that were recorded
pub record MessageOutcome : Type 0 where
  pub making : Making
  pub recorded : List CallRecord

-- operations that end calls with this cause
abbrev pub outcome_then : Dimensions → ℕ → MessageOutcome → List Operation → MessageOutcome
outcome_then d cause a operations =
    let m = making_after_all d a.making operations in
    record { making = m; recorded = a.recorded ++ records a.making.world m.world cause }

-- the operations at a slot, by the legs, and the cause of the calls that they end
pub record SlotRule : Type 0 where
  pub does : Legs → Slot → List Operation
  pub cause : ℕ

abbrev pub outcome_at_slot : Dimensions → SlotRule → Slot → MessageOutcome → MessageOutcome
outcome_at_slot d rule x a = outcome_then d rule.cause a (rule.does a.making.world.legs x)

-- the places of the line below n, lowest first, each in the exchange state after those before it
unfoldable pub outcome_below : Dimensions → SlotRule → ℕ → World → ℕ → MessageOutcome
outcome_below d rule line w zero = record { making = making_at w; recorded = [] }
outcome_below d rule line w (suc place) = outcome_at_slot d rule (record { line = line; place = place }) (outcome_below d rule line w place)

abbrev pub restart_rule : Tones → Restart → SlotRule
restart_rule tones r = record { does = restart_slot tones r; cause = temporary_failure }

-- all places, and last the acknowledgement
abbrev pub outcome_of_restart : Dimensions → Tones → Restart → ℕ → World → MessageOutcome
outcome_of_restart d tones r line w =
    let a = outcome_below d (restart_rule tones r) line w 30 in
    record a { making = making_after d a.making (Send line (acknowledgement r)) }

-- ---- RESTART ACKNOWLEDGE

-- the user confirms that the slot is idle
abbrev pub confirm_slot : Restart → Legs → Slot → List Operation
confirm_slot r legs x = if is_restarted r x.place && is_unconfirmed legs x then Remove x Idle ∷ [] else []

-- it ends no call
abbrev pub confirm_rule : Restart → SlotRule
confirm_rule r = record { does = confirm_slot r; cause = temporary_failure }

abbrev pub outcome_of_confirmation : Dimensions → Restart → ℕ → World → MessageOutcome
outcome_of_confirmation d r line w = outcome_below d (confirm_rule r) line w 30
