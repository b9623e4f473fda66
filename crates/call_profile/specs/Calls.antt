-- The exchange state after a message, from its octets to the octets that are sent and the calls that are recorded.
-- Source: this project.
use Rattle.std.specs.Prelude.{ℕ, ◌==◌, ◌&&◌, not, Bool, true, false, List, [], ◌∷◌, Option, Some, None, Ok, Err, Result, if◌then◌else◌}
use Rattle.q931_codec.specs.declared.kind.MessageKind.{MessageKind}
use Rattle.q931_codec.specs.declared.kind.MessageKind.TheVariants as kind
use Rattle.q931_codec.specs.declared.message.Discard.{Discard}
use Rattle.q931_codec.specs.declared.message.Message.{Message}
use Rattle.q931_codec.specs.Outgoing.{OutgoingMessage}
use Rattle.q931_codec.specs.Reading.{reading}
use Rattle.call_states.specs.Acts.{act_on}
use Rattle.clearing_rules.specs.declared.scope.Restart.{Restart}
use Rattle.clearing_rules.specs.Restarting.{global_call_reference, restart_acknowledged, restart_asked}
use Rattle.clearing_rules.specs.UnknownReference.{answer_without_call}
use Rattle.exchange_events.specs.declared.record.CallRecord.{CallRecord}
use Rattle.exchange_events.specs.declared.signal.Signal.{Signal}
use Rattle.call_states.specs.declared.leg.HeldLeg.{HeldLeg}
use Rattle.call_profile.specs.ActCourse.{course_of}
use Rattle.call_profile.specs.CallRecords.{records_by}
use Rattle.call_profile.specs.Course.{Course, only, nothing}
use Rattle.call_profile.specs.Legs.{Legs, leg_named}
use Rattle.call_profile.specs.Operations.{Operation, Send, Making, making_at, making_after_all}
use Rattle.call_profile.specs.Restarts.{MessageOutcome, outcome_of_confirmation, outcome_of_restart}
use Rattle.exchange_events.specs.Sizes.{Setting}
use Rattle.call_profile.specs.Setup.{course_of_setup}
use Rattle.call_profile.specs.World.{World}

-- ---- the request

-- the request of the user of a line: a message for a leg, a SETUP for a new call, a message on a call reference without
-- a call, an accepted RESTART, a RESTART ACKNOWLEDGE, or a message without an effect
pub data Request : Type 0 where
  For_leg : (held : HeldLeg) (message : Message) → Request
  New_call : (setup : Message) → Request
  On_no_call : (message : Message) → Request
  Restarts : (restart : Restart) → Request
  Confirms : (restart : Restart) → Request
  Unanswered : Request

-- a SETUP from the side that chose the call reference requests a call
abbrev pub is_setup : MessageKind → Bool
is_setup kind.Setup = true
is_setup _ = false

abbrev pub asks_for_call : Message → Bool
asks_for_call m = is_setup m.kind && not m.flag

-- on the global call reference, which has no call, only a RESTART and a RESTART ACKNOWLEDGE are accepted
abbrev pub on_acknowledgement : Option Restart → Request
on_acknowledgement None = Unanswered
on_acknowledgement (Some r) = Confirms r

abbrev pub on_global_reference : Option Restart → Option Restart → Request
on_global_reference None acknowledged = on_acknowledgement acknowledged
on_global_reference (Some r) acknowledged = Restarts r

abbrev pub request_on_global : Message → Request
request_on_global m = on_global_reference (restart_asked m) (restart_acknowledged m)

-- a message without a leg
abbrev pub request_without_leg : Message → Request
request_without_leg m =
    if m.reference == global_call_reference then request_on_global m
    else if asks_for_call m then New_call m
    else On_no_call m

abbrev pub with_leg_named : Message → Option HeldLeg → Request
with_leg_named m None = request_without_leg m
with_leg_named m (Some h) = For_leg h m

-- octets that are not a message have no effect
abbrev pub request_read : Legs → ℕ → Result Message Discard → Request
request_read legs line (Ok m) = with_leg_named m (leg_named legs line m.flag m.reference)
request_read legs line (Err why) = Unanswered

abbrev pub request_of : Legs → ℕ → List ℕ → Request
request_of legs line octets = request_read legs line (reading octets)

-- ---- the operations of a request

abbrev pub making_by : Setting → World → Course → Making
making_by s w c = making_after_all s.dimensions (making_at w) c.operations

abbrev pub outcome_by : Setting → World → Course → MessageOutcome
outcome_by s w c = let m = making_by s w c in record { making = m; recorded = records_by w m.world c.cause }

-- the reply to a message, if there is one
abbrev pub answer_back : ℕ → Option OutgoingMessage → List Operation
answer_back line None = []
answer_back line (Some message) = Send line message ∷ []

-- the operations of a message to a leg in the leg's state
abbrev pub course_on : Setting → World → HeldLeg → Message → Course
course_on s w h m = course_of s w h m (act_on h.leg.state m)

abbrev pub outcome_for : Setting → World → ℕ → Request → MessageOutcome
outcome_for s w line (For_leg h m) = outcome_by s w (course_on s w h m)
outcome_for s w line (New_call m) = outcome_by s w (course_of_setup s w line m)
outcome_for s w line (On_no_call m) = outcome_by s w (only (answer_back line (answer_without_call m)))
outcome_for s w line (Restarts r) = outcome_of_restart s.dimensions s.tones r line w
outcome_for s w line (Confirms r) = outcome_of_confirmation s.dimensions r line w
outcome_for s w line Unanswered = outcome_by s w nothing

abbrev pub outcome_of_octets : Setting → World → ℕ → List ℕ → MessageOutcome
outcome_of_octets s w line octets = outcome_for s w line (request_of w.legs line octets)

-- ---- the answer

-- the answer to a message: the messages sent, in order; the numbers of live paths that moved, if a connection was made
-- or a member joined; and the records
pub record MessageAnswer : Type 0 where
  pub sends : List Signal
  pub moved : Option (ℕ × ℕ)
  pub records : List CallRecord

-- the exchange state after a message, and its answer
abbrev pub after_message : Setting → World → ℕ → List ℕ → World
after_message s w line octets = (outcome_of_octets s w line octets).making.world

abbrev pub answer_to : Setting → World → ℕ → List ℕ → MessageAnswer
answer_to s w line octets = let a = outcome_of_octets s w line octets in record { sends = a.making.sends; moved = a.making.moves; records = a.recorded }
