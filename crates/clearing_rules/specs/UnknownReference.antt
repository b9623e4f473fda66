-- The reply to a message whose call reference has no call. Source: ITU-T Q.931 (05/98), 5.8.3.2, 5.8.10 and 5.8.11, in
-- this project's profile of these sections.
use Rattle.std.specs.Prelude.{ℕ, not, ◌==◌, Option, Some, None, if◌then◌else◌}
use Rattle.q931_codec.specs.declared.kind.MessageKind.{MessageKind}
use Rattle.q931_codec.specs.declared.kind.MessageKind.TheVariants as kind
use Rattle.q931_codec.specs.declared.message.Message.{Message}
use Rattle.q931_codec.specs.CallStates.{null}
use Rattle.q931_codec.specs.Causes.{response_to_status_enquiry, invalid_call_reference, message_not_compatible_with_call_state}
use Rattle.q931_codec.specs.Contents.{call_state_in}
use Rattle.q931_codec.specs.Outgoing.{OutgoingMessage, bare}
use Rattle.clearing_rules.specs.Restarting.{global_call_reference}

-- a message back to the sender: the same call reference value, and the other flag (4.3)
abbrev pub message_back : Message → MessageKind → OutgoingMessage
message_back m type = bare (not m.flag) m.reference type

-- STATUS: there is no call
abbrev pub null_status : Message → OutgoingMessage
null_status m = record (message_back m kind.Status) { cause = Some response_to_status_enquiry; state = Some null }

-- RELEASE COMPLETE: the call reference has no call
abbrev pub no_such_reference : Message → OutgoingMessage
no_such_reference m = record (message_back m kind.ReleaseComplete) { cause = Some invalid_call_reference }

-- RELEASE COMPLETE: the sender has a call there, and the exchange has none (5.8.11)
abbrev pub no_such_call : Message → OutgoingMessage
no_such_call m = record (message_back m kind.ReleaseComplete) { cause = Some message_not_compatible_with_call_state }

-- the reply to a STATUS, by the call state that it reports: none if that is the null state, or cannot be read
abbrev pub answer_to_status : Message → Option ℕ → Option OutgoingMessage
answer_to_status m None = None
answer_to_status m (Some state) = if state == null then None else Some (no_such_call m)

-- the reply, by the message's type; a SETUP from the side that chose the call reference requests a call, to which other
-- rules reply, and one from the other side is ignored
abbrev pub answer_to_type : Message → MessageKind → Option OutgoingMessage
answer_to_type m kind.Setup = None
answer_to_type m kind.ReleaseComplete = None
answer_to_type m kind.Status = answer_to_status m (call_state_in m.elements)
answer_to_type m kind.StatusEnquiry = Some (null_status m)
answer_to_type m _ = Some (no_such_reference m)

-- on the global call reference these rules give no reply: it has no call, and a RESTART there has separate rules
abbrev pub answer_without_call : Message → Option OutgoingMessage
answer_without_call m = if m.reference == global_call_reference then None else answer_to_type m m.kind
