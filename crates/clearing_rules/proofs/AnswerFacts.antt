-- What answers a message on no call can be written.
use Rattle.std.proofs.Common.{◌<◌, ◌^◌, inl, inr, arith}
use Rattle.std.specs.Prelude.{ℕ, not, ◌==◌, Option, Some, None, IfSome}
use Rattle.circuit_model.proofs.Slots.{true_or_false}
use Rattle.q931_codec.specs.declared.kind.MessageKind.{MessageKind}
use Rattle.q931_codec.specs.declared.kind.MessageKind.TheVariants as kind
use Rattle.q931_codec.specs.declared.message.Message.{Message}
use Rattle.q931_codec.specs.Outgoing.{IsWritable}
use Rattle.q931_codec.specs.CallStates.{null}
use Rattle.q931_codec.specs.Causes.{response_to_status_enquiry, invalid_call_reference, message_not_compatible_with_call_state}
use Rattle.q931_codec.specs.Contents.{call_state_in}
use Rattle.q931_codec.proofs.Writable.{short_writable}
use Rattle.clearing_rules.specs.Restarting.{global_call_reference}
use Rattle.clearing_rules.specs.UnknownReference.{answer_to_status, answer_to_type, answer_without_call}

status_writable : (m : Message) → m.reference < 2 ^ 15 → (state : Option ℕ) → IfSome (answer_to_status m state) IsWritable
status_writable m small None = tt
status_writable m small (Some state) = elim (true_or_false (state == null)) [
  | inl none ↦ rw none tt
  | inr some ↦ rw some (short_writable (not m.flag) m.reference kind.ReleaseComplete (Some message_not_compatible_with_call_state) None None None small tt (omega arith) tt tt)
]

type_writable : (m : Message) → m.reference < 2 ^ 15 → (k : MessageKind) → IfSome (answer_to_type m k) IsWritable
type_writable m small kind.Setup = tt
type_writable m small kind.ReleaseComplete = tt
type_writable m small kind.Status = status_writable m small (call_state_in m.elements)
type_writable m small kind.StatusEnquiry = short_writable (not m.flag) m.reference kind.Status (Some response_to_status_enquiry) (Some null) None None small tt (omega arith) (omega arith) tt
type_writable m small _ = short_writable (not m.flag) m.reference kind.ReleaseComplete (Some invalid_call_reference) None None None small tt (omega arith) tt tt

pub answer_writable : (m : Message) → m.reference < 2 ^ 15 → IfSome (answer_without_call m) IsWritable
answer_writable m small = elim (true_or_false (m.reference == global_call_reference)) [
  | inl global ↦ rw global tt
  | inr own ↦ rw own (type_writable m small m.kind)
]
