-- A message that is answered on the call reference of no call ends no call.
use Rattle.std.proofs.Common.{◌≡◌, ℕ, [], Option, Some, None}
use Rattle.q931_codec.specs.declared.message.Message.{Message}
use Rattle.q931_codec.specs.Outgoing.{OutgoingMessage}
use Rattle.clearing_rules.specs.UnknownReference.{answer_without_call}
use Rattle.call_profile.specs.CallRecords.{records}
use Rattle.call_profile.specs.Calls.{On_no_call, answer_back, making_by, outcome_for}
use Rattle.call_profile.specs.Course.{only}
use Rattle.exchange_events.specs.Sizes.{Setting}
use Rattle.call_profile.specs.World.{World}
use Rattle.call_profile.proofs.RefusalLemmas.{no_records}

module _ (s : Setting) (w : World) (line : ℕ) (m : Message) where
  records_sends_only : (o : Option OutgoingMessage) → records w (making_by s w (only (answer_back line o))).world 0 ≡ []
  records_sends_only None = no_records w 0
  records_sends_only (Some message) = no_records w 0

  pub records_answer_ends_none : records w (outcome_for s w line (On_no_call m)).making.world 0 ≡ []
  records_answer_ends_none = records_sends_only (answer_without_call m)
