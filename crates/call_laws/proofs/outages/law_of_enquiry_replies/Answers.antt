use Rattle.std.proofs.Common.{refl}
use Rattle.q931_codec.specs.CallStates.{active}
use Rattle.call_laws.proofs.EnquiryReplyLemmas.{confirms, clears, unasked_unchanged}
use Rattle.call_laws.proofs.outages.law_of_enquiry_replies.Goals as goal

pub returns-clause-agrees : goal.returns-clause-agrees
returns-clause-agrees c s w line octets h m is = confirms s w line octets h m active is refl

pub returns-clause-differs : goal.returns-clause-differs
returns-clause-differs c = clears

pub returns-clause-unasked : goal.returns-clause-unasked
returns-clause-unasked c = unasked_unchanged
