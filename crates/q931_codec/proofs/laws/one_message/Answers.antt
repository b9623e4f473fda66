use Rattle.std.proofs.Common.{sym, ◌∙◌}
use Rattle.q931_codec.proofs.Messages.{reading_message, ok_is}
use Rattle.q931_codec.proofs.laws.one_message.Goals as goal

pub returns : goal.returns
returns c octets one other one-is other-is = ok_is one other (sym (reading_message octets one one-is) ∙ reading_message octets other other-is)
