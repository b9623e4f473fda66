use Rattle.std.proofs.Common.{sym, ◌∙◌}
use Rattle.q931_elements.proofs.Readings.{reading_is}
use Rattle.q931_elements.proofs.laws.one_reading.Goals as goal

pub returns : goal.returns
returns c octets one other one_is other_is = reading_is octets one one_is ∙ sym (reading_is octets other other_is)
