use Rattle.q931_elements.proofs.Readings.{written_read}
use Rattle.q931_elements.proofs.laws.written_is_read.Goals as goal

pub returns : goal.returns
returns c items are = written_read items are
