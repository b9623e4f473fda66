use Rattle.q931_codec.proofs.RowFacts.{fields_back}
use Rattle.q931_codec.proofs.laws.written_fields_are_read.Goals as goal

pub returns : goal.returns
returns c m is = fields_back m is
