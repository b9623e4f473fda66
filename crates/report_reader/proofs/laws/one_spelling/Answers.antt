use Rattle.report_reader.proofs.LineLemmas.{one_spelled}
use Rattle.report_reader.proofs.laws.one_spelling.Goals as goal

pub returns : goal.returns
returns c = one_spelled
