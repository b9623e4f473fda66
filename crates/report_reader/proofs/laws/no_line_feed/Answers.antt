use Rattle.report_reader.proofs.LineLemmas.{line_unbroken}
use Rattle.report_reader.proofs.laws.no_line_feed.Goals as goal

pub returns : goal.returns
returns c = line_unbroken
