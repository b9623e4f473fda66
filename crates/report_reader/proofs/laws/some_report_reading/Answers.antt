use Rattle.report_reader.proofs.ReportLemmas.{some_reading}
use Rattle.report_reader.proofs.laws.some_report_reading.Goals as goal

pub returns : goal.returns
returns c = some_reading
