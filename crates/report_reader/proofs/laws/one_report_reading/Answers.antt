use Rattle.report_reader.proofs.ReportLemmas.{never_both, one_fault, one_report}
use Rattle.report_reader.proofs.laws.one_report_reading.Goals as goal

pub returns : goal.returns
returns c = record { one_report = one_report; never_both = never_both; one_fault = one_fault }
