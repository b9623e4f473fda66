use Rattle.report_reader.proofs.LineLemmas.{spelled_ok}
use Rattle.report_reader.proofs.line.read_report_line.Goals as goal

pub returns : goal.returns
returns c = record { spelled = spelled_ok c.args.line.now c.answer_of.result c.answer_of.ensures }
