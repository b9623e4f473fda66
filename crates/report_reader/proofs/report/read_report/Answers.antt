use Rattle.report_reader.proofs.ReportLemmas.{reads_each, IsFaultyAt_refused, refuses_each}
use Rattle.report_reader.proofs.report.read_report.Goals as goal

pub returns-clause-refused : goal.returns-clause-refused
returns-clause-refused c = IsFaultyAt_refused c.args.bytes.now c.read_lines.result c.read_lines.ensures.refused

pub returns-clause-reads_each : goal.returns-clause-reads_each
returns-clause-reads_each c = reads_each (λ v. v.items) c.args.bytes.now c.read_lines.result c.read_lines.ensures.read c.read_lines.ensures.refused

pub returns-clause-refuses_each : goal.returns-clause-refuses_each
returns-clause-refuses_each c = refuses_each (λ v. v.items) c.args.bytes.now c.read_lines.result c.read_lines.ensures.read c.read_lines.ensures.refused
