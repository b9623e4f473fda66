use Rattle.std.proofs.Common.{rules}
use Rattle.report_text.proofs.Rows.{line_octets_row}
use Rattle.report_text.proofs.report.put_row.Goals as goal

pub returns-clause-part : goal.returns-clause-part
returns-clause-part c = rw (line_octets_row c.args.line c.args.octets.now c.told-octets) (search rules)
