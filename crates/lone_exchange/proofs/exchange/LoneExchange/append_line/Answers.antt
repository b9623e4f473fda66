use Rattle.report_text.specs.Report.{response_line}
use Rattle.report_text.specs.RunReport.{event_line}
use Rattle.tone_rules.specs.Tables.{table_of}
use Rattle.lone_exchange.proofs.LineLemmas.{appended, line_is}
use Rattle.lone_exchange.proofs.exchange.LoneExchange.append_line.Goals as goal

pub returns-clause-line : goal.returns-clause-line
returns-clause-line g c s w e replied played =
    let x = c.args.self.now in
    let plays = g.C.Carrier.plays in
    appended c.append_line.result c.args.text.now.items c.append_line.new.out.items (response_line c.as_slice.result.now c.args.number c.args.response x.context.out)
    (event_line (plays (table_of s.tones)) s w c.args.number e) (rw c.as_slice.ensures.value (line_is plays s w e c.args.number c.args.response x replied played)) c.append_line.ensures.line
