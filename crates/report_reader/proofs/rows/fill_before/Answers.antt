use Rattle.std.proofs.Common.{◌∙◌, arith}
use Rattle.report_reader.proofs.RowLemmas.{rows_before_filled_more}
use Rattle.report_reader.proofs.rows.fill_before.Goals as goal

pub loop-rows-preserved : goal.loop-rows-preserved
loop-rows-preserved c = rows_before_filled_more c.args.line c.loop-rows.rows.items c.push.new.self.items (omega arith) c.in_ok-push.ensures.items ∙ c.loop-rows.invariant
