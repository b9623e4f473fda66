use Rattle.report_text.proofs.Woven.{row_written}
use Rattle.report_text.proofs.digits.put_row_digits.Goals as goal
use Rattle.std.proofs.Common.{◌∙◌}

pub returns : goal.returns
returns c =
    row_written c.args.text.now c.put_sixteen.new.text c.put_sixteen-2.new.text c.args.row.now c.told-text (c.put_sixteen-2.ensures.size ∙ c.put_sixteen.ensures.size ∙ c.told-text) c.told-row
    c.put_sixteen.ensures.digits c.put_sixteen-2.ensures.digits
