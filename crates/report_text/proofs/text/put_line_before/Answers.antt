use Rattle.std.proofs.Common.{decimal, ◌-◌, arith}
use Rattle.std.proofs.lemmas.List.{length-set}
use Rattle.report_text.proofs.Texts.{drop-set_line_before}
use Rattle.report_text.proofs.text.put_line_before.Goals as goal

pub returns-clause-written : goal.returns-clause-written
returns-clause-written c =
    let text = c.args.text.now in
    let kept = length-set text (c.args.end - 1) 58 in
    drop-set_line_before text c.write_digits-start.new.buf (decimal c.args.line) c.write_digits-start.result c.args.end (omega (arith, c.requires, c.write_digits-start.ensures.start)) (grind arith) (omega (arith, c.requires)) c.requires.1 c.write_digits-start.ensures.written
