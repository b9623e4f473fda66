use Rattle.std.proofs.Common.{rules, List, ℕ, decimal, arith}
use Rattle.report_text.proofs.Texts.{numbers_line, tail_from}
use Rattle.report_text.proofs.report.put_numbers.Goals as goal

pub returns-clause-line : goal.returns-clause-line
returns-clause-line c =
    let start : ℕ = c.put_number_before-start-3.result in
    let text : List ℕ = c.put_number_before-start-3.new.text in
    let line = numbers_line c.args.out.now.items (decimal c.args.event) c.args.word.now (decimal c.args.a) (decimal c.args.b) _ _ _ _ _
    c.put_number_before-start.ensures.written c.put_before-start.ensures.written c.put_number_before-start-2.ensures.written c.put_before-start-2.ensures.written c.put_number_before-start-3.ensures.written in
    rw (← line, ← tail_from 48 start text (grind arith)) (search rules)
