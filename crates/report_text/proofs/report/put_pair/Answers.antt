use Rattle.std.proofs.Common.{◌≡◌, ◌+◌, ◌-◌, ◌++◌, ◌≤◌, List, ℕ, OnOk, length, drop, decimal, replicate, subst, sym, ap, ◌∙◌, arith}
use Rattle.report_text.proofs.Texts.{cut_before, out_pair, pair_line}
use Rattle.report_text.proofs.report.put_pair.Goals as goal

pub returns-clause-pair : goal.returns-clause-pair
returns-clause-pair c =
    let start : ℕ = c.put_number_before-start-2.result in
    let text : List ℕ = c.put_number_before-start-2.new.text in
    let rest : List ℕ = drop 48 (replicate 96 0) in
    let line : List ℕ = decimal c.args.number ++ c.args.word.now ++ decimal c.args.other in
    let written = pair_line (decimal c.args.number) c.args.word.now (decimal c.args.other) rest _ _ _
    c.put_number_before-start.ensures.written c.put_before-start.ensures.written c.put_number_before-start-2.ensures.written in
    let whole : length text ≡ 96 = grind arith in
    let within : start ≤ 48 = grind arith in
    let out : List ℕ = c.args.out.now.items in
    subst (λ (l : List ℕ). OnOk c.append_front.result (c.append_front.new.out.items ≡ l))
    (ap (λ l. out ++ l) (cut_before text line rest start 48 (start + 48 - start) written (sym whole) within (omega arith)) ∙ out_pair out (decimal c.args.number) c.args.word.now (decimal c.args.other))
    c.append_front.ensures.front_of_text
