use Rattle.std.proofs.Common.{◌≡◌, ◌+◌, ◌-◌, ◌++◌, ◌∷◌, ◌≤◌, List, ℕ, OnOk, codes, length, drop, decimal, replicate, subst, sym, ap, ◌∙◌, arith}
use Rattle.report_text.proofs.Texts.{cut_before, moving_line, out_moving}
use Rattle.report_text.proofs.message.put_moving_opening.Goals as goal

pub returns-clause-opening : goal.returns-clause-opening
returns-clause-opening c =
    let start : ℕ = c.put_number_before-start.result in
    let text : List ℕ = c.put_number_before-start.new.text in
    let rest : List ℕ = drop 48 (replicate 96 0) in
    let line : List ℕ = decimal c.args.event ++ codes " message moved " ++ decimal c.args.first ++ 32 ∷ decimal c.args.second in
    let written = moving_line (decimal c.args.event) (codes " message moved ") (decimal c.args.first) (decimal c.args.second) rest _ _ _ _ _
    c.put_number_before-end.ensures.written c.put_before-end.ensures.written c.put_number_before-end-2.ensures.written c.put_before-end-2.ensures.written c.put_number_before-start.ensures.written in
    let whole : length text ≡ 96 = grind arith in
    let within : start ≤ 48 = grind arith in
    let out : List ℕ = c.args.out.now.items in
    subst (λ (l : List ℕ). OnOk c.append_front.result (c.append_front.new.out.items ≡ l))
    (ap (λ l. out ++ l) (cut_before text line rest start 48 (start + 48 - start) written (sym whole) within (omega arith))
    ∙ out_moving out (decimal c.args.event) (codes " message moved ") (decimal c.args.first) (decimal c.args.second))
    c.append_front.ensures.front_of_text
