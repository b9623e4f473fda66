use Rattle.std.proofs.Common.{◌≡◌, ◌+◌, ◌-◌, ◌≤◌, ℕ, List, take, drop, length, arith, ◌∙◌, ap, sym, length-drop}
use Rattle.std.proofs.lemmas.List.{drop-take}
use Rattle.std.proofs.lemmas.List.Edits.{take-paste}
use lib.Seq.{paste}
use Rattle.line_wire.proofs.buffer.move_to_front.Goals as goal

pub returns-clause-moved : goal.returns-clause-moved
returns-clause-moved c =
    let xs : List ℕ = c.args.buffer.now in
    let m = c.args.start in
    let n = c.args.end - c.args.start in
    let order = c.requires.order in
    let all : m + n ≡ c.args.end = omega (arith, order) in
    let long : n ≤ length (drop m xs) = let w = c.requires.within in omega (arith, length-drop m xs, order, w) in
    let none : 0 + n ≡ n = omega arith in
    ap (take n) c.copy_within.ensures.after
    ∙ (ap (λ k. take k (paste xs 0 (drop m xs) n)) (sym none)
    ∙ (take-paste xs 0 (drop m xs) n (omega arith) long
    ∙ (sym (drop-take m n xs) ∙ ap (λ k. drop m (take k xs)) all)))
