use Rattle.std.proofs.Common.{rules, ◌≡◌, ◌≤◌, ◌∙◌, arith, ap, slice_index}
use Rattle.std.proofs.lemmas.Bool.Decides.{nat_tests}
use Rattle.run_verifier.proofs.TurnLemmas.{is_next}
use Rattle.run_verifier.proofs.turns.Turns.may_come.Goals as goal

pub returns-then-number-self-clause-may_not : goal.returns-then-number-self-clause-may_not
returns-then-number-self-clause-may_not c = λ order turns may.
    let t = c.args.self.now in
    let next = is_next c.args.trace.now t.segment t.end t.next order c.requires.sound turns c.args.number c.requires.left may in
    let below = next.below in
    let over : t.end ≤ c.args.number = search rules in
    absurd (omega (arith, below, over))

pub returns-clause-may_not : goal.returns-clause-may_not
returns-clause-may_not c = λ order turns may.
    let t = c.args.self.now in
    let next = is_next c.args.trace.now t.segment t.end t.next order c.requires.sound turns c.args.number c.requires.left may in
    let noted : slice_index t.next c.place.result ≡ c.args.number = ap (slice_index t.next) c.place.ensures.place ∙ next.noted in
    grind (arith, nat_tests, noted)
