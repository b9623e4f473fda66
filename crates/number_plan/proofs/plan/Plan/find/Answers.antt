use Rattle.std.proofs.Common.{length, sym, ap, ◌∙◌, arith}
use Rattle.number_plan.proofs.Looks.{found_number, found_more, found_at_place}
use Rattle.number_plan.proofs.plan.Plan.find.Goals as goal

pub returns-then-as_slice-digits-clause-found : goal.returns-then-as_slice-digits-clause-found
returns-then-as_slice-digits-clause-found c =
    c.from.ensures
    ∙ sym (found_number _ c.args.digits.now _ c.index-number.result.now c.in-Ok.ensures.order c.in-Ok.ensures.beside (rw (← c.self.view_is) c.index-number.ensures) (omega (arith, ap length c.as_slice.ensures, c.if-as_slice-digits.true)))

pub returns-else-as_slice-digits-clause-found : goal.returns-else-as_slice-digits-clause-found
returns-else-as_slice-digits-clause-found c =
    sym (found_more _ c.args.digits.now _ c.index-number.result.now c.in-Ok.ensures.order c.in-Ok.ensures.beside (rw (← c.self.view_is) c.index-number.ensures) (omega (arith, ap length c.as_slice.ensures, c.if-as_slice-digits.false)))

pub returns-in-Err-clause-found : goal.returns-in-Err-clause-found
returns-in-Err-clause-found c = sym (found_at_place _ _ _ c.in-Err.ensures.place)
