use Rattle.std.proofs.Common.{◌≡◌, true, length, arith, ap, ◌∙◌}
use Rattle.number_plan.specs.Plan.{in_order, with_number}
use Rattle.number_plan.specs.Search.{IsPlaceFor}
use Rattle.number_plan.proofs.OrderFacts.{insert_in_place, order_with, order_apart, length-with_number}
use Rattle.number_plan.proofs.Looks.{free_at_place}
use Rattle.number_plan.proofs.plan.Plan.insert.Goals as goal

place : (c : goal.In_ok-insert) → IsPlaceFor c.self.inside.numbers.items c.args.number.digits c.args.place
place c = rw c.self.view_is c.requires.place

-- the number is put in its place
put : (c : goal.In_ok-insert) → c.insert.new.self.items ≡ with_number c.self.inside.numbers.items c.args.number
put c = c.in_ok-insert.ensures.items ∙ insert_in_place _ c.args.number _ (place c)

order : (c : goal.In_ok-insert) → in_order c.insert.new.self.items ≡ true
order c = ap in_order (put c) ∙ order_with _ c.args.number c.self.invariant.0 (free_at_place _ _ _ (place c))

pub invariant_of-self-2 : goal.invariant_of-self-2
invariant_of-self-2 c = (order c, omega (arith, ap length (put c), length-with_number c.self.inside.numbers.items c.args.number, ap length c.self.view_is, c.requires.few))

pub returns-clause-added : goal.returns-clause-added
returns-clause-added c = put c ∙ ap (λ plan. with_number plan c.args.number) c.self.view_is

pub returns-clause-apart : goal.returns-clause-apart
returns-clause-apart c = order_apart _ (order c)

pub returns-in_err-insert-clause-apart : goal.returns-in_err-insert-clause-apart
returns-in_err-insert-clause-apart c = order_apart _ (ap in_order c.in_err-insert.ensures.items ∙ c.self.invariant.0)
