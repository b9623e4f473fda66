use Rattle.number_plan.proofs.OrderFacts.{order_apart, order_with}
use Rattle.number_plan.proofs.Meanings.{held_with}
use Rattle.number_plan.proofs.laws.law_of_order.Goals as goal

pub returns-clause-apart : goal.returns-clause-apart
returns-clause-apart c plan order = order_apart plan order

pub returns-clause-kept : goal.returns-clause-kept
returns-clause-kept c plan n order free = order_with plan n order free

pub returns-clause-held : goal.returns-clause-held
returns-clause-held c plan n m = held_with plan n m
