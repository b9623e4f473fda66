use Rattle.std.proofs.Common.{refl}
use Rattle.number_plan.specs.Plan.{found_for}
use Rattle.number_plan.proofs.OrderFacts.{all_with}
use Rattle.number_plan.proofs.Meanings.{answer_passes}
use Rattle.number_plan.proofs.laws.law_of_targets.Goals as goal

pub returns-clause-kept : goal.returns-clause-kept
returns-clause-kept c test plan n all one = all_with (λ m. test m.target) plan n all one

pub returns-clause-found : goal.returns-clause-found
returns-clause-found c test plan digits all = answer_passes test plan digits (found_for plan digits) all refl
