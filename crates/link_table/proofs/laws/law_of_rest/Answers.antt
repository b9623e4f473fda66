use Rattle.std.proofs.Common.{arith}
use Rattle.link_table.proofs.RestLemmas.{finished_rest, rest_finished, submitted_rest, submitted_submits, turned_rest}
use Rattle.link_table.proofs.laws.law_of_rest.Goals as goal

pub returns-clause-finished : goal.returns-clause-finished
returns-clause-finished c = finished_rest

pub returns-clause-unchanged : goal.returns-clause-unchanged
returns-clause-unchanged c = rest_finished

pub returns-clause-submitted : goal.returns-clause-submitted
returns-clause-submitted c = submitted_rest

pub returns-clause-one : goal.returns-clause-one
returns-clause-one c = λ m at s h. let k = submitted_submits m at s in let few = k.few in let none = h.quiet in omega (arith, few, none)

pub returns-clause-turned : goal.returns-clause-turned
returns-clause-turned c = turned_rest
