use Rattle.call_laws.proofs.ReferenceLemmas.{new_is_free, lower_is_used, new_is_positive}
use Rattle.call_laws.proofs.legs.law_of_references.Goals as goal

pub returns-clause-unused : goal.returns-clause-unused
returns-clause-unused c legs line left = new_is_free legs line left.0 left.1 left.2

pub returns-clause-lower : goal.returns-clause-lower
returns-clause-lower c = lower_is_used

pub returns-clause-first : goal.returns-clause-first
returns-clause-first c = new_is_positive
