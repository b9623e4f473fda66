use Rattle.std.proofs.Common.{sym, ◌∙◌}
use Rattle.q931_elements.proofs.Readings.{elements_of_nothing}
use Rattle.q931_elements.proofs.list.ElementsIterator.next.Goals as goal

pub returns-in-None-clause-steps : goal.returns-in-None-clause-steps
returns-in-None-clause-steps c = (sym c.self.view_is ∙ c.in-None.ensures, elements_of_nothing)
