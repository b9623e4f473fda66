use Rattle.std.proofs.Common.{sym, ap, ◌∙◌}
use Rattle.q931_elements.specs.Reading.{elements_of}
use Rattle.q931_elements.proofs.Steps.{elements_from}
use Rattle.q931_elements.proofs.list.next_of.Goals as goal

pub returns-in-Whole : goal.returns-in-Whole
returns-in-Whole c = sym c.loop-element.invariant ∙ elements_from c.loop-element.rest.now _ c.in-Whole.ensures

pub loop-element-preserved : goal.loop-element-preserved
loop-element-preserved c =
    ap elements_of c.past-rest.ensures ∙ sym (elements_from c.loop-element.rest.now _ c.in-NonLockingShift.ensures) ∙ c.loop-element.invariant

pub returns-in-LockingShift : goal.returns-in-LockingShift
returns-in-LockingShift c = sym c.loop-element.invariant ∙ elements_from c.loop-element.rest.now _ c.in-LockingShift.ensures

pub returns-in-Unfinished : goal.returns-in-Unfinished
returns-in-Unfinished c = sym c.loop-element.invariant ∙ elements_from c.loop-element.rest.now _ c.in-Unfinished.ensures
