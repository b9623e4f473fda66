use Rattle.std.proofs.Common.{◌≡◌}
use Rattle.q931_elements.specs.InformationElement.{first_of}
use Rattle.q931_elements.proofs.list.Elements.first.Given as goal

-- what was yielded has another code
abbrev pub invariant-loop-element : goal.invariant-loop-element
invariant-loop-element l = record {
  can : (goal.iterator-loop-element).can_next l.element-iterator;
  finite : (goal.iterator-loop-element).is_finite l.element-iterator;
  rest : first_of l.code l.element-iterator ≡ first_of l.code l.self;
}
