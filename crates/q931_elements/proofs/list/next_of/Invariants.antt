use Rattle.std.proofs.Common.{◌≡◌, length}
use Rattle.q931_elements.specs.Reading.{elements_of}
use Rattle.q931_elements.proofs.list.next_of.Given as goal

-- what is passed over has no elements
abbrev pub invariant-loop-element : goal.invariant-loop-element
invariant-loop-element l = elements_of l.rest ≡ elements_of l.octets

abbrev pub decreases-loop-element : goal.decreases-loop-element
decreases-loop-element l = length l.rest
