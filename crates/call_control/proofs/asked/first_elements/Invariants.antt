use Rattle.std.proofs.Common.{◌≡◌}
use Rattle.std.specs.Option.{option_copied}
use Rattle.q931_elements.specs.InformationElement.{first_of}
use Rattle.q931_codec.specs.Identifiers.{bearer_capability, calling_party_number, called_party_number, low_layer_compatibility, high_layer_compatibility}
use Rattle.call_control.specs.Asked.{first_or}
use Rattle.call_control.proofs.asked.first_elements.Given as goal

-- an element is found in what was yielded, or it is the first of the rest
abbrev pub invariant-loop-element : goal.invariant-loop-element
invariant-loop-element l = record {
  can : (goal.iterator-loop-element).can_next l.element-iterator;
  finite : (goal.iterator-loop-element).is_finite l.element-iterator;
  bearer : first_or (option_copied l.bearer) (first_of bearer_capability l.element-iterator) ≡ first_of bearer_capability l.message.elements;
  calling : first_or (option_copied l.calling) (first_of calling_party_number l.element-iterator) ≡ first_of calling_party_number l.message.elements;
  called : first_or (option_copied l.called) (first_of called_party_number l.element-iterator) ≡ first_of called_party_number l.message.elements;
  low : first_or (option_copied l.low) (first_of low_layer_compatibility l.element-iterator) ≡ first_of low_layer_compatibility l.message.elements;
  high : first_or (option_copied l.high) (first_of high_layer_compatibility l.element-iterator) ≡ first_of high_layer_compatibility l.message.elements;
}
