use Rattle.q931_elements.proofs.Readings.{IsElementList-elements_of}
use Rattle.q931_elements.proofs.laws.each_string_is_read.Goals as goal

pub returns : goal.returns
returns c octets = IsElementList-elements_of octets
