use Rattle.q931_elements.proofs.Readings.{IsElementList-elements_of}
use Rattle.q931_elements.proofs.Steps.{length-elements_of-le}
use Rattle.q931_elements.proofs.list.Elements.new.Goals as goal

pub returns-clause-grammar : goal.returns-clause-grammar
returns-clause-grammar c = IsElementList-elements_of c.args.octets.now

pub returns-clause-few : goal.returns-clause-few
returns-clause-few c = length-elements_of-le c.args.octets.now
