use Rattle.circuit_model.proofs.Age.{age}
use Rattle.circuit_model.proofs.laws.law_of_age.Goals as goal

pub returns : goal.returns
returns c = age
