use Rattle.run_verifier.proofs.Divisions.{one_division}
use Rattle.run_verifier.proofs.laws.law_of_divisions.Goals as goal

pub returns : goal.returns
returns c = one_division
