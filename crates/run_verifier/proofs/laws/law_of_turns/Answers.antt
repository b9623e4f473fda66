use Rattle.run_verifier.proofs.OrderLemmas.{IsLawfulPrefix-append}
use Rattle.run_verifier.proofs.laws.law_of_turns.Goals as goal

pub returns : goal.returns
returns c = IsLawfulPrefix-append
