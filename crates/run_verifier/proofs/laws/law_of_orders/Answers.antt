use Rattle.run_verifier.proofs.VerdictLemmas.{one_order}
use Rattle.run_verifier.proofs.laws.law_of_orders.Goals as goal

pub returns : goal.returns
returns c = one_order
