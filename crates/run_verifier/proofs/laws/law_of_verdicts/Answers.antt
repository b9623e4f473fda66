use Rattle.run_verifier.proofs.DecisionLemmas.{always_one}
use Rattle.run_verifier.proofs.VerdictLemmas.{never_both, one_line}
use Rattle.run_verifier.proofs.laws.law_of_verdicts.Goals as goal

pub returns : goal.returns
returns c = record { never_both = never_both; one_line = one_line; always_one = always_one }
