use Rattle.run_verifier.proofs.VerdictLemmas.{few_good, fewer_good, named}
use Rattle.run_verifier.proofs.laws.law_of_correct_lines.Goals as goal

pub returns : goal.returns
returns c = record { fewer = fewer_good; good = few_good; named = named }
