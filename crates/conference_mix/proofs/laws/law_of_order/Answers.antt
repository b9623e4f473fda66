use Rattle.conference_mix.proofs.Sums.{sum_of_values-permutation}
use Rattle.conference_mix.proofs.laws.law_of_order.Goals as goal

pub returns : goal.returns
returns c = sum_of_values-permutation
