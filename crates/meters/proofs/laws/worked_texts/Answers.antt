use Rattle.std.proofs.Common.{refl}
use Rattle.std.specs.Fmt.{digits}
use Rattle.meters.proofs.laws.worked_texts.Goals as goal

pub returns-clause-all : goal.returns-clause-all
unfolding digits
returns-clause-all c = refl

pub returns-clause-last : goal.returns-clause-last
unfolding digits
returns-clause-last c = refl

pub returns-clause-pegs : goal.returns-clause-pegs
unfolding digits
returns-clause-pegs c = refl

pub returns-clause-holding : goal.returns-clause-holding
unfolding digits
returns-clause-holding c = refl

pub returns-clause-none : goal.returns-clause-none
unfolding digits
returns-clause-none c = (refl, refl, refl)
