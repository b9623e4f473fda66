use Rattle.std.proofs.Common.{refl}
use Rattle.std.specs.Fmt.{digits}
use Rattle.meters.proofs.laws.worked_changes.Goals as goal

pub returns-clause-pegs : goal.returns-clause-pegs
unfolding digits
returns-clause-pegs c = refl

pub returns-clause-three : goal.returns-clause-three
unfolding digits
returns-clause-three c = refl

pub returns-clause-nothing_left : goal.returns-clause-nothing_left
returns-clause-nothing_left c = refl

pub returns-clause-one_left : goal.returns-clause-one_left
returns-clause-one_left c = refl
