use Rattle.std.proofs.Common.{refl}
use Rattle.std.proofs.Math.Nat.{mod-add-mod}
use Rattle.traffic_gen.specs.Draws.{drawn, next_state}
use Rattle.traffic_gen.proofs.draws.Draws.draw.Goals as goal

pub returns-clause-state : goal.returns-clause-state
unfolding next_state
returns-clause-state c = mod-add-mod _ _ _

pub returns-clause-value : goal.returns-clause-value
unfolding drawn
returns-clause-value c = refl
