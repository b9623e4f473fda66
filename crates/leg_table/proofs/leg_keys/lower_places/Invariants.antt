use Rattle.leg_table.specs.LegKeys.{Hits}
use Rattle.leg_table.proofs.leg_keys.lower_places.Given as goal

abbrev pub invariant-loop-place : goal.invariant-loop-place
invariant-loop-place l = Hits l.row l.key 16 0 l.place l.places
