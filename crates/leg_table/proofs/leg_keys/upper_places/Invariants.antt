use Rattle.leg_table.specs.LegKeys.{Hits}
use Rattle.leg_table.proofs.leg_keys.upper_places.Given as goal

abbrev pub invariant-loop-place : goal.invariant-loop-place
invariant-loop-place l = Hits l.row l.key 0 16 l.place l.places
