use Rattle.leg_table.proofs.LegWordLemmas.{Uses}
use Rattle.leg_table.proofs.leg_keys.references_in.Given as goal

abbrev pub invariant-loop-place : goal.invariant-loop-place
invariant-loop-place l = Uses l.row l.place l.references
