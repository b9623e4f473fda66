use Rattle.std.proofs.Common.{◌+◌, subst, sym}
use Rattle.leg_table.proofs.LegWordLemmas.{Uses, uses_here, uses_other}
use Rattle.leg_table.proofs.leg_keys.references_in.Goals as goal
use Rattle.leg_table.proofs.leg_keys.references_in.Goals.{then-key, else-key}

pub loop-place-preserved : goal.loop-place-preserved
loop-place-preserved c = elim c.if-key.branch [
  | then-key w ↦
      subst (Uses c.args.row.now (c.loop-place.place + 1)) (sym w.references-is)
      (uses_here c.args.row.now c.loop-place.place c.loop-place.references c.loop-place.invariant w.if-key.true)
  | else-key w ↦
      subst (Uses c.args.row.now (c.loop-place.place + 1)) (sym w.references-is)
      (uses_other c.args.row.now c.loop-place.place c.loop-place.references c.loop-place.invariant w.if-key.false)
]
