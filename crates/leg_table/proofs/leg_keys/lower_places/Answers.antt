use Rattle.std.proofs.Common.{◌+◌, subst, sym, arith}
use Rattle.leg_table.specs.LegKeys.{Hits}
use Rattle.leg_table.proofs.LegWordLemmas.{hits_here, hits_other}
use Rattle.leg_table.proofs.leg_keys.lower_places.Goals as goal
use Rattle.leg_table.proofs.leg_keys.lower_places.Goals.{then-row-place, else-row-place}

pub loop-place-preserved : goal.loop-place-preserved
loop-place-preserved c = elim c.if-row-place.branch [
  | then-row-place w ↦
      subst (Hits c.args.row.now c.args.key 16 0 (c.loop-place.place + 1)) (sym w.places-is)
      (hits_here c.args.row.now c.args.key 16 0 c.loop-place.place (16 + c.loop-place.place) c.loop-place.places (omega (arith, c.loop-place-test.true)) (omega arith) c.loop-place.invariant w.if-row-place.true)
  | else-row-place w ↦
      subst (Hits c.args.row.now c.args.key 16 0 (c.loop-place.place + 1)) (sym w.places-is)
      (hits_other c.args.row.now c.args.key 16 0 c.loop-place.place c.loop-place.places (omega (arith, c.loop-place-test.true)) c.loop-place.invariant w.if-row-place.false)
]
