use Rattle.std.proofs.Common.{◌<◌, subst}
use Rattle.fabric_map.proofs.Turns.{lay_slot}
use Rattle.fabric_map.proofs.fabric.lay_all.Goals as goal

pub insert-requires-clause-slot : goal.insert-requires-clause-slot
insert-requires-clause-slot c =
    lay_slot _ _ c.loop-i.paths.layout c.loop-i.i c.args.lifted.now c.args.moves.now _ c.loop-i-test.true (subst (λ n. c.loop-i.i < n) c.requires.same c.loop-i-test.true) c.loop-i.invariant.room
