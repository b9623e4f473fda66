use Rattle.fabric_map.proofs.Turns.{lift_entry}
use Rattle.fabric_map.proofs.fabric.lift_all.Goals as goal

pub remove_by_slot-requires-clause-line : goal.remove_by_slot-requires-clause-line
remove_by_slot-requires-clause-line c = (lift_entry _ _ c.loop-moved.paths.layout c.loop-moved.moved-index c.args.moves.now _ _ c.loop-moved.invariant.legal c.loop-moved-test.true c.loop-moved.invariant.taken).0

pub remove_by_slot-requires-clause-slot : goal.remove_by_slot-requires-clause-slot
remove_by_slot-requires-clause-slot c = (lift_entry _ _ c.loop-moved.paths.layout c.loop-moved.moved-index c.args.moves.now _ _ c.loop-moved.invariant.legal c.loop-moved-test.true c.loop-moved.invariant.taken).1
