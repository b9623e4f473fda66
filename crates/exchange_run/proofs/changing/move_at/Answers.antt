use Rattle.std.proofs.Common.{arith}
use Rattle.exchange_run.proofs.Making.{moved_more}
use Rattle.exchange_run.proofs.changing.move_at.Goals as goal

pub loop-preserved : goal.loop-preserved
loop-preserved g c =
    let some = c.loop.invariant.some in
    let e = c.replace_first.ensures in record {
      some = omega (arith, some, e.capacity);
      room = e.room;
      moved = moved_more _ _ c.loop.counter _ _ _ _ _ _ c.loop.invariant.moved e.meters e.spares;
    }
