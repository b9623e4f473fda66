use Rattle.std.proofs.Common.{length}
use Rattle.call_processor.specs.Keeping.{HandsBelow}
use Rattle.call_processor.proofs.answer_list.move_below.Given as goal

abbrev pub invariant-loop-next : goal.invariant-loop-next
invariant-loop-next l = record {
  handed : HandsBelow l.below l.fn.from.items l.fn.to.items l.from.items l.to.items;
}

abbrev pub decreases-loop-next : goal.decreases-loop-next
decreases-loop-next l = length l.from.items
