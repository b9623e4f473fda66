use Rattle.std.proofs.Common.{rules, ◌≡◌, ◌<◌, length, get_or}
use Rattle.call_processor.proofs.HandLemmas.{first_moved}
use Rattle.call_processor.proofs.answer_list.move_below.Goals as goal

pub loop-next-preserved : goal.loop-next-preserved
loop-next-preserved c =
    let next = c.in-Some.next.now in
    let some : 0 < length c.loop-next.from.items = search rules in
    let is : next ≡ get_or c.loop-next.from.items 0 next = search rules in
    let low : next.place < c.args.below = search rules in
    let moved = c.in_ok-move_first.ensures.handed in
    record { handed = first_moved _ _ _ _ _ _ _ next c.loop-next.invariant.handed some is low moved.0 moved.1 }
