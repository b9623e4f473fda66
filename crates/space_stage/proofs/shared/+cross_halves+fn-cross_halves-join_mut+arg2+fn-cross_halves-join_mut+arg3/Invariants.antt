use Rattle.std.proofs.Common.{◌+◌, ◌*◌}
use Rattle.space_stage.proofs.shared.+cross_halves+fn-cross_halves-join_mut+arg2+fn-cross_halves-join_mut+arg3.Given as goal

abbrev pub decreases-cross_halves : goal.decreases-cross_halves
decreases-cross_halves g l = 2 * l.levels

abbrev pub decreases-join_mut+arg2 : goal.decreases-join_mut+arg2
decreases-join_mut+arg2 g l = 2 * l.next + 1

abbrev pub decreases-join_mut+arg3 : goal.decreases-join_mut+arg3
decreases-join_mut+arg3 g l = 2 * l.next + 1
