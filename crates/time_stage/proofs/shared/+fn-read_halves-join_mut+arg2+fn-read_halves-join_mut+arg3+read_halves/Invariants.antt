use Rattle.std.proofs.Common.{◌+◌, ◌*◌}
use Rattle.time_stage.proofs.shared.+fn-read_halves-join_mut+arg2+fn-read_halves-join_mut+arg3+read_halves.Given as goal

abbrev pub decreases-read_halves : goal.decreases-read_halves
decreases-read_halves g l = 2 * l.levels

abbrev pub decreases-join_mut+arg2 : goal.decreases-join_mut+arg2
decreases-join_mut+arg2 g l = 2 * l.next + 1

abbrev pub decreases-join_mut+arg3 : goal.decreases-join_mut+arg3
decreases-join_mut+arg3 g l = 2 * l.next + 1
