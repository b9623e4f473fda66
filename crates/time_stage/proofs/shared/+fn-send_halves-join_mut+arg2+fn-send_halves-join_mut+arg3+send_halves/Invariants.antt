use Rattle.std.proofs.Common.{◌+◌, ◌*◌}
use Rattle.time_stage.proofs.shared.+fn-send_halves-join_mut+arg2+fn-send_halves-join_mut+arg3+send_halves.Given as goal

abbrev pub decreases-send_halves : goal.decreases-send_halves
decreases-send_halves g l = 2 * l.levels

abbrev pub decreases-join_mut+arg2 : goal.decreases-join_mut+arg2
decreases-join_mut+arg2 g l = 2 * l.next + 1

abbrev pub decreases-join_mut+arg3 : goal.decreases-join_mut+arg3
decreases-join_mut+arg3 g l = 2 * l.next + 1
