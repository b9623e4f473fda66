use Rattle.std.proofs.Common.{◌+◌, ◌*◌}
use Rattle.lock_tests.proofs.tests.lock.crew.+crew+fn-crew-join+arg3.Given as goal

abbrev pub decreases-crew : goal.decreases-crew
decreases-crew g l = 2 * l.more

abbrev pub decreases-join+arg3 : goal.decreases-join+arg3
decreases-join+arg3 g l = 2 * l.next + 1
