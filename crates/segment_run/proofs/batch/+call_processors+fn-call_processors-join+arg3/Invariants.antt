use Rattle.std.proofs.Common.{◌+◌, ◌*◌, vec_len}
use Rattle.segment_run.proofs.batch.+call_processors+fn-call_processors-join+arg3.Given as goal

abbrev pub decreases-call_processors : goal.decreases-call_processors
decreases-call_processors g l = 2 * vec_len l.batch.jobs

abbrev pub decreases-join+arg3 : goal.decreases-join+arg3
decreases-join+arg3 g l = 2 * vec_len l.batch.jobs + 1
