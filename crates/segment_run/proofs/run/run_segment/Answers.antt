use Rattle.segment_run.proofs.WholeRunLemmas.{ran_none}
use Rattle.segment_run.proofs.run.run_segment.Goals as goal

pub returns-in_err-buffer_pool-clause-ran : goal.returns-in_err-buffer_pool-clause-ran
returns-in_err-buffer_pool-clause-ran g c = ran_none c.args.trace.now c.args.segment (g.B.Switchboard.known c.args.seat.now)

pub returns-in_err-machine-clause-ran : goal.returns-in_err-machine-clause-ran
returns-in_err-machine-clause-ran g c = ran_none c.args.trace.now c.args.segment (g.B.Switchboard.known c.args.seat.now)
