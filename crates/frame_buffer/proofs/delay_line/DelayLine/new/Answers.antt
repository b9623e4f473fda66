use Rattle.std.proofs.Common.{rules}
use Rattle.frame_buffer.proofs.Frames.{idle_rows_are_idle}
use Rattle.frame_buffer.proofs.delay_line.DelayLine.new.Goals as goal

pub returns-clause-empty : goal.returns-clause-empty
returns-clause-empty c = record {
  latest = λ at line place. idle_rows_are_idle _ at.line at.place (search rules) (search rules);
  earlier = λ at line place. idle_rows_are_idle _ at.line at.place (search rules) (search rules);
}
