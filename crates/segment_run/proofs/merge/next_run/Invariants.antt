use Rattle.segment_run.specs.Merging.{IsNextRun}
use Rattle.segment_run.proofs.merge.next_run.Given as goal

abbrev pub invariant-loop-i : goal.invariant-loop-i
invariant-loop-i g l = record {
  next : IsNextRun g.K.AnswerSink.holds l.used l.i l.found;
}
