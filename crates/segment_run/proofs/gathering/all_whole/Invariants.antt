use Rattle.std.proofs.Common.{◌<◌, ℕ, IsTrue, slice_index_or}
use Rattle.call_processor.specs.declared.worked.WorkerOutput.{WorkerOutput}
use Rattle.segment_run.proofs.gathering.all_whole.Given as goal

abbrev pub invariant-loop-output : goal.invariant-loop-output
invariant-loop-output g l = record {
  so_far : (k : ℕ) (d : WorkerOutput _ _) → k < l.output-index → IsTrue (slice_index_or l.fn.workers k d).whole;
}
