use Rattle.std.proofs.Common.{◌≡◌, ◌≤◌, ℕ, length, slice_index}
use Rattle.call_processor.proofs.PartLemmas.{up_to}
use Rattle.segment_run.specs.Workers.{worker_numbered}
use Rattle.segment_run.proofs.dealing.loads_of.Given as goal

abbrev pub invariant-loop-event : goal.invariant-loop-event
invariant-loop-event l = record {
  from : l.first ≤ l.event;
  size : length l.loads ≡ 9;
  each : (i : ℕ) → i ≤ l.trace.processors → slice_index l.loads i ≡ length (up_to l.trace (worker_numbered l.trace.processors i) l.first l.event);
}
