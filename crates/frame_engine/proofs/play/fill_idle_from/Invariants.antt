use Rattle.std.proofs.Common.{◌≡◌, ℕ, ◌<◌, ◌≤◌, [], length, slice_index_or, replicate}
use Rattle.circuit_model.specs.FrameInput.{idle_octet}
use Rattle.frame_engine.proofs.play.fill_idle_from.Given as goal

abbrev pub invariant-loop-row : goal.invariant-loop-row
invariant-loop-row l = record {
  size : length l.out ≡ length l.fn.out;
  before : (k : ℕ) → k < l.first → slice_index_or l.out k [] ≡ slice_index_or l.fn.out k [];
  idle : (k : ℕ) → l.first ≤ k → k < l.row → slice_index_or l.out k [] ≡ replicate 30 idle_octet;
}
