use Rattle.std.proofs.Common.{◌≡◌, ◌≢◌, ℕ, ◌<◌, ◌≤◌, length, slice_index}
use Rattle.run_verifier.specs.Turns.{place_at}
use Rattle.run_verifier.proofs.turns.first_events.Given as goal

abbrev pub invariant-loop-worker : goal.invariant-loop-worker
invariant-loop-worker l = record {
  size : length l.next ≡ 9;
  low : (w : ℕ) → w < l.worker → l.first ≤ slice_index l.next w;
  passed : (w n : ℕ) → w < l.worker → l.first ≤ n → n < slice_index l.next w → place_at l.trace n ≢ w;
  own : (w : ℕ) → w < l.worker → slice_index l.next w < l.end → place_at l.trace (slice_index l.next w) ≡ w;
}
