use Rattle.std.proofs.Common.{◌≡◌, ℕ, ◌≤◌, length, None, slice_index_or}
use Rattle.bench_parts.proofs.mixing.mix.Given as goal

abbrev pub invariant-loop-place : goal.invariant-loop-place
invariant-loop-place l = record {
  size : length l.mixer ≡ 60;
  free : (k : ℕ) → l.place ≤ k → slice_index_or l.mixer k None ≡ None;
}
