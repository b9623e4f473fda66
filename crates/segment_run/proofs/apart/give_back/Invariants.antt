use Rattle.std.proofs.Common.{◌≡◌, ◌+◌, ◌≤◌, length, vec_len}
use Rattle.std.specs.Prelude.{vec_capacity}
use Rattle.segment_run.proofs.apart.give_back.Given as goal

abbrev pub invariant-loop-one : goal.invariant-loop-one
invariant-loop-one g l = record {
  all : length l.unused.items + length l.used.items ≡ length l.fn.unused.items + length l.fn.used.items;
  room : vec_len l.unused + vec_len l.used ≤ vec_capacity l.unused;
  kept : vec_capacity l.used ≡ vec_capacity l.fn.used;
}

abbrev pub decreases-loop-one : goal.decreases-loop-one
decreases-loop-one g l = vec_len l.used
