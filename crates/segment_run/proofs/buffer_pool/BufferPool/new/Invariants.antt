use Rattle.std.proofs.Common.{◌≡◌, ◌≤◌, vec_len}
use Rattle.std.specs.Prelude.{vec_capacity}
use Rattle.segment_run.proofs.buffer_pool.BufferPool.new.Given as goal

abbrev pub invariant-loop : goal.invariant-loop
invariant-loop g l = record {
  count : vec_len l.unused ≡ l.counter;
  room : 9 ≤ vec_capacity l.unused;
}
