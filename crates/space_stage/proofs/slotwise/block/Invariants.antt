use Rattle.std.proofs.Common.{◌≡◌, ℕ, ◌+◌, ◌*◌, ◌<◌, [], length, get_or}
use Rattle.space_stage.proofs.Turns.{row_by}
use Rattle.space_stage.proofs.slotwise.block.Given as goal

abbrev pub invariant-loop-k : goal.invariant-loop-k
invariant-loop-k l = record {
  size : length l.bytes ≡ 16;
  done : (j : ℕ) → j < l.k → get_or l.bytes j [] ≡ row_by (λ row at. get_or l.rows (l.from + row * 30 + at) 0) j;
}
