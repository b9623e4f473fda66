use Rattle.std.proofs.Common.{◌≡◌, ℕ, ◌<◌, ◌++◌, [], length, get_or}
use Rattle.space_stage.specs.Turning.{row_of, octet_at}
use Rattle.space_stage.proofs.Turns.{row_by}
use Rattle.space_stage.proofs.slotwise.crossed.Given as goal

abbrev pub invariant-loop-k : goal.invariant-loop-k
invariant-loop-k l = record {
  size : length l.octets ≡ 16;
  done : (j : ℕ) → j < l.k → get_or l.octets j [] ≡ row_by (λ slot line. get_or (row_of l.low slot ++ row_of l.high slot) (octet_at l.numbers slot line) 213) j;
}
