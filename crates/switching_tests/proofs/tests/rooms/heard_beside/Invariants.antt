use Rattle.std.proofs.Common.{◌≡◌, ℕ, ◌*◌, ◌≤◌, length, get_or, None}
use Rattle.switching_tests.proofs.tests.rooms.heard_beside.Given as goal

-- the ports from the next member's on are free
abbrev pub invariant-loop-k : goal.invariant-loop-k
invariant-loop-k l = record {
  ports : length l.mixer ≡ 11;
  free : (port : ℕ) → 2 * l.k ≤ port → get_or l.mixer port None ≡ None;
}
