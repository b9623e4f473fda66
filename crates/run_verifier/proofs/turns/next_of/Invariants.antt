use Rattle.std.proofs.Common.{◌≢◌, ℕ, ◌<◌, ◌≤◌}
use Rattle.run_verifier.specs.Turns.{place_at}
use Rattle.run_verifier.proofs.turns.next_of.Given as goal

abbrev pub invariant-loop-number : goal.invariant-loop-number
invariant-loop-number l = record {
  from : l.fn.from ≤ l.number;
  passed : (n : ℕ) → l.fn.from ≤ n → n < l.number → place_at l.trace n ≢ l.worker;
}
