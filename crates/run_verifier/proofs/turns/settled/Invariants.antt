use Rattle.std.proofs.Common.{ℕ, ◌-◌, ◌≤◌, List, length}
use Rattle.run_verifier.specs.Turns.{AreTurns}
use Rattle.run_verifier.proofs.turns.settled.Given as goal

abbrev pub invariant-loop-turns : goal.invariant-loop-turns
invariant-loop-turns l = record {
  within : l.turns.segment ≤ length l.trace.segments;
  turns : (order : List ℕ) → AreTurns l.trace l.fn.turns.segment l.fn.turns.end l.fn.turns.next order → AreTurns l.trace l.turns.segment l.turns.end l.turns.next order;
}

abbrev pub decreases-loop-turns : goal.decreases-loop-turns
decreases-loop-turns l = length l.trace.segments - l.turns.segment
