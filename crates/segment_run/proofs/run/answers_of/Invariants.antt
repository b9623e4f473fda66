use Rattle.std.proofs.Common.{◌≡◌, ◌+◌, ◌++◌, ◌≤◌, map, length}
use Rattle.std.specs.Prelude.{vec_capacity}
use Rattle.segment_run.proofs.run.answers_of.Given as goal

abbrev pub invariant-loop-one : goal.invariant-loop-one
invariant-loop-one l = record {
  items : l.answers.items ++ map (λ p. p.answer) l.placed.items ≡ map (λ p. p.answer) l.fn.placed.items;
  room : length l.placed.items + length l.answers.items ≤ vec_capacity l.answers;
}

abbrev pub decreases-loop-one : goal.decreases-loop-one
decreases-loop-one l = length l.placed.items
