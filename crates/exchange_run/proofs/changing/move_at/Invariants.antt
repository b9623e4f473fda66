use Rattle.std.proofs.Common.{◌≤◌}
use Rattle.std.specs.Prelude.{vec_capacity, vec_len}
use Rattle.exchange_run.specs.Changes.{AreMoved}
use Rattle.exchange_run.proofs.changing.move_at.Given as goal

abbrev pub invariant-loop : goal.invariant-loop
invariant-loop g l = record {
  some : 1 ≤ vec_capacity l.meters;
  room : vec_len l.meters ≤ vec_capacity l.meters;
  moved : AreMoved (λ m. (goal.Meter-dyn g (m.vtable, m.value)).stands m.value) (λ m. (goal.Meter-dyn g (m.vtable, m.value)).text m.value) l.counter l.fn.meters.items l.fn.spare.items l.meters.items l.spare.items;
}
