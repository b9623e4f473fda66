use Rattle.std.proofs.Common.{◌≡◌, ◌++◌, take}
use Rattle.std.specs.Prelude.{vec_capacity}
use Rattle.exchange_core.specs.Working.{order_of}
use Rattle.exchange_run.proofs.run.note_order.Given as goal

abbrev pub invariant-loop-entry : goal.invariant-loop-entry
invariant-loop-entry l = record {
  noted : l.order.items ≡ l.fn.order.items ++ order_of (take l.entry-index l.journal);
  room : vec_capacity l.order ≡ vec_capacity l.fn.order;
}
