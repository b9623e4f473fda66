use Rattle.std.proofs.Common.{take}
use Rattle.std.specs.List.{AllZip}
use Rattle.meters.specs.Telling.{IsTold}
use Rattle.exchange_run.proofs.telling.tell_calls.Given as goal

abbrev pub invariant-loop-told : goal.invariant-loop-told
invariant-loop-told g l = record {
  told : AllZip (λ m n. IsTold (take l.told-index l.calls) ((goal.Meter-dyn g (m.vtable, m.value)).stands m.value) ((goal.Meter-dyn g (n.vtable, n.value)).stands n.value) ((goal.Meter-dyn g (m.vtable, m.value)).text m.value) ((goal.Meter-dyn g (n.vtable, n.value)).text n.value)) l.fn.meters l.meters;
}
