use Rattle.std.proofs.Common.{◌≡◌, [], ◌∷◌, length, take, drop}
use Rattle.std.specs.List.{AllZip}
use Rattle.meters.specs.Telling.{IsTold}
use Rattle.exchange_run.proofs.telling.tell_call.Given as goal

abbrev pub invariant-loop-meter : goal.invariant-loop-meter
invariant-loop-meter g l = record {
  count : length l.meters ≡ length l.fn.meters;
  told : AllZip (λ m n. IsTold (l.told ∷ []) ((goal.Meter-dyn g (m.vtable, m.value)).stands m.value) ((goal.Meter-dyn g (n.vtable, n.value)).stands n.value) ((goal.Meter-dyn g (m.vtable, m.value)).text m.value) ((goal.Meter-dyn g (n.vtable, n.value)).text n.value)) (take l.meter-index l.fn.meters) (take l.meter-index l.meters);
  rest : drop l.meter-index l.meters ≡ drop l.meter-index l.fn.meters;
}
