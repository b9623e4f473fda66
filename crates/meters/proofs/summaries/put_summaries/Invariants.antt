use Rattle.std.proofs.Common.{◌≡◌, ◌++◌, [], take, drop, length, map}
use Rattle.std.specs.List.{concat}
use Rattle.meters.proofs.summaries.put_summaries.Given as goal

abbrev pub invariant-loop-meter : goal.invariant-loop-meter
invariant-loop-meter g l = record {
  front : take (length l.fn.out.items) l.out.items ≡ l.fn.out.items;
  done : l.out.items ++ concat (map (λ m. (goal.Meter-dyn g (m.vtable, m.value)).text m.value []) (drop l.meter-index l.meters)) ≡ l.fn.out.items ++ concat (map (λ m. (goal.Meter-dyn g (m.vtable, m.value)).text m.value []) l.meters);
}
