use Rattle.std.proofs.Common.{◌≡◌, ◌++◌, take, drop, length, map, if◌then◌else◌}
use Rattle.text_tests.proofs.keeper.put_letters.Given as goal

abbrev pub invariant-loop-call : goal.invariant-loop-call
invariant-loop-call l = record {
  front : take (length l.fn.out.items) l.out.items ≡ l.fn.out.items;
  done : l.out.items ++ map (λ call. if call.answered then 65 else 78) (drop l.call-index l.calls) ≡ l.fn.out.items ++ map (λ call. if call.answered then 65 else 78) l.calls;
}
