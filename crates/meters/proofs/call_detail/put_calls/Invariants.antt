use Rattle.std.proofs.Common.{◌≡◌, ◌++◌, take, drop, length}
use Rattle.meters.specs.Details.{call_lines}
use Rattle.meters.proofs.call_detail.put_calls.Given as goal

abbrev pub invariant-loop-call : goal.invariant-loop-call
invariant-loop-call l = record {
  front : take (length l.fn.out.items) l.out.items ≡ l.fn.out.items;
  done : l.out.items ++ call_lines (drop l.call-index l.calls) ≡ l.fn.out.items ++ call_lines l.calls;
}
