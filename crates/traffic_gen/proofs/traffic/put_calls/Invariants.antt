use Rattle.std.proofs.Common.{◌≡◌, ◌-◌, ◌++◌}
use Rattle.traffic_gen.specs.Calls.{calls_drawn}
use Rattle.traffic_gen.specs.Lines.{text}
use Rattle.traffic_gen.proofs.traffic.put_calls.Given as goal

abbrev pub invariant-loop : goal.invariant-loop
invariant-loop l = l.out.items ++ text (calls_drawn (l.calls - l.counter) l.draws.state) ≡ l.fn.out.items ++ text (calls_drawn l.calls l.fn.seed)
