use Rattle.std.proofs.Common.{◌≡◌, ◌-◌, ◌++◌}
use Rattle.traffic_gen.specs.Calls.{frames_drawn, state_after_frames}
use Rattle.traffic_gen.specs.Lines.{text}
use Rattle.traffic_gen.proofs.call.Call.put_frames.Given as goal

abbrev pub invariant-loop : goal.invariant-loop
invariant-loop l = record {
  lines : l.out.items ++ text (frames_drawn l.self.caller l.far (l.end - l.counter) l.draws.state) ≡ l.fn.out.items ++ text (frames_drawn l.self.caller l.far l.end l.fn.draws.state);
  state : state_after_frames l.far (l.end - l.counter) l.draws.state ≡ state_after_frames l.far l.end l.fn.draws.state;
}
