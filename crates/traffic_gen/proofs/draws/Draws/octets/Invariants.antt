use Rattle.std.proofs.Common.{◌≡◌, ◌-◌, ◌++◌, take, length}
use Rattle.traffic_gen.specs.Draws.{octets_drawn, state_after}
use Rattle.traffic_gen.proofs.draws.Draws.octets.Given as goal

abbrev pub invariant-loop-place : goal.invariant-loop-place
invariant-loop-place l = record {
  wide : length l.octets ≡ 30;
  done : take l.place l.octets ++ octets_drawn (30 - l.place) l.self.state ≡ octets_drawn 30 l.fn.self.state;
  rest : state_after (30 - l.place) l.self.state ≡ state_after 30 l.fn.self.state;
}
