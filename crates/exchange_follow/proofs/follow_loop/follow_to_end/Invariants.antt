use Rattle.std.proofs.Common.{◌≡◌, ◌≤◌, ◌+◌, ◌-◌, ◌*◌, ℕ, [], List, length, take}
use Rattle.line_wire.specs.Following.{HasNoFeed}
use Rattle.line_wire.specs.Progress.{IsUnderway}
use Rattle.exchange_follow.specs.Handling.{handler_dues}
use Rattle.exchange_follow.proofs.follow_loop.follow_to_end.Given as goal

abbrev pub invariant-loop-more : goal.invariant-loop-more
invariant-loop-more g l = record {
  size : length l.buffer ≡ 131072;
  blank : l.text.items ≡ [];
  within : l.held ≤ 65535;
  few : l.handler.lines ≤ 4294967294;
  partial : HasNoFeed (take l.held l.buffer);
  underway : (heard : List ℕ)
      × IsUnderway (g.W.Wire.stands l.wire) (handler_dues (λ m. (goal.Meter-dyn g (m.vtable, m.value)).stands m.value) (λ m. (goal.Meter-dyn g (m.vtable, m.value)).text m.value) g.C.Carrier.carries g.C.Carrier.next g.C.Carrier.sizes g.C.Carrier.plays g.P.Fabric.slots g.P.Fabric.moves l.fn.handler.on.items l.fn.handler.spare.items l.handler.on.items l.handler.spare.items l.handler.heading l.handler.lines l.handler.exchange l.handler.linked).answers heard (take l.held l.buffer) l.text.items l.handler.lines;
  steady : g.W.Wire.write_faults l.wire ≡ g.W.Wire.write_faults l.fn.wire;
  reads : g.W.Wire.read_faults l.wire ≡ g.W.Wire.read_faults l.fn.wire;
}

abbrev pub decreases-loop-more : goal.decreases-loop-more
decreases-loop-more g l = (4294967294 - l.handler.lines) * 131073 + (131072 - l.held)
