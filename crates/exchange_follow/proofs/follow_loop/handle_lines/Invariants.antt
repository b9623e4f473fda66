use Rattle.std.proofs.Common.{◌≡◌, ◌≤◌, ◌<◌, ◌⊎◌, ℕ, List, length, drop, ◌-◌}
use Rattle.line_wire.specs.Progress.{IsUnderway}
use Rattle.exchange_follow.specs.Handling.{handler_dues}
use Rattle.exchange_follow.proofs.follow_loop.handle_lines.Given as goal

abbrev pub invariant-loop-line : goal.invariant-loop-line
invariant-loop-line g l = record {
  underway : (old old_spare : List _) (heard : List ℕ)
      → IsUnderway (g.W.Wire.stands l.fn.wire) (handler_dues (λ m. (goal.Meter-dyn g (m.vtable, m.value)).stands m.value) (λ m. (goal.Meter-dyn g (m.vtable, m.value)).text m.value) g.C.Carrier.carries g.C.Carrier.next g.C.Carrier.sizes g.C.Carrier.plays g.P.Fabric.slots g.P.Fabric.moves old old_spare l.fn.handler.on.items l.fn.handler.spare.items l.fn.handler.heading l.fn.handler.lines l.fn.handler.exchange l.fn.handler.linked).answers heard l.fn.bytes l.fn.text.items l.fn.handler.lines
      → IsUnderway (g.W.Wire.stands l.wire) (handler_dues (λ m. (goal.Meter-dyn g (m.vtable, m.value)).stands m.value) (λ m. (goal.Meter-dyn g (m.vtable, m.value)).text m.value) g.C.Carrier.carries g.C.Carrier.next g.C.Carrier.sizes g.C.Carrier.plays g.P.Fabric.slots g.P.Fabric.moves old old_spare l.handler.on.items l.handler.spare.items l.handler.heading l.handler.lines l.handler.exchange l.handler.linked).answers heard l.rest l.text.items l.handler.lines;
  within : length l.rest ≤ length l.fn.bytes;
  behind : drop (length l.fn.bytes - length l.rest) l.fn.bytes ≡ l.rest;
  counted : (l.rest ≡ l.fn.bytes) ⊎ (l.fn.handler.lines < l.handler.lines);
  later : l.fn.handler.lines ≤ l.handler.lines;
  few : l.fn.handler.lines ≤ 4294967294 → l.handler.lines ≤ 4294967294;
  steady : g.W.Wire.write_faults l.wire ≡ g.W.Wire.write_faults l.fn.wire;
  reads : g.W.Wire.read_faults l.wire ≡ g.W.Wire.read_faults l.fn.wire;
}

abbrev pub decreases-loop-line : goal.decreases-loop-line
decreases-loop-line g l = length l.rest
