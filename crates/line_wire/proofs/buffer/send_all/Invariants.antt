use Rattle.std.proofs.Common.{◌≡◌, ◌≤◌, ◌++◌, ◌-◌, ℕ, List, length, take}
use Rattle.line_wire.proofs.buffer.send_all.Given as goal

abbrev pub invariant-loop-done : goal.invariant-loop-done
invariant-loop-done g l = record {
  within : l.done ≤ length l.bytes;
  told : (heard said : List ℕ) → g.W.Wire.stands l.fn.wire heard said → g.W.Wire.stands l.wire heard (said ++ take l.done l.bytes);
  steady : g.W.Wire.write_faults l.wire ≡ g.W.Wire.write_faults l.fn.wire;
  reads : g.W.Wire.read_faults l.wire ≡ g.W.Wire.read_faults l.fn.wire;
  end : g.W.Wire.ended l.fn.wire → g.W.Wire.ended l.wire;
}

abbrev pub decreases-loop-done : goal.decreases-loop-done
decreases-loop-done g l = length l.bytes - l.done
