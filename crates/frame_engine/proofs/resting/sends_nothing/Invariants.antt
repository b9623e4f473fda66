use Rattle.std.proofs.Common.{◌≡◌, ◌<◌}
use Rattle.circuit_model.specs.declared.channel.Slot.{Slot}
use Rattle.circuit_model.specs.FrameInput.{octet_in, idle_octet}
use Rattle.frame_engine.proofs.resting.sends_nothing.Given as goal

abbrev pub invariant-loop-line : goal.invariant-loop-line
invariant-loop-line l = (at : Slot) → at.line < l.line → octet_in l.input at ≡ idle_octet
