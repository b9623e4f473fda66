use Rattle.std.proofs.Common.{◌≡◌, ◌<◌, ◌≤◌}
use Rattle.circuit_model.specs.declared.channel.Slot.{Slot}
use Rattle.circuit_model.specs.FrameInput.{octet_in, idle_octet}
use Rattle.frame_buffer.specs.Speech.{octet_in_half}
use Rattle.frame_engine.proofs.intake.take_in.Given as goal

abbrev pub invariant-loop-line : goal.invariant-loop-line
invariant-loop-line l = record {
  lines : l.speech.lines ≡ l.fn.speech.lines;
  taken : (at : Slot) → at.line < l.line → at.place < 30 → octet_in_half l.speech.filled at ≡ octet_in l.input at;
  idle : (at : Slot) → l.line ≤ at.line → at.line < l.external → at.place < 30 → octet_in_half l.speech.filled at ≡ idle_octet;
  others : (at : Slot) → l.external ≤ at.line → at.place < 30 → octet_in_half l.speech.filled at ≡ octet_in_half l.fn.speech.filled at;
  readable : l.speech.readable ≡ l.fn.speech.readable;
}
