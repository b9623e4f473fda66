use Rattle.std.proofs.Common.{◌≡◌, ℕ, ◌*◌, ◌<◌}
use Rattle.circuit_model.specs.Ports.{port_numbered}
use Rattle.frame_buffer.specs.Speech.{octet_in_half}
use Rattle.frame_engine.specs.Ports.{given_to}
use Rattle.frame_engine.proofs.ports.mix_bridges.Given as goal

abbrev pub invariant-loop-bridge : goal.invariant-loop-bridge
invariant-loop-bridge l = record {
  lines : l.speech.lines ≡ l.fn.speech.lines;
  ports : (k : ℕ) → k < 30 * l.bridge → octet_in_half l.speech.filled (port_numbered l.image.external k) ≡ given_to l.image (octet_in_half l.read.readable) k;
  readable : l.speech.readable ≡ l.fn.speech.readable;
}
