use Rattle.std.proofs.Common.{◌≡◌, ℕ, ◌<◌, ◌≤◌, get_or}
use Rattle.circuit_model.specs.FrameInput.{idle_octet}
use Rattle.frame_buffer.specs.Highways.{octet_on}
use Rattle.space_stage.proofs.overlay.find_senders.Given as goal

abbrev pub invariant-loop-line : goal.invariant-loop-line
invariant-loop-line l = record {
  few : l.count ≤ 4;
  inside : (k : ℕ) → k < l.count → get_or l.senders k 0 < l.line;
  silent : (line slot : ℕ) → line < l.line → slot < 30 → ((k : ℕ) → k < l.count → get_or l.senders k 0 ≡ line → ⊥) → octet_on l.highway line slot ≡ idle_octet;
}
