use Rattle.std.proofs.Common.{◌≡◌, ◌⊎◌, ℕ, ◌<◌, length, get_or}
use Rattle.circuit_model.specs.FrameInput.{idle_octet}
use Rattle.space_stage.specs.Crossing.{gets_by}
use Rattle.space_stage.proofs.overlay.lay_row.Given as goal

abbrev pub invariant-loop-k : goal.invariant-loop-k
invariant-loop-k l = record {
  size : length l.row ≡ 30;
  lays : (slot : ℕ) → slot < 30 → (get_or l.row slot 0 ≡ gets_by l.table l.highway l.line slot) ⊎ ((get_or l.row slot 0 ≡ idle_octet) × ((j : ℕ) → j < l.k → get_or l.senders j 0 ≡ get_or l.lines slot 0 → ⊥));
}
