-- The rows of a part after the last one that is written.
use Rattle.std.proofs.Common.{◌≡◌, ℕ, ◌+◌, ◌-◌, ◌*◌, ◌<◌, ◌≤◌, List, length, sym, ◌∙◌, inl, inr, arith}
use Rattle.std.proofs.Math.Nat.{mul-le-mul_right}
use Rattle.std.proofs.lemmas.Bool.{cases_lt}
use Rattle.circuit_model.specs.FrameInput.{idle_octet}
use Rattle.frame_buffer.specs.Highways.{IsPart, RowsHold}
use Rattle.frame_buffer.proofs.Parts.{IsWrittenTo, row_within, row_fits}

-- if the lines from one on are to be idle, the rows before it are all that is to be written
pub rest_is_idle : (width : ℕ) (octet : ℕ → ℕ → ℕ) (first lines last : ℕ) (part : List ℕ) → (is : IsPart lines width first (length part)) → first ≤ last → IsWrittenTo width octet first last part
    → ((line at : ℕ) → last ≤ line → line < lines → at < width → octet line at ≡ idle_octet) → RowsHold width octet first part
rest_is_idle width octet first lines last part is from done quiet row at begins near = elim (cases_lt (first + row) last) [
  | inl earlier ↦ done.written row at earlier begins near
  | inr behind ↦
      let inside : row * width + at < length part = omega (arith, row_fits (length part) is.rows width row is.whole begins, near) in
      let past : (last - first) * width ≤ row * width = mul-le-mul_right width (omega (arith, behind)) in
      done.idle (row * width + at) (omega (arith, past)) inside
      ∙ sym (quiet (first + row) at behind (omega (arith, is.within, row_within (length part) is.rows width row is.whole begins)) near)
]
