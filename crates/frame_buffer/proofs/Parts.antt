-- A part of the rows of some lines, written row after row.
use Rattle.std.proofs.Common.{◌≡◌, ℕ, refl, ◌+◌, ◌-◌, ◌*◌, ◌<◌, ◌≤◌, List, length, length-take-le, length-drop, get_or, take, drop, get_or-take, mul_comm, sym, subst, ap, ◌∙◌, inl, inr, arith}
use Rattle.std.proofs.Math.Nat.{mul-le-mul_right, lt_of_mul-lt-mul_right}
use Rattle.std.proofs.lemmas.Nat.{mul-add-lt}
use Rattle.std.proofs.lemmas.List.{get_or-append_right}
use Rattle.std.proofs.lemmas.Bool.{cases_lt}
use Rattle.std.proofs.lemmas.Slice.{take-put_mid}
use borrow.Rule.Slice.PartMut.{put_mid, same_len_mid}
use Rattle.circuit_model.specs.FrameInput.{idle_octet}
use Rattle.frame_buffer.specs.Highways.{IsPart, RowsHold}
use Rattle.frame_buffer.proofs.Rows.{get_or-put_mid_below, get_or-put_mid_beyond}

-- a row that begins inside a part is a whole row of it
pub row_within : (octets rows width row : ℕ) → octets ≡ rows * width → row * width < octets → row < rows
row_within octets rows width row whole begins = lt_of_mul-lt-mul_right width (subst (λ o. row * width < o) whole begins)

pub row_fits : (octets rows width row : ℕ) → octets ≡ rows * width → row * width < octets → row * width + width ≤ octets
row_fits octets rows width row whole begins =
    let most : (row + 1) * width ≤ rows * width = mul-le-mul_right width (omega (arith, row_within octets rows width row whole begins)) in
    grind (arith, whole, most)

-- the rows of the lines before this one hold these octets
abbrev pub HoldBefore : ℕ → (ℕ → ℕ → ℕ) → ℕ → ℕ → List ℕ → Type 0
HoldBefore width octet first line part = (row at : ℕ) → first + row < line → row * width < length part → at < width → get_or part (row * width + at) 0 ≡ octet (first + row) at

module _ (width : ℕ) (octet : ℕ → ℕ → ℕ) (first line : ℕ) (part : List ℕ) (from : first ≤ line) (before : HoldBefore width octet first line part) where
  -- the row of a line that isn't in the part is none
  pub none_there : length part ≤ (line - first) * width → HoldBefore width octet first (line + 1) part
  none_there beyond row at reached begins near = elim (cases_lt (first + row) line) [
    | inl earlier ↦ before row at earlier begins near
    | inr last ↦
        let this : row ≡ line - first = omega (arith, from, reached, last) in
        absurd (omega (arith, beyond, subst (λ r. r * width < length part) this begins))
  ]

  -- the row of a line is written
  module _ (a k : ℕ) (row_now : List ℕ) (starts : a ≡ (line - first) * width) (wide : k ≡ width) (room : a + k ≤ length part) (fits : length row_now ≡ k) (holds : (at : ℕ) → at < width → get_or row_now at 0 ≡ octet line at) where
    here : (at : ℕ) → at < width → get_or (put_mid a k part row_now) (a + at) 0 ≡ get_or row_now at 0
    here at near =
        sym (get_or-take (a + length row_now) (put_mid a k part row_now) (a + at) 0 (omega (arith, wide, fits, near)))
        ∙ ap (λ (zs : List ℕ). get_or zs (a + at) 0) (take-put_mid a k part row_now (a + length row_now) refl (omega (arith, room)))
        ∙ get_or-append_right (take a part) row_now a (a + at) 0 (length-take-le a part (omega (arith, room))) (omega arith)
        ∙ ap (λ i. get_or row_now i 0) (omega arith)

    pub written_there : HoldBefore width octet first (line + 1) (put_mid a k part row_now)
    written_there row at reached begins near = elim (cases_lt (first + row) line) [
      | inl earlier ↦
          let above : row * width + at < a = omega (arith, starts, mul-add-lt row width at (line - first) (omega (arith, earlier)) near, mul_comm width (line - first)) in
          get_or-put_mid_below a k part row_now room fits (row * width + at) above
          ∙ before row at earlier (omega (arith, above, room)) near
      | inr last ↦
          let this : row ≡ line - first = omega (arith, from, reached, last) in
          let line_is : line ≡ first + row = omega (arith, from, this) in
          ap (λ r. get_or (put_mid a k part row_now) (r * width + at) 0) this
          ∙ ap (λ s. get_or (put_mid a k part row_now) (s + at) 0) (sym starts)
          ∙ here at near ∙ holds at near ∙ ap (λ l. octet l at) line_is
    ]

-- the rows of the lines before this one are written, and all octets behind them are idle
pub record IsWrittenTo (width : ℕ) (octet : ℕ → ℕ → ℕ) (first line : ℕ) (part : List ℕ) : Type 0 where
  pub written : HoldBefore width octet first line part
  pub idle : (i : ℕ) → (line - first) * width ≤ i → i < length part → get_or part i 0 ≡ idle_octet

-- where all is idle, no line is before the first
pub none_written : (width : ℕ) (octet : ℕ → ℕ → ℕ) (first : ℕ) (part : List ℕ) → ((i : ℕ) → i < length part → get_or part i 0 ≡ idle_octet) → IsWrittenTo width octet first first part
none_written width octet first part all = record {
  written = λ row at reached begins near. absurd (omega (arith, reached));
  idle = λ i behind inside. all i inside;
}

module _ (width : ℕ) (octet : ℕ → ℕ → ℕ) (first line : ℕ) (part : List ℕ) (from : first ≤ line) (is : IsWrittenTo width octet first line part) where
  further : (line - first) * width ≤ (line + 1 - first) * width
  further = mul-le-mul_right width (omega arith)

  next_row : (line + 1 - first) * width ≡ (line - first) * width + width
  next_row = let next : line + 1 - first ≡ line - first + 1 = omega (arith, from) in ap (λ n. n * width) next ∙ grind arith

  -- the row of a line that isn't in the part is none
  pub written_past : length part ≤ (line - first) * width → IsWrittenTo width octet first (line + 1) part
  written_past beyond = record {
    written = none_there width octet first line part from is.written beyond;
    idle = λ i behind inside. is.idle i (omega (arith, further, behind)) inside;
  }

  -- the row of a line that is to be idle is written already
  pub written_idle : (rows : ℕ) → length part ≡ rows * width → ((at : ℕ) → at < width → octet line at ≡ idle_octet) → IsWrittenTo width octet first (line + 1) part
  written_idle rows whole quiet = record {
    written = λ row at reached begins near. elim (cases_lt (first + row) line) [
      | inl earlier ↦ is.written row at earlier begins near
      | inr last ↦
          let this : row ≡ line - first = omega (arith, from, reached, last) in
          let line_is : line ≡ first + row = omega (arith, from, this) in
          let inside : row * width + at < length part = omega (arith, row_fits (length part) rows width row whole begins, near) in
          is.idle (row * width + at) (subst (λ r. r * width ≤ row * width + at) this (omega arith)) inside
          ∙ sym (quiet at near) ∙ ap (λ l. octet l at) line_is
    ];
    idle = λ i behind inside. is.idle i (omega (arith, further, behind)) inside;
  }

  -- the row of a line is written
  pub written_row : (a k : ℕ) (row_now : List ℕ) → a ≡ (line - first) * width → k ≡ width → a + k ≤ length part → length row_now ≡ k → ((at : ℕ) → at < width → get_or row_now at 0 ≡ octet line at)
      → IsWrittenTo width octet first (line + 1) (put_mid a k part row_now)
  written_row a k row_now starts wide room fits holds = record {
    written = written_there width octet first line part from is.written a k row_now starts wide room fits holds;
    idle = λ i behind inside.
        let past : a + k ≤ i = omega (arith, starts, wide, next_row, behind) in
        let size : length (put_mid a k part row_now) ≡ length part = same_len_mid a k part row_now (fits ∙ sym (length-take-le k (drop a part) (omega (arith, room, length-drop a part)))) in
        get_or-put_mid_beyond a k part row_now room fits i past ∙ is.idle i (omega (arith, starts, past)) (omega (arith, inside, size));
  }

-- all rows of a part belong to lines that exist
pub all_hold : (width : ℕ) (octet : ℕ → ℕ → ℕ) (first lines last : ℕ) (part : List ℕ) → (is : IsPart lines width first (length part)) → lines ≤ last → HoldBefore width octet first last part → RowsHold width octet first part
all_hold width octet first lines last part is reached before row at begins near =
    before row at (omega (arith, reached, is.within, row_within (length part) is.rows width row is.whole begins)) begins near
