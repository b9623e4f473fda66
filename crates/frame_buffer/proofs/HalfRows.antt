-- The rows of some lines, in two halves.
use Rattle.std.proofs.Common.{◌≡◌, ℕ, ◌+◌, ◌-◌, ◌*◌, ◌/◌, ◌<◌, ◌≤◌, List, ◌++◌, length, length-append, get_or, add-mul, mul_comm, sym, ap, ◌∙◌, inl, inr, arith}
use Rattle.std.proofs.lemmas.Nat.{mul-add-lt}
use Rattle.std.proofs.lemmas.List.{get_or_append_left, get_or-append-add}
use Rattle.std.proofs.lemmas.Bool.{cases_lt}
use Rattle.frame_buffer.specs.Highways.{RowsHold, AreRows, AreFilled}

-- the rows of both halves are all rows
times_split : (first middle end width : ℕ) → first ≤ middle → middle ≤ end → (middle - first) * width + (end - middle) * width ≡ (end - first) * width
times_split first middle end width low high =
    let whole : end - first ≡ (middle - first) + (end - middle) = omega arith in
    sym (ap (λ n. n * width) whole ∙ add-mul (middle - first) (end - middle) width)

-- where some lines are halved, each half has whole rows
module _ (lines width first end octets front back : ℕ) (are : AreRows lines width first end octets) (is : front ≡ ((end - first) / 2) * width) (all : front + back ≡ octets) where
  abbrev middle : ℕ
  middle = first + (end - first) / 2

  low : first ≤ middle
  low = omega arith

  high : middle ≤ end
  high = let order = are.order in omega (arith, order)

  front_whole : front ≡ (middle - first) * width
  front_whole = let same : middle - first ≡ (end - first) / 2 = omega arith in is ∙ ap (λ n. n * width) (sym same)

  pub front_rows : AreRows lines width first (first + (end - first) / 2) front
  front_rows = record { whole = front_whole; order = low; within = let within = are.within in omega (arith, within, high) }

  pub back_rows : AreRows lines width (first + (end - first) / 2) end back
  back_rows = record {
    whole = let split = times_split first middle end width low high in let whole = are.whole in omega (arith, split, whole, front_whole, all);
    order = high;
    within = are.within;
  }

rows_split : (half row width : ℕ) → half ≤ row → row * width ≡ half * width + (row - half) * width
rows_split half row width late =
    let whole : row ≡ half + (row - half) = omega arith in
    ap (λ n. n * width) whole ∙ add-mul half (row - half) width

-- where each half holds its rows, both together do
halves_hold : (width : ℕ) (octet : ℕ → ℕ → ℕ) (first half : ℕ) (front back : List ℕ) → length front ≡ half * width → RowsHold width octet first front → RowsHold width octet (first + half) back → RowsHold width octet first (front ++ back)
halves_hold width octet first half front back size low high row at begins near = elim (cases_lt row half) [
  | inl early ↦
      let inside : row * width + at < length front = omega (arith, size, mul-add-lt row width at half early near, mul_comm half width) in
      get_or_append_left front back 0 (row * width + at) inside ∙ low row at (omega (arith, inside)) near
  | inr late ↦
      let r = row - half in
      let is : row * width + at ≡ length front + (r * width + at) = let split = rows_split half row width late in omega (arith, size, split) in
      ap (λ k. get_or (front ++ back) k 0) is
      ∙ get_or-append-add front back (r * width + at) 0
      ∙ high r at (let all = length-append front back in let split = rows_split half row width late in omega (arith, begins, all, size, split)) near
      ∙ ap (λ l. octet l at) (omega (arith, late))
]

-- so do both where each half is filled
pub both_hold : (width : ℕ) (octet : ℕ → ℕ → ℕ) (first half octets others : ℕ) (front back : List ℕ) → octets ≡ half * width → AreFilled width octet first octets front → AreFilled width octet (first + half) others back → RowsHold width octet first (front ++ back)
both_hold width octet first half octets others front back whole low high = halves_hold width octet first half front back (low.size ∙ whole) low.rows high.rows
