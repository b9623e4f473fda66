-- One row of a table that is kept row after row.
use Rattle.std.proofs.Common.{◌≡◌, ◌≢◌, ℕ, ◌+◌, ◌*◌, ◌-◌, ◌/◌, ◌%◌, ◌^◌, ◌<◌, ◌≤◌, eqb, List, length, length-set, get_or, set, get_or-set_other, map, take, drop, length-take-le, get_or-take, get_or-drop, Option, Some, None, IfSome, subst, sym, ap, ◌∙◌, ◌⊎◌, inl, inr, arith}
use Rattle.std.specs.Prelude.{bit_or, bit_and}
use Rattle.std.specs.Int.{bit_at}
use Rattle.std.proofs.lemmas.Nat.Bits.{bit_at-lt, bit_at_above, bit_at_or, bit_at-pow_same, bit_at-pow_other, shr_and_one}
use Rattle.std.proofs.lemmas.Bool.{cases_eq, cases_lt, eq-eqb, ne_eqb, cond-true, cond-false}
use Rattle.std.proofs.lemmas.List.{length-drop, get_or-map, ext_get_or}
use Rattle.std.proofs.lemmas.Nat.{mul-add-lt, same_from_place, one_shl, mod_below, leading_length, div-add-mod'}
use Rattle.std.proofs.Math.Nat.{mod-eq_of_lt, div-lt_iff_lt-mul, le-div_iff_mul-le}
use Rattle.std.specs.Int.Count.{count_leading_zeros}
use Rattle.std.proofs.lemmas.Grind.{get_or-set_at}
use Rattle.control_memory.specs.Tables.{number_in, entry_in, IsRow, AreBytesOf}

-- a byte that is no mark of a missing number is its number
number_within : (byte limit : ℕ) → (byte ≢ 255 → byte < limit) → IfSome (number_in byte) (λ number. number < limit)
number_within byte limit below = elim (cases_eq byte 255) [
  | inl none ↦ subst (λ o. IfSome o (λ number. number < limit)) (sym (cond-true (eqb byte 255) None (Some byte) (eq-eqb byte 255 none))) _
  | inr some ↦ subst (λ o. IfSome o (λ number. number < limit)) (sym (cond-false (eqb byte 255) None (Some byte) (ne_eqb byte 255 some))) (below some)
]

-- a byte of a row is the mark and there is no number, or it is the number
pub named : (byte limit : ℕ) (number : Option ℕ) → number_in byte ≡ number → IfSome number (λ n. n < limit) → ((byte ≡ 255) × (number ≡ None)) ⊎ ((byte < limit) × (number ≡ Some byte))
named byte limit number is within = elim (cases_eq byte 255) [
  | inl none ↦ inl (none, sym is ∙ cond-true (eqb byte 255) None (Some byte) (eq-eqb byte 255 none))
  | inr some ↦
      let there : number ≡ Some byte = sym is ∙ cond-false (eqb byte 255) None (Some byte) (ne_eqb byte 255 some) in
      inr (subst (λ o. IfSome o (λ n. n < limit)) there within, there)
]

module _ (bytes : List ℕ) (rows columns limit row : ℕ) (size : length bytes ≡ rows * columns) (inside : row < rows) (below : (i : ℕ) → i < length bytes → get_or bytes i 0 ≢ 255 → get_or bytes i 0 < limit) where
  here : (column : ℕ) → column < columns → row * columns + column < length bytes
  here column near = grind (arith, mul-add-lt row columns column rows inside near, size)

  room : row * columns + columns ≤ length bytes
  room = grind (arith, size)

  pub is_row : (start width : ℕ) → start ≡ row * columns → width ≡ columns → IsRow columns limit (entry_in columns (map number_in bytes) row) (take width (drop start bytes))
  is_row start width at wide = record {
    width = length-take-le width (drop start bytes) (omega (arith, length-drop start bytes, room, at, wide)) ∙ wide;
    entries = λ column near.
        ap number_in (get_or-take width (drop start bytes) column 0 (omega (arith, near, wide)) ∙ get_or-drop start bytes column 0 ∙ ap (λ s. get_or bytes (s + column) 0) at)
        ∙ sym (get_or-map number_in bytes (row * columns + column) 0 None (here column near));
    within = λ column near.
        subst (λ o. IfSome o (λ number. number < limit))
        (sym (get_or-map number_in bytes (row * columns + column) 0 None (here column near)))
        (number_within (get_or bytes (row * columns + column) 0) limit (below (row * columns + column) (here column near)));
  }

-- ---- marks of rows
set_here : (n s : ℕ) → bit_at (bit_or n (2 ^ s)) s ≡ 1
set_here n s = omega (arith, bit_at_or n (2 ^ s) s, bit_at-pow_same s, bit_at-lt n s)

set_other : (n s t : ℕ) → t ≢ s → bit_at (bit_or n (2 ^ s)) t ≡ bit_at n t
set_other n s t apart = omega (arith, bit_at_or n (2 ^ s) t, bit_at-pow_other s t apart)

-- a row without a mark has no number
pub bare_entry : (rows columns limit : ℕ) (bytes : List ℕ) (marks : ℕ) (row column : ℕ) → AreBytesOf rows columns limit bytes marks → row < rows → column < columns → bit_and (marks / 2 ^ (row % 64)) 1 ≡ 0
    → entry_in columns (map number_in bytes) row column ≡ None
bare_entry rows columns limit bytes marks row column is inside near unmarked =
    let size = is.size in
    let here : row * columns + column < length bytes = grind (arith, mul-add-lt row columns column rows inside near, size) in
    get_or-map number_in bytes (row * columns + column) 0 None here
    ∙ ap number_in (is.bare row column inside near (sym (shr_and_one marks (row % 64)) ∙ unmarked))

-- a row whose bit is not set has no entry
pub unmarked_entry : (rows columns limit : ℕ) (bytes : List ℕ) (marks row column : ℕ) → AreBytesOf rows columns limit bytes marks → row < rows → column < columns → bit_at marks (row % 64) ≡ 0
    → entry_in columns (map number_in bytes) row column ≡ None
unmarked_entry rows columns limit bytes marks row column is inside near unmarked =
    bare_entry rows columns limit bytes marks row column is inside near (shr_and_one marks (row % 64) ∙ unmarked)

-- from the number of digits of a word on no bit is set
pub unset_above : (marks row : ℕ) → marks < 2 ^ 64 → row < 64 → 64 - count_leading_zeros 64 marks ≤ row → bit_at marks (row % 64) ≡ 0
unset_above marks row small inside above =
    let digits = leading_length 64 marks small in
    let same : row % 64 ≡ row = mod-eq_of_lt inside in
    ap (bit_at marks) same ∙ bit_at_above marks digits.0 row digits.2 (omega (arith, above, digits.1))

-- a number written, and the mark of its row
marked_by : (rows columns limit : ℕ) (bytes : List ℕ) (marks : ℕ) (row column byte at : ℕ) → AreBytesOf rows columns limit bytes marks → row < rows → column < columns → byte < limit → at ≡ row * columns + column
    → AreBytesOf rows columns limit (set bytes at byte) (bit_or marks (2 ^ (row % 64)))
marked_by rows columns limit bytes marks row column byte at is inside near small place =
    let size = is.size in
    let here : at < length bytes = grind (arith, mul-add-lt row columns column rows inside near, size, place) in
    record {
      size = length-set bytes at byte ∙ size;
      below = λ i within number. elim (cases_eq i at) [
        | inl same ↦ subst (λ b. b < limit) (sym (get_or-set_at bytes at i byte 0 same here)) small
        | inr other ↦
            let kept = get_or-set_other bytes at i byte 0 other in
            subst (λ b. b < limit) (sym kept) (is.below i (omega (arith, within, length-set bytes at byte)) (subst (λ b. b ≢ 255) kept number))
      ];
      bare = λ q c q_in c_in unmarked. elim (cases_eq (q % 64) (row % 64)) [
        | inl same ↦
            let set_there : bit_at (bit_or marks (2 ^ (row % 64))) (q % 64) ≡ 1 = ap (bit_at (bit_or marks (2 ^ (row % 64)))) same ∙ set_here marks (row % 64) in
            absurd (cc)
        | inr other ↦
            get_or-set_other bytes at (q * columns + c) byte 0 (λ e. other (ap (λ k. k % 64) (same_from_place q c row column columns c_in near (e ∙ place)).0))
            ∙ is.bare q c q_in c_in (sym (set_other marks (row % 64) (q % 64) other) ∙ unmarked)
      ];
    }

-- the same, as the code sets a bit
pub marked_set : (rows columns limit : ℕ) (bytes : List ℕ) (marks : ℕ) (row column byte at : ℕ) → AreBytesOf rows columns limit bytes marks → row < rows → column < columns → byte < limit → at ≡ row * columns + column
    → AreBytesOf rows columns limit (set bytes at byte) (bit_or marks (1 * 2 ^ (row % 64) % 2 ^ 64))
marked_set rows columns limit bytes marks row column byte at is inside near small place =
    subst (λ mark. AreBytesOf rows columns limit (set bytes at byte) (bit_or marks mark)) (sym (one_shl (row % 64) 64 (mod_below row 64 (omega arith)))) (marked_by rows columns limit bytes marks row column byte at is inside near small place)

-- ---- rows after the last marked one
-- each of their bytes is an empty entry
module _ (rows columns limit : ℕ) (bytes : List ℕ) (marks used : ℕ) (is : AreBytesOf rows columns limit bytes marks) (bare : (row : ℕ) → used ≤ row → row < rows → bit_at marks (row % 64) ≡ 0) where
  nothing_in : columns ≡ 0 → ¬ (0 < length bytes)
  nothing_in none some = let size = is.size in grind (arith, size, none, some)

  pub get_or_unused : (i : ℕ) → i < length bytes → used * columns ≤ i → get_or bytes i 0 ≡ 255
  get_or_unused i inside past = elim (cases_eq columns 0) [
    | inl none ↦ absurd (nothing_in none (omega (arith, inside)))
    | inr some ↦
        let wide : 0 < columns = omega (arith, some) in
        let size = is.size in
        let row : i / columns < rows = (div-lt_iff_lt-mul wide).1 (omega (arith, inside, size)) in
        let after : used ≤ i / columns = (le-div_iff_mul-le wide).1 past in
        sym (ap (λ k. get_or bytes k 0) (div-add-mod' i columns)) ∙ is.bare (i / columns) (i % columns) row (mod_below i columns wide) (bare (i / columns) after row)
  ]

  -- once the bytes before them are emptied, all are
  pub get_or_emptied : (new : List ℕ) (count : ℕ) → count ≡ used * columns → length new ≡ length bytes → ((i : ℕ) → i < count → get_or new i 0 ≡ 255) → ((i : ℕ) → count ≤ i → get_or new i 0 ≡ get_or bytes i 0)
      → (i : ℕ) → i < length new → get_or new i 0 ≡ 255
  get_or_emptied new count at size front others i inside = elim (cases_lt i count) [
    | inl early ↦ front i early
    | inr late ↦ others i late ∙ get_or_unused i (omega (arith, inside, size)) (omega (arith, late, at))
  ]

  -- once the bytes before them are copied from another table whose rows there are empty too, all are copied
  pub copied : (other new : List ℕ) (others_marks count : ℕ) → AreBytesOf rows columns limit other others_marks → ((i : ℕ) → i < length other → used * columns ≤ i → get_or other i 0 ≡ 255)
      → count ≡ used * columns → length new ≡ length bytes → ((i : ℕ) → i < count → get_or new i 0 ≡ get_or other i 0) → ((i : ℕ) → count ≤ i → get_or new i 0 ≡ get_or bytes i 0)
      → new ≡ other
  copied other new others_marks count there empty at size front others =
      let here_size = is.size in
      let there_size = there.size in
      ext_get_or 0 new other (omega (arith, size, here_size, there_size)) (λ i inside. elim (cases_lt i count) [
        | inl early ↦ front i early
        | inr late ↦ others i late ∙ get_or_unused i (omega (arith, inside, size)) (omega (arith, late, at)) ∙ sym (empty i (omega (arith, inside, size, here_size, there_size)) (omega (arith, late, at)))
      ])

-- bytes of empty entries are a table without a mark
pub are_empty_bytes : (rows columns limit : ℕ) (bytes : List ℕ) → length bytes ≡ rows * columns → ((i : ℕ) → i < length bytes → get_or bytes i 0 ≡ 255) → AreBytesOf rows columns limit bytes 0
are_empty_bytes rows columns limit bytes size all = record {
  size = size;
  below = λ i inside some. absurd (some (all i inside));
  bare = λ row column inside near _. all (row * columns + column) (grind (arith, mul-add-lt row columns column rows inside near, size));
}
