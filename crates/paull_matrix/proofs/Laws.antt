-- What a matrix has after a path more and a path less.
use Rattle.std.proofs.Common.{◌≡◌, ◌⊎◌, ℕ, ◌<◌, ◌≤◌, eq-eqb, true, false, Option, Some, None, arith, refl, sym, ap, subst, ◌∙◌}
use Rattle.std.specs.Prelude.{nat_eq, is_none, is_some, ◌&&◌, ◌+◌, if◌then◌else◌}
use Rattle.std.specs.Cmp.{IsTotalOrder, nat_cmp_total, tied_itself, Equal-is}
use Rattle.std.proofs.lemmas.Option.{same_Some}
use Rattle.std.proofs.lemmas.Map.Views.{exact_unsigned_eq}
use mathlib.Core.Logic.{inl, inr}
use Rattle.std.specs.Ordering.{eq_by_cmp, is_eq, nat_cmp}
use Rattle.std.specs.FinMap.{get-empty, get-insert, get-remove, IsAntisymmetric}
use Rattle.std.proofs.lemmas.Cmp.{on_total, then_total}
use Rattle.std.proofs.lemmas.Map.Lookups.{exact_pairs, exact_unsigned}
use Rattle.std.proofs.lemmas.Bool.{cases_eq}
use Rattle.paull_matrix.specs.Numbers.{lowest}
use Rattle.paull_matrix.specs.Matrix.{by_row_and_slot, Matrix, row_slot, column_slot, names, has_path, no_paths, with_path, without_path, is_free_in_row, is_free_in_column, lowest_in_row, lowest_in_column, lowest_in_both, paths_of_row, paths_of_column, paths_of_cell, IsLegal}
use Rattle.paull_matrix.proofs.Bools.{false_unless, both_true}
use Rattle.paull_matrix.proofs.Numbers.{lowest_passes, lowest_only, lowest_of_none, count_full, count_more, count_same, count_short}

pub places_total : IsTotalOrder by_row_and_slot
places_total = then_total (on_total (λ (p : ℕ × ℕ). p.0) nat_cmp_total) (on_total (λ (p : ℕ × ℕ). p.1) nat_cmp_total)

pub places_exact : IsAntisymmetric by_row_and_slot
places_exact p q e = exact_pairs nat_cmp nat_cmp exact_unsigned exact_unsigned p q e

-- a row and a slot tie with themselves alone
pub tied_here : (p : ℕ × ℕ) → eq_by_cmp by_row_and_slot p p ≡ true
tied_here p = ap is_eq (tied_itself places_total p)

pub tied_apart : (i s k t : ℕ) → (k ≡ i → t ≡ s → ⊥) → eq_by_cmp by_row_and_slot (k, t) (i, s) ≡ false
tied_apart i s k t apart = false_unless _ (λ tied.
    let same = places_exact (k, t) (i, s) ((Equal-is (by_row_and_slot (k, t) (i, s))).0 tied) in
    apart (ap (λ (p : ℕ × ℕ). p.0) same) (ap (λ (p : ℕ × ℕ). p.1) same))

-- what a name says
pub names_some : (o : Option ℕ) (j : ℕ) → names o j ≡ true → o ≡ Some j
names_some None j e = absurd (cc)
names_some (Some k) j e = ap Some (exact_unsigned_eq k j e)

pub names_it : (o : Option ℕ) (j : ℕ) → o ≡ Some j → names o j ≡ true
names_it None j e = absurd (cc)
names_it (Some k) j e = eq-eqb k j (same_Some k j e)

-- a column has in a slot the row that has the column there
pub row_of_column : (m : Matrix) (i s j : ℕ) → column_slot m j s ≡ Some i → row_slot m i s ≡ Some j
row_of_column m i s j e = names_some (row_slot m i s) j (lowest_passes (λ k. has_path m k j s) m.lines i e).0

pub row_inside : (m : Matrix) (i s j : ℕ) → column_slot m j s ≡ Some i → i < m.lines
row_inside m i s j e = (lowest_passes (λ k. has_path m k j s) m.lines i e).1

pub column_of_row : (m : Matrix) (i s j : ℕ) → IsLegal m → row_slot m i s ≡ Some j → column_slot m j s ≡ Some i
column_of_row m i s j legal e =
    lowest_only (λ k. has_path m k j s) m.lines i (names_it (row_slot m i s) j e) (legal.row_within i s j e)
    (λ k t. legal.column_once k i s j (names_some (row_slot m k s) j t) e)

-- where a column lacks a slot, no row has the column there
pub no_row : (m : Matrix) (i s j : ℕ) → IsLegal m → column_slot m j s ≡ None → row_slot m i s ≡ Some j → ⊥
no_row m i s j legal none e = let f = column_of_row m i s j legal e in cc

pub no_column : (m : Matrix) (j s : ℕ) → ((i : ℕ) → row_slot m i s ≡ Some j → ⊥) → column_slot m j s ≡ None
no_column m j s none = lowest_of_none (λ k. has_path m k j s) m.lines (λ k below t. none k (names_some (row_slot m k s) j t))

-- the row and the slot of a new path, and the others
pub row_slot-with_path_here : (m : Matrix) (i j s : ℕ) → row_slot (with_path m i j s) i s ≡ Some j
row_slot-with_path_here m i j s = get-insert places_total m.columns (i, s) j (i, s) ∙ rw (tied_here (i, s)) refl

pub row_slot-with_path_other : (m : Matrix) (i j s k t : ℕ) → (k ≡ i → t ≡ s → ⊥) → row_slot (with_path m i j s) k t ≡ row_slot m k t
row_slot-with_path_other m i j s k t apart = get-insert places_total m.columns (i, s) j (k, t) ∙ rw (tied_apart i s k t apart) refl

pub row_slot-without_path_here : (m : Matrix) (i s : ℕ) → row_slot (without_path m i s) i s ≡ None
row_slot-without_path_here m i s = get-remove places_total m.columns (i, s) (i, s) ∙ rw (tied_here (i, s)) refl

pub row_slot-without_path_other : (m : Matrix) (i s k t : ℕ) → (k ≡ i → t ≡ s → ⊥) → row_slot (without_path m i s) k t ≡ row_slot m k t
row_slot-without_path_other m i s k t apart = get-remove places_total m.columns (i, s) (k, t) ∙ rw (tied_apart i s k t apart) refl

-- a place is the one or another
pub here_or_other : (i s k t : ℕ) → ((k ≡ i) × (t ≡ s)) ⊎ (k ≡ i → t ≡ s → ⊥)
here_or_other i s k t = elim (cases_eq k i) [
  | inl row ↦ elim (cases_eq t s) [ inl slot ↦ inl (row, slot) | inr other ↦ inr (λ _ slot. other slot) ]
  | inr other ↦ inr (λ row _. other row)
]

-- a path of the new matrix is the new one or one of the old
pub new_or_old : (m : Matrix) (i j s k t l : ℕ) → row_slot (with_path m i j s) k t ≡ Some l → ((k ≡ i) × (t ≡ s) × (l ≡ j)) ⊎ (row_slot m k t ≡ Some l)
new_or_old m i j s k t l e = elim (here_or_other i s k t) [
  | inl here ↦ inl (here.0, here.1, same_Some l j (sym e ∙ rw (here.0, here.1) (row_slot-with_path_here m i j s)))
  | inr other ↦ inr (sym (row_slot-with_path_other m i j s k t other) ∙ e)
]

pub row_slot_stood_before : (m : Matrix) (i s k t l : ℕ) → row_slot (without_path m i s) k t ≡ Some l → row_slot m k t ≡ Some l
row_slot_stood_before m i s k t l e = elim (here_or_other i s k t) [
  | inl here ↦ let lifted : row_slot (without_path m i s) k t ≡ None = rw (here.0, here.1) (row_slot-without_path_here m i s) in absurd (cc)
  | inr other ↦ sym (row_slot-without_path_other m i s k t other) ∙ e
]

pub legal_without : (m : Matrix) (i s : ℕ) → IsLegal m → IsLegal (without_path m i s)
legal_without m i s legal = record {
  column_once = λ k l t j e f. legal.column_once k l t j (row_slot_stood_before m i s k t j e) (row_slot_stood_before m i s l t j f);
  row_within = λ k t j e. legal.row_within k t j (row_slot_stood_before m i s k t j e);
  column_within = λ k t j e. legal.column_within k t j (row_slot_stood_before m i s k t j e);
  slot_within = λ k t j e. legal.slot_within k t j (row_slot_stood_before m i s k t j e);
  lines_within = legal.lines_within;
  slots_within = legal.slots_within;
}

pub legal_with : (m : Matrix) (i j s : ℕ) → IsLegal m → i < m.lines → j < m.lines → s < m.slots → column_slot m j s ≡ None → IsLegal (with_path m i j s)
legal_with m i j s legal row column slot missing = record {
  column_once = λ k l t c e f. elim (new_or_old m i j s k t c e) [
    | inl new ↦ elim (new_or_old m i j s l t c f) [
      | inl also ↦ new.0 ∙ sym also.0
      | inr old ↦ absurd (no_row m l s j legal missing (rw (new.1, new.2) at old))
    ]
    | inr old ↦ elim (new_or_old m i j s l t c f) [
      | inl new ↦ absurd (no_row m k s j legal missing (rw (new.1, new.2) at old))
      | inr also ↦ legal.column_once k l t c old also
    ]
  ];
  row_within = λ k t c e. elim (new_or_old m i j s k t c e) [ inl new ↦ omega arith | inr old ↦ legal.row_within k t c old ];
  column_within = λ k t c e. elim (new_or_old m i j s k t c e) [ inl new ↦ omega arith | inr old ↦ legal.column_within k t c old ];
  slot_within = λ k t c e. elim (new_or_old m i j s k t c e) [ inl new ↦ omega arith | inr old ↦ legal.slot_within k t c old ];
  lines_within = legal.lines_within;
  slots_within = legal.slots_within;
}

pub legal_empty : (lines slots : ℕ) → (0 < lines) × (lines ≤ 34) → (0 < slots) × (slots ≤ 59) → IsLegal (no_paths lines slots)
legal_empty lines slots few_lines few_slots = record {
  column_once = λ i k s j e f. absurd (nothing i s j e);
  row_within = λ i s j e. absurd (nothing i s j e);
  column_within = λ i s j e. absurd (nothing i s j e);
  slot_within = λ i s j e. absurd (nothing i s j e);
  lines_within = few_lines;
  slots_within = few_slots;
}
  where
    nothing : (i s j : ℕ) → row_slot (no_paths lines slots) i s ≡ Some j → ⊥
    nothing i s j e = let none : row_slot (no_paths lines slots) i s ≡ None = get-empty by_row_and_slot (i, s) in cc

some_unless_none : (o : Option ℕ) → is_none o ≡ false → is_some o ≡ true
some_unless_none None e = absurd (cc)
some_unless_none (Some k) e = refl

-- a row with fewer paths than slots lacks one, and so does a column
pub row_lacks_one : (m : Matrix) (i n : ℕ) → n ≡ m.slots → paths_of_row m i < m.slots → lowest (is_free_in_row m i) n ≡ None → ⊥
row_lacks_one m i n all room none =
    let here : lowest (is_free_in_row m i) m.slots ≡ None = subst (λ k. lowest (is_free_in_row m i) k ≡ None) all none in
    let full = count_full (λ s. is_some (row_slot m i s)) (is_free_in_row m i) m.slots (λ s. some_unless_none (row_slot m i s)) here in
    omega arith

pub column_lacks_one : (m : Matrix) (j n : ℕ) → n ≡ m.slots → paths_of_column m j < m.slots → lowest (is_free_in_column m j) n ≡ None → ⊥
column_lacks_one m j n all room none =
    let here : lowest (is_free_in_column m j) m.slots ≡ None = subst (λ k. lowest (is_free_in_column m j) k ≡ None) all none in
    let full = count_full (λ s. is_some (column_slot m j s)) (is_free_in_column m j) m.slots (λ s. some_unless_none (column_slot m j s)) here in
    omega arith

-- how the paths of a cell differ between two matrices that differ in one path
pub cell_differs : (m n : Matrix) (r s c : ℕ) → n.slots ≡ m.slots → s < m.slots → row_slot m r s ≡ Some c → row_slot n r s ≡ None
    → ((k t : ℕ) → (k ≡ r → t ≡ s → ⊥) → row_slot n k t ≡ row_slot m k t)
    → (i j : ℕ) → paths_of_cell m i j ≡ paths_of_cell n i j + (if nat_eq r i && nat_eq c j then 1 else 0)
cell_differs m n r s c sizes inside stands gone same i j = elim (here_or_other r c i j) [
  | inl here ↦
      let at : row_slot m i s ≡ Some j = rw (here.0, here.1) stands in
      let off : row_slot n i s ≡ None = rw here.0 gone in
      let one : (nat_eq r i && nat_eq c j) ≡ true = rw (eq-eqb r i (sym here.0), eq-eqb c j (sym here.1)) refl in
      rw (one, sizes) (count_more (has_path n i j) (has_path m i j) m.slots s inside (rw off refl) (names_it (row_slot m i s) j at)
      (λ t other. ap (λ o. names o j) (same i t (λ _ slot. other slot))))
  | inr away ↦
      rw (neither away, sizes) (count_same (has_path m i j) (has_path n i j) m.slots (λ t _. alike away t) ∙ omega arith)
]
  where
    neither : (i ≡ r → j ≡ c → ⊥) → (nat_eq r i && nat_eq c j) ≡ false
    neither away = false_unless _ (λ both. let parts = both_true (nat_eq r i) (nat_eq c j) both in away (sym (exact_unsigned_eq r i parts.0)) (sym (exact_unsigned_eq c j parts.1)))

    alike : (i ≡ r → j ≡ c → ⊥) → (t : ℕ) → has_path m i j t ≡ has_path n i j t
    alike away t = elim (here_or_other r s i t) [
      | inl here ↦
          let at : row_slot m i t ≡ Some c = rw (here.0, here.1) stands in
          let off : row_slot n i t ≡ None = rw (here.0, here.1) gone in
          rw (at, off) (false_unless (nat_eq c j) (λ one. away here.0 (sym (exact_unsigned_eq c j one))))
      | inr other ↦ ap (λ o. names o j) (sym (same i t other))
    ]

-- a row or a column that lacks a slot has fewer paths than there are slots
pub row_has_room : (m : Matrix) (i s : ℕ) → s < m.slots → row_slot m i s ≡ None → paths_of_row m i < m.slots
row_has_room m i s inside none = count_short (λ t. is_some (row_slot m i t)) m.slots s inside (rw none refl)

pub column_has_room : (m : Matrix) (j s : ℕ) → s < m.slots → column_slot m j s ≡ None → paths_of_column m j < m.slots
column_has_room m j s inside none = count_short (λ t. is_some (column_slot m j t)) m.slots s inside (ap is_some none)

-- two matrices whose rows have a column in a slot alike have one row of that column there
same_column : (m n : Matrix) (l t : ℕ) → IsLegal m → IsLegal n → ((k : ℕ) → row_slot m k t ≡ Some l → row_slot n k t ≡ Some l) → ((k : ℕ) → row_slot n k t ≡ Some l → row_slot m k t ≡ Some l) → column_slot m l t ≡ column_slot n l t
same_column m n l t one other there back = found (column_slot n l t) refl
  where
    found : (o : Option ℕ) → column_slot n l t ≡ o → column_slot m l t ≡ o
    found (Some k) e = column_of_row m k t l one (back k (row_of_column n k t l e))
    found None e = no_column m l t (λ k f. no_row n k t l other e (there k f))

-- the column and the slot of a new path, and the others
pub column_with_here : (m : Matrix) (i j s : ℕ) → IsLegal (with_path m i j s) → column_slot (with_path m i j s) j s ≡ Some i
column_with_here m i j s legal = column_of_row (with_path m i j s) i s j legal (row_slot-with_path_here m i j s)

pub column_with_other : (m : Matrix) (i j s l t : ℕ) → IsLegal m → IsLegal (with_path m i j s) → row_slot m i s ≡ None → (l ≡ j → t ≡ s → ⊥) → column_slot (with_path m i j s) l t ≡ column_slot m l t
column_with_other m i j s l t before after missing apart = same_column (with_path m i j s) m l t after before there back
  where
    there : (k : ℕ) → row_slot (with_path m i j s) k t ≡ Some l → row_slot m k t ≡ Some l
    there k e = elim (new_or_old m i j s k t l e) [ inl new ↦ absurd (apart new.2 new.1) | inr old ↦ old ]

    back : (k : ℕ) → row_slot m k t ≡ Some l → row_slot (with_path m i j s) k t ≡ Some l
    back k e = elim (here_or_other i s k t) [
      | inl here ↦ let at : row_slot m i s ≡ Some l = rw (here.0, here.1) at e in absurd (cc)
      | inr other ↦ row_slot-with_path_other m i j s k t other ∙ e
    ]

pub column_without_here : (m : Matrix) (i j s : ℕ) → IsLegal m → row_slot m i s ≡ Some j → column_slot (without_path m i s) j s ≡ None
column_without_here m i j s legal stands = no_column (without_path m i s) j s none
  where
    none : (k : ℕ) → row_slot (without_path m i s) k s ≡ Some j → ⊥
    none k e =
        let same = legal.column_once k i s j (row_slot_stood_before m i s k s j e) stands in
        let lifted : row_slot (without_path m i s) k s ≡ None = rw same (row_slot-without_path_here m i s) in
        cc

pub column_without_other : (m : Matrix) (i j s l t : ℕ) → IsLegal m → row_slot m i s ≡ Some j → (l ≡ j → t ≡ s → ⊥) → column_slot (without_path m i s) l t ≡ column_slot m l t
column_without_other m i j s l t legal stands apart = same_column (without_path m i s) m l t (legal_without m i s legal) legal (λ k. row_slot_stood_before m i s k t l) back
  where
    back : (k : ℕ) → row_slot m k t ≡ Some l → row_slot (without_path m i s) k t ≡ Some l
    back k e = elim (here_or_other i s k t) [
      | inl here ↦
          let at : row_slot m i s ≡ Some l = rw (here.0, here.1) at e in
          let same : Some l ≡ Some j = sym at ∙ stands in
          absurd (apart (same_Some l j same) here.1)
      | inr other ↦ row_slot-without_path_other m i s k t other ∙ e
    ]

-- ---- the lowest free slots are free
is_none_of : (o : Option ℕ) → is_none o ≡ true → o ≡ None
is_none_of None e = refl
is_none_of (Some k) e = absurd (cc)

pub lowest_in_row_is : (m : Matrix) (i a : ℕ) → lowest_in_row m i ≡ Some a → (row_slot m i a ≡ None) × (a < m.slots)
lowest_in_row_is m i a e = let is = lowest_passes (is_free_in_row m i) m.slots a e in (is_none_of (row_slot m i a) is.0, is.1)

pub lowest_in_column_is : (m : Matrix) (j b : ℕ) → lowest_in_column m j ≡ Some b → (column_slot m j b ≡ None) × (b < m.slots)
lowest_in_column_is m j b e = let is = lowest_passes (is_free_in_column m j) m.slots b e in (is_none_of (column_slot m j b) is.0, is.1)

pub lowest_in_both_is : (m : Matrix) (i j s : ℕ) → lowest_in_both m i j ≡ Some s → (row_slot m i s ≡ None) × (column_slot m j s ≡ None) × (s < m.slots)
lowest_in_both_is m i j s e =
    let is = lowest_passes (λ t. is_free_in_row m i t && is_free_in_column m j t) m.slots s e in
    let both = both_true (is_free_in_row m i s) (is_free_in_column m j s) is.0 in
    (is_none_of (row_slot m i s) both.0, is_none_of (column_slot m j s) both.1, is.1)
