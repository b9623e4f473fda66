-- A matrix that is kept as a table of columns by row and slot, with a table of rows and the words of used slots.
use Rattle.std.proofs.Common.{◌≡◌, ◌⊎◌, ℕ, zero, suc, ◌+◌, ◌*◌, ◌<◌, ◌≤◌, Option, Some, None, List, length, get_or, set, replicate, arith, refl, sym, ap, subst, ◌∙◌, inl, inr, length-set, get_or-set_same, get_or-set_other}
use Rattle.std.specs.FinMap.{FinMap, get, get-empty, get-insert, same_map}
use Rattle.std.proofs.lemmas.Bool.{cases_lt, cases_eq}
use Rattle.std.proofs.lemmas.Nat.{same_from_place, mul-add-lt}
use Rattle.std.proofs.lemmas.List.{get_or-replicate, length-replicate}
use Rattle.paull_matrix.specs.Matrix.{Matrix, by_row_and_slot, row_slot, column_slot, no_paths, with_path, without_path, lowest_in_row, lowest_in_column, IsLegal}
use Rattle.paull_matrix.specs.Numbers.{lowest}
use Rattle.paull_matrix.specs.Marks.{marked, unmarked, lacks, IsMarked}
use Rattle.paull_matrix.specs.Tabled.{held, with_held, with_row, rows_below, tabled, IsKept}
use Rattle.paull_matrix.proofs.Marks.{marks_taken, marks_left, marks_none, word_lowest}
use Rattle.paull_matrix.proofs.Laws.{places_total, places_exact, tied_here, tied_apart, no_column, legal_with, legal_without, legal_empty, here_or_other, row_slot-with_path_here, row_slot-with_path_other, row_slot-without_path_here, row_slot-without_path_other, column_with_here, column_with_other, column_without_here, column_without_other}

-- what a place holds is in the map there, and the others stay
held_here : (m : FinMap by_row_and_slot ℕ) (i s : ℕ) (o : Option ℕ) → get m (i, s) ≡ None → get (with_held m i s o) (i, s) ≡ o
held_here m i s None none = none
held_here m i s (Some j) none = get-insert places_total m (i, s) j (i, s) ∙ rw (tied_here (i, s)) refl

held_other : (m : FinMap by_row_and_slot ℕ) (i s k t : ℕ) (o : Option ℕ) → (k ≡ i → t ≡ s → ⊥) → get (with_held m i s o) (k, t) ≡ get m (k, t)
held_other m i s k t None apart = refl
held_other m i s k t (Some j) apart = get-insert places_total m (i, s) j (k, t) ∙ rw (tied_apart i s k t apart) refl

-- a row's slots change nothing elsewhere, and have what the table has
row_other : (table : List (Option ℕ)) (slots i n : ℕ) (m : FinMap by_row_and_slot ℕ) (k t : ℕ) → (k ≡ i → t < n → ⊥) → get (with_row table slots i n m) (k, t) ≡ get m (k, t)
unfolding with_row
row_other table slots i zero m k t apart = refl
row_other table slots i (suc n) m k t apart =
    held_other (with_row table slots i n m) i n k t (held table slots i n) (λ row slot. apart row (omega arith))
    ∙ row_other table slots i n m k t (λ row below. apart row (omega arith))

row_here : (table : List (Option ℕ)) (slots i n : ℕ) (m : FinMap by_row_and_slot ℕ) (t : ℕ) → t < n → get m (i, t) ≡ None → get (with_row table slots i n m) (i, t) ≡ held table slots i t
unfolding with_row
row_here table slots i zero m t below none = absurd (omega arith)
row_here table slots i (suc n) m t below none = elim (cases_eq t n) [
  | inl last ↦ rw last (held_here (with_row table slots i n m) i n (held table slots i n)
      (row_other table slots i n m i n (λ _ less. omega arith) ∙ rw last at none))
  | inr other ↦
      held_other (with_row table slots i n m) i n i t (held table slots i n) (λ _ slot. other slot)
      ∙ row_here table slots i n m t (omega arith) none
]

-- the rows below a bound have what the table has, and nothing else
below_beyond : (table : List (Option ℕ)) (slots n k t : ℕ) → (k < n → t < slots → ⊥) → get (rows_below table slots n) (k, t) ≡ None
unfolding rows_below
below_beyond table slots zero k t beyond = get-empty by_row_and_slot (k, t)
below_beyond table slots (suc n) k t beyond =
    row_other table slots n slots (rows_below table slots n) k t (λ row slot. beyond (omega arith) slot)
    ∙ below_beyond table slots n k t (λ row slot. beyond (omega arith) slot)

below_here : (table : List (Option ℕ)) (slots n k t : ℕ) → k < n → t < slots → get (rows_below table slots n) (k, t) ≡ held table slots k t
unfolding rows_below
below_here table slots zero k t row slot = absurd (omega arith)
below_here table slots (suc n) k t row slot = elim (cases_eq k n) [
  | inl last ↦ rw last (row_here table slots n slots (rows_below table slots n) t slot (below_beyond table slots n n t (λ less _. omega arith)))
  | inr other ↦
      row_other table slots n slots (rows_below table slots n) k t (λ same _. other same)
      ∙ below_here table slots n k t (omega arith) slot
]

-- what the matrix of a table has at a row and a slot: nothing beyond its sizes
pub row_slot_tabled : (lines slots : ℕ) (table : List (Option ℕ)) (i s : ℕ) → i < lines → s < slots → row_slot (tabled lines slots table) i s ≡ held table slots i s
row_slot_tabled lines slots table i s row slot = below_here table slots lines i s row slot

beyond_tabled : (lines slots : ℕ) (table : List (Option ℕ)) (i s : ℕ) → (i < lines → s < slots → ⊥) → row_slot (tabled lines slots table) i s ≡ None
beyond_tabled lines slots table i s beyond = below_beyond table slots lines i s beyond

-- a place is within the bounds or beyond them
within_or_beyond : (lines slots i s : ℕ) → ((i < lines) × (s < slots)) ⊎ (i < lines → s < slots → ⊥)
within_or_beyond lines slots i s = elim (cases_lt i lines) [
  | inl row ↦ elim (cases_lt s slots) [ inl slot ↦ inl (row, slot) | inr more ↦ inr (λ _ less. omega arith) ]
  | inr more ↦ inr (λ less _. omega arith)
]

-- the place of a line and a slot is one of the table
pub place_within : (table : List (Option ℕ)) (lines slots i s n : ℕ) → length table ≡ lines * slots → i < lines → s < slots → n ≡ i * slots + s → n < length table
place_within table lines slots i s n places row slot at = let inside = mul-add-lt i slots s lines row slot in omega arith

-- a place that is written, and the others
pub held_written_here : (table : List (Option ℕ)) (lines slots i s : ℕ) (o : Option ℕ) → length table ≡ lines * slots → i < lines → s < slots → held (set table (i * slots + s) o) slots i s ≡ o
held_written_here table lines slots i s o places row slot =
    let inside = mul-add-lt i slots s lines row slot in
    get_or-set_same table (i * slots + s) o None (omega arith)

pub held_written_other : (table : List (Option ℕ)) (slots i s k t : ℕ) (o : Option ℕ) → s < slots → t < slots → (k ≡ i → t ≡ s → ⊥) → held (set table (i * slots + s) o) slots k t ≡ held table slots k t
held_written_other table slots i s k t o slot below apart =
    get_or-set_other table (i * slots + s) (k * slots + t) o None
    (λ same. let parts = same_from_place k t i s slots below slot same in apart parts.0 parts.1)

other_tabled : (lines slots : ℕ) (table : List (Option ℕ)) (i s k t : ℕ) (o : Option ℕ) → s < slots → (k ≡ i → t ≡ s → ⊥) → row_slot (tabled lines slots (set table (i * slots + s) o)) k t ≡ row_slot (tabled lines slots table) k t
other_tabled lines slots table i s k t o slot apart = elim (within_or_beyond lines slots k t) [
  | inl within ↦
      row_slot_tabled lines slots (set table (i * slots + s) o) k t within.0 within.1
      ∙ held_written_other table slots i s k t o slot within.1 apart
      ∙ sym (row_slot_tabled lines slots table k t within.0 within.1)
  | inr beyond ↦ beyond_tabled lines slots (set table (i * slots + s) o) k t beyond ∙ sym (beyond_tabled lines slots table k t beyond)
]

-- a table is a matrix of the same sizes that has the same paths
same_matrix : (lines slots : ℕ) (table : List (Option ℕ)) (m : FinMap by_row_and_slot ℕ) → ((k t : ℕ) → row_slot (tabled lines slots table) k t ≡ get m (k, t)) → tabled lines slots table ≡ record { lines = lines; slots = slots; columns = m }
same_matrix lines slots table m each =
    ap (λ (columns : FinMap by_row_and_slot ℕ). record { lines = lines; slots = slots; columns = columns })
    (same_map places_total places_exact (rows_below table slots lines) m (λ q. each q.0 q.1))

tabled_written : (lines slots : ℕ) (table : List (Option ℕ)) (i s : ℕ) (o : Option ℕ) (m : FinMap by_row_and_slot ℕ) → length table ≡ lines * slots → i < lines → s < slots
    → get m (i, s) ≡ o
    → ((k t : ℕ) → (k ≡ i → t ≡ s → ⊥) → get m (k, t) ≡ row_slot (tabled lines slots table) k t)
    → tabled lines slots (set table (i * slots + s) o) ≡ record { lines = lines; slots = slots; columns = m }
tabled_written lines slots table i s o m places row slot written others = same_matrix lines slots (set table (i * slots + s) o) m each
  where
    each : (k t : ℕ) → row_slot (tabled lines slots (set table (i * slots + s) o)) k t ≡ get m (k, t)
    each k t = elim (here_or_other i s k t) [
      | inl here ↦ rw (here.0, here.1) (row_slot_tabled lines slots (set table (i * slots + s) o) i s row slot ∙ held_written_here table lines slots i s o places row slot ∙ sym written)
      | inr other ↦ other_tabled lines slots table i s k t o slot other ∙ sym (others k t other)
    ]

-- a path more, and a path less
pub tabled_place : (lines slots : ℕ) (table : List (Option ℕ)) (i j s : ℕ) → length table ≡ lines * slots → i < lines → s < slots → tabled lines slots (set table (i * slots + s) (Some j)) ≡ with_path (tabled lines slots table) i j s
tabled_place lines slots table i j s places row slot =
    let m = tabled lines slots table in
    tabled_written lines slots table i s (Some j) (with_path m i j s).columns places row slot (row_slot-with_path_here m i j s) (row_slot-with_path_other m i j s)

pub tabled_lift : (lines slots : ℕ) (table : List (Option ℕ)) (i s : ℕ) → length table ≡ lines * slots → i < lines → s < slots → tabled lines slots (set table (i * slots + s) None) ≡ without_path (tabled lines slots table) i s
tabled_lift lines slots table i s places row slot =
    let m = tabled lines slots table in
    tabled_written lines slots table i s None (without_path m i s).columns places row slot (row_slot-without_path_here m i s) (row_slot-without_path_other m i s)

-- a table that has what each line has, after one place is written
held_indexed_after : (lines slots : ℕ) (rows : List (Option ℕ)) (before after : ℕ → ℕ → Option ℕ) (j s : ℕ) (o : Option ℕ) → length rows ≡ lines * slots
    → ((l t : ℕ) → l < lines → t < slots → held rows slots l t ≡ before l t)
    → j < lines → s < slots → after j s ≡ o
    → ((l t : ℕ) → (l ≡ j → t ≡ s → ⊥) → after l t ≡ before l t)
    → (l t : ℕ) → l < lines → t < slots → held (set rows (j * slots + s) o) slots l t ≡ after l t
held_indexed_after lines slots rows before after j s o places indexed column slot here others l t below within = elim (here_or_other j s l t) [
  | inl one ↦ rw (one.0, one.1) (held_written_here rows lines slots j s o places column slot ∙ sym here)
  | inr other ↦ held_written_other rows slots j s l t o slot within other ∙ indexed l t below within ∙ sym (others l t other)
]

-- what holds of the tables and the words holds with a path more
pub kept_place : (lines slots : ℕ) (columns rows : List (Option ℕ)) (row_words column_words : List ℕ) (i j s : ℕ) → IsKept lines slots columns rows row_words column_words → i < lines → j < lines → s < slots → row_slot (tabled lines slots columns) i s ≡ None → column_slot (tabled lines slots columns) j s ≡ None → IsKept lines slots (set columns (i * slots + s) (Some j)) (set rows (j * slots + s) (Some i)) (marked row_words i s) (marked column_words j s)
kept_place lines slots columns rows row_words column_words i j s kept row column slot row_none column_none =
    let m = tabled lines slots columns in
    let same = sym (tabled_place lines slots columns i j s kept.row_places row slot) in
    let legal = legal_with m i j s kept.legal row column slot column_none in
    let here = column_with_here m i j s legal in
    let others : (l t : ℕ) → (l ≡ j → t ≡ s → ⊥) → column_slot (with_path m i j s) l t ≡ column_slot m l t = λ l t other. column_with_other m i j s l t kept.legal legal row_none other in
    record {
      legal = subst IsLegal same legal;
      row_places = length-set columns _ _ ∙ kept.row_places;
      column_places = length-set rows _ _ ∙ kept.column_places;
      indexed = subst (λ n. (l t : ℕ) → l < lines → t < slots → held (set rows (j * slots + s) (Some i)) slots l t ≡ column_slot n l t) same
          (held_indexed_after lines slots rows (column_slot m) (column_slot (with_path m i j s)) j s (Some i) kept.column_places kept.indexed column slot here others);
      row_marks = subst (λ n. IsMarked lines slots (marked row_words i s) (row_slot n)) same
          (marks_taken lines slots row_words (row_slot m) (row_slot (with_path m i j s)) i s j kept.row_marks row (row_slot-with_path_here m i j s) (row_slot-with_path_other m i j s));
      column_marks = subst (λ n. IsMarked lines slots (marked column_words j s) (column_slot n)) same
          (marks_taken lines slots column_words (column_slot m) (column_slot (with_path m i j s)) j s i kept.column_marks column here others);
    }

-- and with a path less
pub kept_lift : (lines slots : ℕ) (columns rows : List (Option ℕ)) (row_words column_words : List ℕ) (i j s : ℕ) → IsKept lines slots columns rows row_words column_words → row_slot (tabled lines slots columns) i s ≡ Some j → IsKept lines slots (set columns (i * slots + s) None) (set rows (j * slots + s) None) (unmarked row_words i s) (unmarked column_words j s)
kept_lift lines slots columns rows row_words column_words i j s kept stands =
    let m = tabled lines slots columns in
    let row = kept.legal.row_within i s j stands in
    let column = kept.legal.column_within i s j stands in
    let slot = kept.legal.slot_within i s j stands in
    let few = kept.legal.slots_within.1 in
    let same = sym (tabled_lift lines slots columns i s kept.row_places row slot) in
    let here = column_without_here m i j s kept.legal stands in
    let others : (l t : ℕ) → (l ≡ j → t ≡ s → ⊥) → column_slot (without_path m i s) l t ≡ column_slot m l t = λ l t other. column_without_other m i j s l t kept.legal stands other in
    record {
      legal = subst IsLegal same (legal_without m i s kept.legal);
      row_places = length-set columns _ _ ∙ kept.row_places;
      column_places = length-set rows _ _ ∙ kept.column_places;
      indexed = subst (λ n. (l t : ℕ) → l < lines → t < slots → held (set rows (j * slots + s) None) slots l t ≡ column_slot n l t) same
          (held_indexed_after lines slots rows (column_slot m) (column_slot (without_path m i s)) j s None kept.column_places kept.indexed column slot here others);
      row_marks = subst (λ n. IsMarked lines slots (unmarked row_words i s) (row_slot n)) same
          (marks_left lines slots row_words (row_slot m) (row_slot (without_path m i s)) i s kept.row_marks row slot few (row_slot-without_path_here m i s) (row_slot-without_path_other m i s));
      column_marks = subst (λ n. IsMarked lines slots (unmarked column_words j s) (column_slot n)) same
          (marks_left lines slots column_words (column_slot m) (column_slot (without_path m i s)) j s kept.column_marks column slot few here others);
    }

-- tables without a path
empty_held : (lines slots i s : ℕ) → i < lines → s < slots → held (replicate (lines * slots) None) slots i s ≡ None
empty_held lines slots i s row slot = get_or-replicate (lines * slots) (i * slots + s) None None (omega (arith, mul-add-lt i slots s lines row slot))

pub tabled_empty : (lines slots : ℕ) → tabled lines slots (replicate (lines * slots) None) ≡ no_paths lines slots
tabled_empty lines slots = same_matrix lines slots (replicate (lines * slots) None) (no_paths lines slots).columns each
  where
    each : (k t : ℕ) → row_slot (tabled lines slots (replicate (lines * slots) None)) k t ≡ row_slot (no_paths lines slots) k t
    each k t = elim (within_or_beyond lines slots k t) [
      | inl within ↦ row_slot_tabled lines slots _ k t within.0 within.1 ∙ empty_held lines slots k t within.0 within.1 ∙ sym (get-empty by_row_and_slot (k, t))
      | inr beyond ↦ beyond_tabled lines slots _ k t beyond ∙ sym (get-empty by_row_and_slot (k, t))
    ]

no_row_slot : (lines slots i s : ℕ) → row_slot (no_paths lines slots) i s ≡ None
no_row_slot lines slots i s = get-empty by_row_and_slot (i, s)

no_column_slot : (lines slots j s : ℕ) → column_slot (no_paths lines slots) j s ≡ None
no_column_slot lines slots j s = no_column (no_paths lines slots) j s (λ i stands. let none = no_row_slot lines slots i s in cc)

pub kept_empty : (lines slots : ℕ) → (0 < lines) × (lines ≤ 34) → (0 < slots) × (slots ≤ 59) → IsKept lines slots (replicate (lines * slots) None) (replicate (lines * slots) None) (replicate lines 0) (replicate lines 0)
kept_empty lines slots few_lines few_slots =
    let same = sym (tabled_empty lines slots) in
    record {
      legal = subst IsLegal same (legal_empty lines slots few_lines few_slots);
      row_places = length-replicate (lines * slots) None;
      column_places = length-replicate (lines * slots) None;
      indexed = λ j s column slot. empty_held lines slots j s column slot ∙ sym (no_column_slot lines slots j s) ∙ ap (λ n. column_slot n j s) same;
      row_marks = subst (λ n. IsMarked lines slots (replicate lines 0) (row_slot n)) same (marks_none lines slots (row_slot (no_paths lines slots)) (no_row_slot lines slots));
      column_marks = subst (λ n. IsMarked lines slots (replicate lines 0) (column_slot n)) same (marks_none lines slots (column_slot (no_paths lines slots)) (no_column_slot lines slots));
    }

-- the lowest slot that the word of a row lacks, and the lowest that a column's lacks
pub row_word_lowest : (lines slots : ℕ) (columns rows : List (Option ℕ)) (row_words column_words : List ℕ) (m : Matrix) (i n word : ℕ) → IsKept lines slots columns rows row_words column_words → tabled lines slots columns ≡ m → i < m.lines → n ≡ i → word ≡ get_or row_words n word → lowest_in_row m i ≡ lowest (lacks word) slots
row_word_lowest lines slots columns rows row_words column_words m i n word kept same row at read =
    ap (λ o. lowest_in_row o i) (sym same)
    ∙ sym (word_lowest lines slots row_words (row_slot (tabled lines slots columns)) i n word kept.row_marks (subst (λ o. i < o.lines) (sym same) row) at read)

pub column_word_lowest : (lines slots : ℕ) (columns rows : List (Option ℕ)) (row_words column_words : List ℕ) (m : Matrix) (j n word : ℕ) → IsKept lines slots columns rows row_words column_words → tabled lines slots columns ≡ m → j < m.lines → n ≡ j → word ≡ get_or column_words n word → lowest_in_column m j ≡ lowest (lacks word) slots
column_word_lowest lines slots columns rows row_words column_words m j n word kept same column at read =
    ap (λ o. lowest_in_column o j) (sym same)
    ∙ sym (word_lowest lines slots column_words (column_slot (tabled lines slots columns)) j n word kept.column_marks (subst (λ o. j < o.lines) (sym same) column) at read)
