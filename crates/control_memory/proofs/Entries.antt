-- Entries of a table that is kept row after row.
use Rattle.std.proofs.Common.{◌≡◌, ℕ, zero, suc, ◌+◌, ◌*◌, ◌<◌, ◌&&◌, ◌==◌, eqb, List, map, length, replicate, get_or, set, get_or-set_other, Option, None, Some, if◌then◌else◌, refl, ap, ◌∙◌, sym, mul_comm, arith, inl, inr}
use Rattle.std.proofs.lemmas.Bool.{cases_eq, eq-eqb, ne_eqb, and_from, and_left, and_right, cond-true, cond-false}
use Rattle.std.proofs.lemmas.List.{length-map, map-set}
use Rattle.std.proofs.lemmas.Grind.{get_or-set_at}
use Rattle.std.proofs.lemmas.Nat.{same_from_place, mul-add-lt}
use Rattle.control_memory.specs.Tables.{Table, HasSize, Agree, nothing, entry, number_in, written, entry_in}

-- a table that is filled with the byte of a missing entry has none
filled : (n i : ℕ) → get_or (map number_in (replicate n 255)) i None ≡ None
filled zero i = refl
filled (suc n) zero = refl
filled (suc n) (suc i) = filled n i

pub get_or-map_no_entries : (bytes : List ℕ) (n i : ℕ) → bytes ≡ replicate n 255 → get_or (map number_in bytes) i None ≡ None
get_or-map_no_entries bytes n i all = rw all (filled n i)

-- one write changes one entry
pub get_or-set_entry : {X : Type 0} (xs : List X) (rows width row column r c : ℕ) (x d : X) → length xs ≡ rows * width → row < rows → column < width → c < width
    → get_or (set xs (row * width + column) x) (r * width + c) d ≡ (if (r == row) && (c == column) then x else get_or xs (r * width + c) d)
get_or-set_entry xs rows width row column r c x d size inside near at = elim (cases_eq r row) [
  | inl same_row ↦ elim (cases_eq c column) [
    | inl same_column ↦
        let here : row * width + column < length xs = grind (arith, mul-add-lt row width column rows inside near, mul_comm rows width) in
        get_or-set_at xs (row * width + column) (r * width + c) x d (ap (λ i. i * width + c) same_row ∙ ap (λ i. row * width + i) same_column) here
        ∙ sym (cond-true _ x _ (and_from _ _ (eq-eqb r row same_row) (eq-eqb c column same_column)))
    | inr other ↦
        get_or-set_other xs _ _ x d (λ e. other (same_from_place r c row column width at near e).1)
        ∙ sym (cond-false _ x _ (and_right (eqb r row) (eqb c column) (ne_eqb c column other)))
  ]
  | inr other ↦
      get_or-set_other xs _ _ x d (λ e. other (same_from_place r c row column width at near e).0)
      ∙ sym (cond-false _ x _ (and_left (eqb r row) (eqb c column) (ne_eqb r row other)))
]

-- one byte written changes one entry of a table
pub entry_in_byte_set : (bytes : List ℕ) (rows columns row column byte r c : ℕ) (value : Option ℕ) → length bytes ≡ rows * columns → row < rows → column < columns → c < columns → number_in byte ≡ value
    → entry_in columns (map number_in (set bytes (row * columns + column) byte)) r c ≡ written row column value (entry_in columns (map number_in bytes)) r c
entry_in_byte_set bytes rows columns row column byte r c value size inside near at is =
    ap (λ (ys : List (Option ℕ)). get_or ys (r * columns + c) None) (map-set number_in bytes (row * columns + column) byte)
    ∙ rw is (get_or-set_entry (map number_in bytes) rows columns row column r c value None (length-map bytes number_in ∙ size) inside near at)

pub number_in-below : (byte limit : ℕ) → byte < limit → limit < 256 → number_in byte ≡ Some byte
number_in-below byte limit below small = cond-false (eqb byte 255) None (Some byte) (ne_eqb byte 255 (omega arith))

-- a table without numbers has none in rows of its width
pub Agree_none : (t : Table) (rows columns limit : ℕ) → HasSize t rows columns limit → Agree rows columns (entry t) nothing → Agree rows columns (entry_in columns t.entries) nothing
Agree_none t rows columns limit size empty row column inside near = ap (λ w. entry_in w t.entries row column) (sym size.columns) ∙ empty row column inside near
