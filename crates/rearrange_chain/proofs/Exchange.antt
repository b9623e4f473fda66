-- What a list of moves makes of a matrix: which paths are left without the moved ones, and which are there with them in their new slots.
use Rattle.std.proofs.Common.{◌≡◌, ◌⊎◌, ℕ, zero, suc, ◌+◌, ◌<◌, Bool, Option, Some, None, List, [], ◌∷◌, arith, refl, sym, ap, subst, ◌∙◌}
use Rattle.std.proofs.lemmas.List.Sums.{sum_by-cons}
use Rattle.std.specs.Prelude.{slice_get, cond, nat_eq, ◌&&◌, count_by, if◌then◌else◌}
use Rattle.std.specs.Prelude.{All, length, ◌≢◌}
use Rattle.std.proofs.Common.{get_or}
use Rattle.std.proofs.lemmas.Option.{same_Some, slice_get-get_or, get_or_from_slice_get, slice_get_within}
use mathlib.Core.Logic.{inl, inr}
use Rattle.paull_matrix.specs.Matrix.{Matrix, row_slot, with_path, without_path, paths_of_cell, SameSizes, IsLegal}
use Rattle.paull_matrix.proofs.Laws.{row_slot-with_path_here, row_slot-with_path_other, row_slot-without_path_here, row_slot-without_path_other, here_or_other, new_or_old, row_slot_stood_before, legal_with, legal_without, no_column, cell_differs}
use Rattle.paull_matrix.specs.declared.moves.Move.{Move}
use Rattle.rearrange_chain.specs.Chain.{lifted, placed, exchanged, ChangesBy}
use Rattle.paull_matrix.specs.InTurn.{CanLift, CanPlace}

-- in a list of moves no path of a row leaves a slot; no path of a row comes to a slot
abbrev pub LeavesNone : List Move → ℕ → ℕ → Type 0
LeavesNone moves i s = (k : ℕ) (v : Move) → slice_get moves k ≡ Some v → v.row ≡ i → v.old ≡ s → ⊥

abbrev pub TakesNone : List Move → ℕ → ℕ → Type 0
TakesNone moves i s = (k : ℕ) (v : Move) → slice_get moves k ≡ Some v → v.row ≡ i → v.new ≡ s → ⊥

row_slot_none_stays : (m : Matrix) (k t i s : ℕ) → row_slot m i s ≡ None → row_slot (without_path m k t) i s ≡ None
row_slot_none_stays m k t i s none = elim (here_or_other k t i s) [
  | inl here ↦ rw (here.0, here.1) (row_slot-without_path_here m k t)
  | inr other ↦ row_slot-without_path_other m k t i s other ∙ none
]

pub row_slot-lifted_none : (moves : List Move) (m : Matrix) (i s : ℕ) → row_slot m i s ≡ None → row_slot (lifted m moves) i s ≡ None
row_slot-lifted_none [] m i s none = none
row_slot-lifted_none (v ∷ moves) m i s none = row_slot-lifted_none moves (without_path m v.row v.old) i s (row_slot_none_stays m v.row v.old i s none)

-- a path that is left without the moved ones was there before
pub row_slot_lifted_from : (moves : List Move) (m : Matrix) (i s j : ℕ) → row_slot (lifted m moves) i s ≡ Some j → row_slot m i s ≡ Some j
row_slot_lifted_from [] m i s j e = e
row_slot_lifted_from (v ∷ moves) m i s j e = row_slot_stood_before m v.row v.old i s j (row_slot_lifted_from moves (without_path m v.row v.old) i s j e)

-- a path that does not move stays
pub row_slot-lifted_keeps : (moves : List Move) (m : Matrix) (i s : ℕ) → LeavesNone moves i s → row_slot (lifted m moves) i s ≡ row_slot m i s
row_slot-lifted_keeps [] m i s none = refl
row_slot-lifted_keeps (v ∷ moves) m i s none =
    row_slot-lifted_keeps moves (without_path m v.row v.old) i s (λ k u h. none (suc k) u h)
    ∙ row_slot-without_path_other m v.row v.old i s (λ row slot. none zero v refl (sym row) (sym slot))

-- a path that moves is gone
pub row_slot-lifted_takes : (moves : List Move) (m : Matrix) (k : ℕ) (v : Move) → slice_get moves k ≡ Some v → row_slot (lifted m moves) v.row v.old ≡ None
row_slot-lifted_takes [] m k v h = absurd (cc)
row_slot-lifted_takes (u ∷ moves) m zero v h =
    let same : u ≡ v = same_Some u v h in
    row_slot-lifted_none moves (without_path m u.row u.old) v.row v.old (subst (λ (w : Move). row_slot (without_path m u.row u.old) w.row w.old ≡ None) same (row_slot-without_path_here m u.row u.old))
row_slot-lifted_takes (u ∷ moves) m (suc k) v h = row_slot-lifted_takes moves (without_path m u.row u.old) k v h

-- what no path moves to stays
pub row_slot-placed_keeps : (moves : List Move) (m : Matrix) (i s : ℕ) → TakesNone moves i s → row_slot (placed m moves) i s ≡ row_slot m i s
row_slot-placed_keeps [] m i s none = refl
row_slot-placed_keeps (v ∷ moves) m i s none =
    row_slot-placed_keeps moves (with_path m v.row v.column v.new) i s (λ k u h. none (suc k) u h)
    ∙ row_slot-with_path_other m v.row v.column v.new i s (λ row slot. none zero v refl (sym row) (sym slot))

-- a path is where it was moved to, or where it was
pub placed_from : (moves : List Move) (m : Matrix) (i s j : ℕ) → row_slot (placed m moves) i s ≡ Some j
    → (row_slot m i s ≡ Some j) ⊎ ((k : ℕ) × (v : Move) × (slice_get moves k ≡ Some v) × (v.row ≡ i) × (v.new ≡ s) × (v.column ≡ j))
placed_from [] m i s j e = inl e
placed_from (v ∷ moves) m i s j e = elim (placed_from moves (with_path m v.row v.column v.new) i s j e) [
  | inl before ↦ elim (new_or_old m v.row v.column v.new i s j before) [
    | inl new ↦ inr (zero, v, refl, sym new.0, sym new.1, sym new.2)
    | inr old ↦ inl old
  ]
  | inr later ↦ inr (suc later.0, later.1, later.2, later.3, later.4, later.5)
]

-- Moves that make one exchange: each path exists and gets another slot, no two leave one row's slot or take one row's or one column's, and where the row or the
-- column of a path has another in the slot that it takes, that other moves too
pub record IsExchange (m : Matrix) (moves : List Move) : Type 0 where
  pub stands : (k : ℕ) (v : Move) → slice_get moves k ≡ Some v → row_slot m v.row v.old ≡ Some v.column
  pub turns : (k : ℕ) (v : Move) → slice_get moves k ≡ Some v → v.old ≢ v.new
  pub within : (k : ℕ) (v : Move) → slice_get moves k ≡ Some v → v.new < m.slots
  pub leave_once : (k n : ℕ) (u v : Move) → slice_get moves k ≡ Some u → slice_get moves n ≡ Some v → u.row ≡ v.row → u.old ≡ v.old → k ≡ n
  pub take_once : (k n : ℕ) (u v : Move) → slice_get moves k ≡ Some u → slice_get moves n ≡ Some v → u.row ≡ v.row → u.new ≡ v.new → k ≡ n
  pub columns_once : (k n : ℕ) (u v : Move) → slice_get moves k ≡ Some u → slice_get moves n ≡ Some v → u.column ≡ v.column → u.new ≡ v.new → k ≡ n
  pub row_moves : (k : ℕ) (v : Move) (j : ℕ) → slice_get moves k ≡ Some v → row_slot m v.row v.new ≡ Some j → (n : ℕ) × (u : Move) × (slice_get moves n ≡ Some u) × (u.row ≡ v.row) × (u.old ≡ v.new)
  pub column_moves : (k : ℕ) (v : Move) (i : ℕ) → slice_get moves k ≡ Some v → row_slot m i v.new ≡ Some v.column → (n : ℕ) × (u : Move) × (slice_get moves n ≡ Some u) × (u.row ≡ i) × (u.old ≡ v.new)

-- paths that exist, no two in one row's slot, can be lifted one after the other
can_lift : (moves : List Move) (m : Matrix)
    → ((k : ℕ) (v : Move) → slice_get moves k ≡ Some v → row_slot m v.row v.old ≡ Some v.column)
    → ((k n : ℕ) (u v : Move) → slice_get moves k ≡ Some u → slice_get moves n ≡ Some v → u.row ≡ v.row → u.old ≡ v.old → k ≡ n)
    → CanLift m moves
can_lift [] m stands once = tt
can_lift (v ∷ moves) m stands once = (
  stands zero v refl,
  can_lift moves (without_path m v.row v.old)
      (λ k u h. row_slot-without_path_other m v.row v.old u.row u.old (λ row slot. let same = once (suc k) zero u v h refl row slot in absurd (omega arith)) ∙ stands (suc k) u h)
      (λ k n u w g h row slot. let same = once (suc k) (suc n) u w g h row slot in omega arith),
)

-- paths can be placed one after the other where each slot is free and no two take one
can_place : (moves : List Move) (m : Matrix)
    → ((k : ℕ) (v : Move) → slice_get moves k ≡ Some v → (v.row < m.lines) × (v.column < m.lines) × (v.new < m.slots))
    → ((k n : ℕ) (u v : Move) → slice_get moves k ≡ Some u → slice_get moves n ≡ Some v → u.row ≡ v.row → u.new ≡ v.new → k ≡ n)
    → ((k n : ℕ) (u v : Move) → slice_get moves k ≡ Some u → slice_get moves n ≡ Some v → u.column ≡ v.column → u.new ≡ v.new → k ≡ n)
    → ((k : ℕ) (v : Move) → slice_get moves k ≡ Some v → row_slot m v.row v.new ≡ None)
    → ((k : ℕ) (v : Move) (i : ℕ) → slice_get moves k ≡ Some v → row_slot m i v.new ≡ Some v.column → ⊥)
    → CanPlace m moves
can_place [] m within rows columns row_free column_free = tt
can_place (v ∷ moves) m within rows columns row_free column_free = (
  record {
    row = (within zero v refl).0;
    column = (within zero v refl).1;
    slot = (within zero v refl).2;
    row_free = row_free zero v refl;
    column_free = no_column m v.column v.new (λ i h. column_free zero v i refl h);
  },
  can_place moves (with_path m v.row v.column v.new) (λ k u h. within (suc k) u h)
      (λ k n u w g h row slot. let same = rows (suc k) (suc n) u w g h row slot in omega arith)
      (λ k n u w g h column slot. let same = columns (suc k) (suc n) u w g h column slot in omega arith)
      (λ k u h. row_slot-with_path_other m v.row v.column v.new u.row u.new (λ row slot. let same = rows (suc k) zero u v h refl row slot in absurd (omega arith)) ∙ row_free (suc k) u h)
      (λ k u i h e. elim (new_or_old m v.row v.column v.new i u.new u.column e) [
        | inl new ↦ let same = columns (suc k) zero u v h refl new.2 new.1 in absurd (omega arith)
        | inr old ↦ column_free (suc k) u i h old
      ]),
)

pub lifted_lines : (moves : List Move) (m : Matrix) → ((lifted m moves).lines ≡ m.lines) × ((lifted m moves).slots ≡ m.slots)
lifted_lines [] m = (refl, refl)
lifted_lines (v ∷ moves) m = lifted_lines moves (without_path m v.row v.old)

pub placed_lines : (moves : List Move) (m : Matrix) → ((placed m moves).lines ≡ m.lines) × ((placed m moves).slots ≡ m.slots)
placed_lines [] m = (refl, refl)
placed_lines (v ∷ moves) m = placed_lines moves (with_path m v.row v.column v.new)

pub exchange_lifts : (m : Matrix) (moves : List Move) → IsExchange m moves → CanLift m moves
exchange_lifts m moves is = can_lift moves m is.stands is.leave_once

-- once the moved paths are lifted, each has room where it goes
pub exchange_places : (m : Matrix) (moves : List Move) → IsLegal m → IsExchange m moves → CanPlace (lifted m moves) moves
exchange_places m moves legal is = can_place moves (lifted m moves) within is.take_once is.columns_once row_free column_free
  where
    sizes : ((lifted m moves).lines ≡ m.lines) × ((lifted m moves).slots ≡ m.slots)
    sizes = lifted_lines moves m

    within : (k : ℕ) (v : Move) → slice_get moves k ≡ Some v → (v.row < (lifted m moves).lines) × (v.column < (lifted m moves).lines) × (v.new < (lifted m moves).slots)
    within k v h = let stands = is.stands k v h in rw (sizes.0, sizes.1) (legal.row_within v.row v.old v.column stands, legal.column_within v.row v.old v.column stands, is.within k v h)

    free_at : (k : ℕ) (v : Move) → slice_get moves k ≡ Some v → (o : Option ℕ) → row_slot (lifted m moves) v.row v.new ≡ o → o ≡ None
    free_at k v h None e = refl
    free_at k v h (Some j) e =
        let other = is.row_moves k v j h (row_slot_lifted_from moves m v.row v.new j e) in
        let gone = row_slot-lifted_takes moves m other.0 other.1 other.2 in
        sym e ∙ ap (λ s. row_slot (lifted m moves) v.row s) (sym other.4) ∙ ap (λ i. row_slot (lifted m moves) i other.1.old) (sym other.3) ∙ gone

    row_free : (k : ℕ) (v : Move) → slice_get moves k ≡ Some v → row_slot (lifted m moves) v.row v.new ≡ None
    row_free k v h = free_at k v h (row_slot (lifted m moves) v.row v.new) refl

    column_free : (k : ℕ) (v : Move) (i : ℕ) → slice_get moves k ≡ Some v → row_slot (lifted m moves) i v.new ≡ Some v.column → ⊥
    column_free k v i h e =
        let other = is.column_moves k v i h (row_slot_lifted_from moves m i v.new v.column e) in
        let gone = row_slot-lifted_takes moves m other.0 other.1 other.2 in
        let none : row_slot (lifted m moves) i v.new ≡ None = ap (λ s. row_slot (lifted m moves) i s) (sym other.4) ∙ ap (λ k'. row_slot (lifted m moves) k' other.1.old) (sym other.3) ∙ gone in
        cc

-- The matrices differ by the moves
row_slot-placed_has : (moves : List Move) (m : Matrix)
    → ((k n : ℕ) (u v : Move) → slice_get moves k ≡ Some u → slice_get moves n ≡ Some v → u.row ≡ v.row → u.new ≡ v.new → k ≡ n)
    → (k : ℕ) (v : Move) → slice_get moves k ≡ Some v → row_slot (placed m moves) v.row v.new ≡ Some v.column
row_slot-placed_has [] m once k v h = absurd (cc)
row_slot-placed_has (u ∷ moves) m once zero v h =
    let same : u ≡ v = same_Some u v h in
    subst (λ (w : Move). row_slot (placed (with_path m u.row u.column u.new) moves) w.row w.new ≡ Some w.column) same
    (row_slot-placed_keeps moves (with_path m u.row u.column u.new) u.row u.new (λ k w g row slot. let one = once (suc k) zero w u g refl row slot in absurd (omega arith))
    ∙ row_slot-with_path_here m u.row u.column u.new)
row_slot-placed_has (u ∷ moves) m once (suc k) v h =
    row_slot-placed_has moves (with_path m u.row u.column u.new) (λ k n w x g e row slot. let one = once (suc k) (suc n) w x g e row slot in omega arith) k v h

all_from_get : {X : Type 0} (P : X → Type 0) (xs : List X) → ((k : ℕ) (x : X) → slice_get xs k ≡ Some x → P x) → All P xs
all_from_get P xs each k d below = each k (get_or xs k d) (slice_get-get_or xs k d below)

get_from_all : {X : Type 0} (P : X → Type 0) (xs : List X) → All P xs → (k : ℕ) (x : X) → slice_get xs k ≡ Some x → P x
get_from_all P xs all k x h = subst P (get_or_from_slice_get xs k x x h) (all k x (slice_get_within xs k x h))

pub exchange_changes : (m : Matrix) (moves : List Move) → IsExchange m moves → ChangesBy m (exchanged m moves) moves
exchange_changes m moves is = record {
  once = λ k n d less below both.
      let early : k < length moves = omega arith in
      let same = is.leave_once k n (get_or moves k d) (get_or moves n d) (slice_get-get_or moves k d early) (slice_get-get_or moves n d below) both.0 both.1 in
      omega arith;
  turned = all_from_get (λ (v : Move). v.old ≢ v.new) moves is.turns;
  stood = all_from_get (λ (v : Move). row_slot m v.row v.old ≡ Some v.column) moves is.stands;
  stands = all_from_get (λ (v : Move). row_slot (exchanged m moves) v.row v.new ≡ Some v.column) moves (row_slot-placed_has moves (lifted m moves) is.take_once);
  kept = λ i s j none e.
      let leaves = get_from_all (λ (v : Move). ¬ ((v.row ≡ i) × (v.old ≡ s))) moves none in
      row_slot-placed_keeps moves (lifted m moves) i s (λ k v h row slot.
      let at : row_slot m v.row v.new ≡ Some j = ap (λ x. row_slot m x v.new) row ∙ ap (λ x. row_slot m i x) slot ∙ e in
      let other = is.row_moves k v j h at in
      leaves other.0 other.1 other.2 (other.3 ∙ row, other.4 ∙ slot))
      ∙ row_slot-lifted_keeps moves m i s (λ k v h row slot. leaves k v h (row, slot)) ∙ e;
  none_else = λ i s j none e. elim (placed_from moves (lifted m moves) i s j e) [
    | inl before ↦ row_slot_lifted_from moves m i s j before
    | inr moved ↦ absurd (get_from_all (λ (v : Move). ¬ ((v.row ≡ i) × (v.new ≡ s))) moves none moved.0 moved.1 moved.2 (moved.3, moved.4))
  ];
}

-- How many moves are of paths of a cell
abbrev pub is_of_cell : ℕ → ℕ → Move → Bool
is_of_cell i j v = nat_eq v.row i && nat_eq v.column j

-- lifting takes as many paths out of a cell
lifted_cells : (moves : List Move) (m : Matrix) (i j : ℕ) → IsLegal m → CanLift m moves → paths_of_cell m i j ≡ paths_of_cell (lifted m moves) i j + count_by (is_of_cell i j) moves
lifted_cells [] m i j legal can = omega arith
lifted_cells (v ∷ moves) m i j legal can =
    let one = cell_differs m (without_path m v.row v.old) v.row v.old v.column refl (legal.slot_within v.row v.old v.column can.0) can.0 (row_slot-without_path_here m v.row v.old) (λ k t other. row_slot-without_path_other m v.row v.old k t other) i j in
    let rest = lifted_cells moves (without_path m v.row v.old) i j (legal_without m v.row v.old legal) can.1 in
    let counted : count_by (is_of_cell i j) (v ∷ moves) ≡ (if nat_eq v.row i && nat_eq v.column j then 1 else 0) + count_by (is_of_cell i j) moves = sum_by-cons (λ u. cond (is_of_cell i j u) 1 0) v moves in
    let all : paths_of_cell (lifted m (v ∷ moves)) i j ≡ paths_of_cell (lifted (without_path m v.row v.old) moves) i j = refl in
    omega arith

-- and placing puts as many in
placed_cells : (moves : List Move) (m : Matrix) (i j : ℕ) → CanPlace m moves → paths_of_cell (placed m moves) i j ≡ paths_of_cell m i j + count_by (is_of_cell i j) moves
placed_cells [] m i j can = omega arith
placed_cells (v ∷ moves) m i j can =
    let one = cell_differs (with_path m v.row v.column v.new) m v.row v.new v.column refl can.0.slot (row_slot-with_path_here m v.row v.column v.new) can.0.row_free
    (λ k t other. sym (row_slot-with_path_other m v.row v.column v.new k t other)) i j in
    let rest = placed_cells moves (with_path m v.row v.column v.new) i j can.1 in
    let counted : count_by (is_of_cell i j) (v ∷ moves) ≡ (if nat_eq v.row i && nat_eq v.column j then 1 else 0) + count_by (is_of_cell i j) moves = sum_by-cons (λ u. cond (is_of_cell i j u) 1 0) v moves in
    let all : paths_of_cell (placed m (v ∷ moves)) i j ≡ paths_of_cell (placed (with_path m v.row v.column v.new) moves) i j = refl in
    omega arith

-- so an exchange leaves each cell as many paths as it had
pub exchange_cells : (m : Matrix) (moves : List Move) → IsLegal m → IsExchange m moves → (i j : ℕ) → paths_of_cell (exchanged m moves) i j ≡ paths_of_cell m i j
exchange_cells m moves legal is i j =
    let out = lifted_cells moves m i j legal (exchange_lifts m moves is) in
    let back = placed_cells moves (lifted m moves) i j (exchange_places m moves legal is) in
    omega arith

lifted_legal : (moves : List Move) (m : Matrix) → IsLegal m → IsLegal (lifted m moves)
lifted_legal [] m legal = legal
lifted_legal (v ∷ moves) m legal = lifted_legal moves (without_path m v.row v.old) (legal_without m v.row v.old legal)

placed_legal : (moves : List Move) (m : Matrix) → IsLegal m → CanPlace m moves → IsLegal (placed m moves)
placed_legal [] m legal can = legal
placed_legal (v ∷ moves) m legal can = placed_legal moves (with_path m v.row v.column v.new)
    (legal_with m v.row v.column v.new legal can.0.row can.0.column can.0.slot can.0.column_free) can.1

-- an exchange leaves a legal matrix of the same sizes
pub exchange_legal : (m : Matrix) (moves : List Move) → IsLegal m → IsExchange m moves → IsLegal (exchanged m moves)
exchange_legal m moves legal is = placed_legal moves (lifted m moves) (lifted_legal moves m legal) (exchange_places m moves legal is)

pub exchange_sizes : (m : Matrix) (moves : List Move) → SameSizes m (exchanged m moves)
exchange_sizes m moves = let out = lifted_lines moves m in let back = placed_lines moves (lifted m moves) in (back.0 ∙ out.0, back.1 ∙ out.1)
