-- A layout beside its matrix: a slot is free in the one where it is free in the other.
use Rattle.std.proofs.Common.{◌≡◌, ℕ, ◌&&◌, Bool, cond, Option, Some, None, List, [], ◌∷◌, refl, ◌∙◌, ap}
use Rattle.std.specs.Prelude.{is_none, option_map, find}
use Rattle.std.specs.List.{range_with_len}
use Rattle.control_memory.specs.Layout.{Path, Layout, Legal, path_in, path_out}
use Rattle.control_memory.specs.Connecting.{common_slot, is_unsent, is_unreceived}
use Rattle.paull_matrix.specs.Matrix.{Matrix, is_free_in_row, is_free_in_column, lowest_in_both, IsLegal}
use Rattle.path_memory.specs.Matching.{IsMatrixOf}
use Rattle.path_memory.proofs.MatrixOfLayout.{column_matches}

-- what both hold, side by side
pub record Beside (lines slots : ℕ) (m : Matrix) (layout : Layout) : Type 0 where
  pub legal_matrix : IsLegal m
  pub legal : Legal lines slots layout
  pub is : IsMatrixOf m layout

-- ---- free slots are the same on both sides
mapped_is_none : (o : Option Path) (f : Path → ℕ) → is_none (option_map f o) ≡ is_none o
mapped_is_none None f = refl
mapped_is_none (Some p) f = refl

pub is_free_in_row_unsent : (m : Matrix) (layout : Layout) → IsMatrixOf m layout → (i s : ℕ) → is_free_in_row m i s ≡ is_unsent layout i s
is_free_in_row_unsent m layout is i s = ap is_none (is i s) ∙ mapped_is_none (path_in layout i s) (λ p. p.to.line)

pub is_free_in_column_unreceived : (lines slots : ℕ) (m : Matrix) (layout : Layout) → Beside lines slots m layout → (j s : ℕ) → is_free_in_column m j s ≡ is_unreceived layout j s
is_free_in_column_unreceived lines slots m layout b j s = ap is_none (column_matches lines slots m layout b.legal_matrix b.legal b.is j s) ∙ mapped_is_none (path_out layout j s) (λ p. p.from.line)

-- the same test finds the same
pub find_same : (p q : ℕ → Bool) → ((k : ℕ) → p k ≡ q k) → (xs : List ℕ) → find p xs ≡ find q xs
find_same p q same [] = refl
find_same p q same (x ∷ xs) = ap (λ b. cond b (Some x) (find p xs)) (same x) ∙ ap (cond (q x) (Some x)) (find_same p q same xs)

pub lowest_in_both_common : (lines slots : ℕ) (m : Matrix) (layout : Layout) → m.slots ≡ slots → Beside lines slots m layout → (i j : ℕ) → lowest_in_both m i j ≡ common_slot slots layout i j
lowest_in_both_common lines slots m layout of b i j =
    find_same (λ s. is_free_in_row m i s && is_free_in_column m j s) (λ s. is_unsent layout i s && is_unreceived layout j s)
    (λ s. ap (λ x. x && is_free_in_column m j s) (is_free_in_row_unsent m layout b.is i s) ∙ ap (λ x. is_unsent layout i s && x) (is_free_in_column_unreceived lines slots m layout b j s)) (range_with_len 0 m.slots)
    ∙ ap (λ n. find (λ s. is_unsent layout i s && is_unreceived layout j s) (range_with_len 0 n)) of
