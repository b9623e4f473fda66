-- The rule chooses the same slots on the matrix as on the layout, and the moves determine the paths that are taken.
use Rattle.std.proofs.Common.{◌≡◌, ℕ, Some, None, List, [], ◌∷◌, refl, sym, ◌∙◌, ap}
use Rattle.std.specs.Prelude.{find, unwrap_or}
use Rattle.std.specs.List.{range_with_len}
use Rattle.control_memory.specs.Layout.{Layout}
use Rattle.control_memory.specs.Connecting.{without_path, first_unsent, first_unreceived, is_unsent, is_unreceived}
use Rattle.paull_matrix.specs.Matrix.{Matrix, is_free_in_row, is_free_in_column}
use Rattle.paull_matrix.specs.declared.moves.Move.{Move}
use Rattle.rearrange_chain.specs.Chain.{slot_a, slot_b}
use Rattle.control_memory.specs.declared.path_ends.PathEnds.{PathEnds}
use Rattle.fabric_map.specs.Rearranging.{AreTaken, taken_by}
use Rattle.control_memory.specs.Paths.{ends_of}
use Rattle.path_memory.proofs.CommonSlot.{Beside, is_free_in_row_unsent, is_free_in_column_unreceived, find_same}

pub unsent_slot : (lines slots : ℕ) (m : Matrix) (layout : Layout) → m.slots ≡ slots → Beside lines slots m layout → (i : ℕ) → slot_a m i ≡ first_unsent slots layout i
unsent_slot lines slots m layout of b i =
    ap (λ o. unwrap_or o 0) (find_same (is_free_in_row m i) (is_unsent layout i) (is_free_in_row_unsent m layout b.is i) (range_with_len 0 m.slots) ∙ ap (λ n. find (is_unsent layout i) (range_with_len 0 n)) of)

pub unreceived_slot : (lines slots : ℕ) (m : Matrix) (layout : Layout) → m.slots ≡ slots → Beside lines slots m layout → (j : ℕ) → slot_b m j ≡ first_unreceived slots layout j
unreceived_slot lines slots m layout of b j =
    ap (λ o. unwrap_or o 0) (find_same (is_free_in_column m j) (is_unreceived layout j) (is_free_in_column_unreceived lines slots m layout b j) (range_with_len 0 m.slots) ∙ ap (λ n. find (is_unreceived layout j) (range_with_len 0 n)) of)

-- ---- what is taken is determined
pub taken_is : (moves : List Move) (layout : Layout) (es : List PathEnds) → AreTaken layout moves es → es ≡ taken_by layout moves
taken_is [] layout [] taken = refl
taken_is [] layout (e ∷ es) taken = absurd taken
taken_is (v ∷ moves) layout [] taken = absurd taken
taken_is (v ∷ moves) layout (e ∷ es) taken =
    let p = taken.0.0 in
    let here : e ≡ ends_of p = sym taken.0.2 in
    let rest = taken_is moves (without_path layout e.from) es taken.1 in
    (λ i. here i ∷ (rest ∙ ap (λ (x : PathEnds). taken_by (without_path layout x.from) moves) here) i)
    ∙ sym (ap (λ o. elim o as (λ _. List PathEnds) [ None ↦ [] | Some q ↦ ends_of q ∷ taken_by (without_path layout q.from) moves ]) taken.0.1)
