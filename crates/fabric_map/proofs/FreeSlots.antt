-- A line with a free place has a free internal slot, where there are as many slots as places.
use Rattle.std.proofs.Common.{◌≡◌, ℕ, ◌<◌, Option, Some, None, refl, sym, ◌∙◌, subst}
use Rattle.circuit_model.specs.declared.channel.Slot.{Slot}
use Rattle.control_memory.specs.Layout.{Layout, hop_of, path_in, path_out, path_to, place_sent, IsSlot, Legal}
use Rattle.paull_matrix.specs.Matrix.{Matrix, is_free_in_row, is_free_in_column, paths_of_row, paths_of_column, lowest_in_row, lowest_in_column, IsLegal}
use Rattle.paull_matrix.proofs.Numbers.{lowest_none}
use Rattle.paull_matrix.proofs.Laws.{row_has_room, column_has_room, lowest_in_row_is, lowest_in_column_is}
use Rattle.path_memory.specs.Matching.{IsMatrixOf}
use Rattle.path_memory.proofs.CommonSlot.{Beside, is_free_in_row_unsent, is_free_in_column_unreceived}
use Rattle.path_memory.proofs.Places.{one_is_left, place_received, has_place, occupies_row, occupies_column}

pub row_room : (lines : ℕ) (m : Matrix) (layout : Layout) (from : Slot) → m.slots ≡ 30 → Legal lines 30 layout → IsMatrixOf m layout → IsSlot lines from → hop_of layout from ≡ None → paths_of_row m from.line < m.slots
row_room lines m layout from thirty legal is inside free =
    by_lowest (lowest_in_row m from.line) refl
  where
    by_lowest : (o : Option ℕ) → lowest_in_row m from.line ≡ o → paths_of_row m from.line < m.slots
    by_lowest (Some s) e = let l = lowest_in_row_is m from.line s e in row_has_room m from.line s l.1 l.0
    by_lowest None e =
        absurd (one_is_left 29 from.place (place_sent layout from.line) (occupies_row lines 30 layout from legal inside free)
        (λ s l. has_place (path_in layout from.line s) (λ p. p.from.place) (sym (is_free_in_row_unsent m layout is from.line s) ∙ lowest_none (is_free_in_row m from.line) m.slots s e (subst (λ n. s < n) (sym thirty) l))))

pub column_room : (lines : ℕ) (m : Matrix) (layout : Layout) (to : Slot) → IsLegal m → m.slots ≡ 30 → Legal lines 30 layout → IsMatrixOf m layout → IsSlot lines to → path_to layout to ≡ None → paths_of_column m to.line < m.slots
column_room lines m layout to legal_m thirty legal is inside free =
    by_lowest (lowest_in_column m to.line) refl
  where
    beside : Beside lines 30 m layout
    beside = record { legal_matrix = legal_m; legal = legal; is = is }

    by_lowest : (o : Option ℕ) → lowest_in_column m to.line ≡ o → paths_of_column m to.line < m.slots
    by_lowest (Some s) e = let l = lowest_in_column_is m to.line s e in column_has_room m to.line s l.1 l.0
    by_lowest None e =
        absurd (one_is_left 29 to.place (place_received layout to.line) (occupies_column lines 30 layout to legal inside free)
        (λ s l. has_place (path_out layout to.line s) (λ p. p.to.place) (sym (is_free_in_column_unreceived lines 30 m layout beside to.line s) ∙ lowest_none (is_free_in_column m to.line) m.slots s e (subst (λ n. s < n) (sym thirty) l))))
