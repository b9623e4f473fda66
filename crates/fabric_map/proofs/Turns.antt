-- What a turn of the loops over moves needs of its move.
use Rattle.std.proofs.Common.{ℕ, zero, suc, ◌<◌, List, [], ◌∷◌, length, get_or, drop, arith}
use Rattle.control_memory.specs.Layout.{Layout, Legal}
use Rattle.paull_matrix.specs.declared.moves.Move.{Move}
use Rattle.control_memory.specs.declared.path_ends.PathEnds.{PathEnds}
use Rattle.fabric_map.specs.Rearranging.{AreTaken, CanLay}
use Rattle.control_memory.proofs.TablesAfter.{line_inside, slot_inside}

pub lay_slot : (lines slots : ℕ) (layout : Layout) (i : ℕ) (es : List PathEnds) (moves : List Move) (d : Move) → i < length es → i < length moves → CanLay lines slots layout (drop i es) (drop i moves) → (get_or moves i d).new < slots
lay_slot lines slots layout i [] moves d l m can = absurd (omega (arith, l))
lay_slot lines slots layout i (e ∷ es) [] d l m can = absurd (omega (arith, m))
lay_slot lines slots layout zero (e ∷ es) (v ∷ moves) d l m can = can.0.slot
lay_slot lines slots layout (suc i) (e ∷ es) (v ∷ moves) d l m can = lay_slot lines slots layout i es moves d (omega (arith, l)) (omega (arith, m)) can

pub lift_entry : (lines slots : ℕ) (layout : Layout) (i : ℕ) (moves : List Move) (es : List PathEnds) (d : Move) → Legal lines slots layout → i < length moves → AreTaken layout (drop i moves) es → ((get_or moves i d).row < lines) × ((get_or moves i d).old < slots)
lift_entry lines slots layout i [] es d legal m taken = absurd (omega (arith, m))
lift_entry lines slots layout zero (v ∷ moves) [] d legal m taken = absurd taken
lift_entry lines slots layout zero (v ∷ moves) (e ∷ es) d legal m taken =
    (line_inside lines slots layout v.row v.old legal (taken.0.0, taken.0.1), slot_inside lines slots layout v.row v.old legal (taken.0.0, taken.0.1))
lift_entry lines slots layout (suc i) (v ∷ moves) es d legal m taken = lift_entry lines slots layout i moves es d legal (omega (arith, m)) taken
