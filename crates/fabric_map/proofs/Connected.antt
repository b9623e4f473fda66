-- A connection for which paths move, step by step.
use Rattle.std.proofs.Common.{◌≡◌, ℕ, ◌<◌, None, List, sym, ◌∙◌, ap, subst}
use Rattle.circuit_model.specs.declared.channel.Slot.{Slot}
use Rattle.control_memory.specs.Layout.{Layout, hop_of, path_to, IsSlot, Joins, Legal}
use Rattle.control_memory.specs.Connecting.{IsFree}
use Rattle.control_memory.proofs.Lookups.{path_to_is}
use Rattle.paull_matrix.specs.Matrix.{Matrix, row_slot, column_slot, paths_of_row, paths_of_column}
use Rattle.paull_matrix.specs.declared.moves.Move.{Move}
use Rattle.rearrange_chain.specs.Chain.{slot_for, moves_for, exchanged}
use Rattle.control_memory.specs.declared.path_ends.PathEnds.{PathEnds}
use Rattle.control_memory.specs.Paths.{Fabric}
use Rattle.path_memory.specs.Memory.{IsPathMemory, CanConnect}
use Rattle.path_memory.proofs.MatrixOfLayout.{free_by_matrix}
use Rattle.path_memory.proofs.CommonSlot.{Beside}
use Rattle.path_memory.proofs.Kept.{beside_of, can_of}
use Rattle.fabric_map.specs.Rearranging.{without_all, taken_by, laid, CanLay}
use Rattle.fabric_map.proofs.Rearranged.{no_hop}
use Rattle.fabric_map.proofs.FreeSlots.{row_room, column_room}
use Rattle.fabric_map.proofs.RuleOnTheMap.{Made, made}

legal_thirty : (m : Matrix) (f : Fabric) → IsPathMemory m f → f.slots ≡ 30 → Legal f.lines 30 f.layout
legal_thirty m f kept thirty = subst (λ n. Legal f.lines n f.layout) thirty kept.legal

pub has_row_room : (m : Matrix) (f : Fabric) (from to : Slot) → IsPathMemory m f → f.slots ≡ 30 → CanConnect f from to → paths_of_row m from.line < m.slots
has_row_room m f from to kept thirty can = row_room f.lines m f.layout from (kept.slots ∙ thirty) (legal_thirty m f kept thirty) kept.is can.from_inside can.inlet

pub has_column_room : (m : Matrix) (f : Fabric) (from to : Slot) → IsPathMemory m f → f.slots ≡ 30 → CanConnect f from to → paths_of_column m to.line < m.slots
has_column_room m f from to kept thirty can = column_room f.lines m f.layout to kept.legal_matrix (kept.slots ∙ thirty) (legal_thirty m f kept thirty) kept.is can.to_inside can.outlet

pub Made_connected : (m : Matrix) (f : Fabric) (from to : Slot) → IsPathMemory m f → f.slots ≡ 30 → CanConnect f from to → Made f.lines f.slots m f.layout from to (moves_for m from.line to.line) (slot_for m from.line to.line)
Made_connected m f from to kept thirty can =
    made f.lines f.slots m f.layout from to kept.lines kept.slots (beside_of m f kept) can.from_inside can.to_inside can.inlet (has_row_room m f from to kept thirty can) (has_column_room m f from to kept thirty can)

-- the layout before the new path joins
abbrev pub readied : Layout → List Move → Layout
readied layout moves = laid (without_all layout (taken_by layout moves)) (taken_by layout moves) moves

pub free_in : (lines slots : ℕ) (after : Matrix) (layout : Layout) (from to : Slot) (moves : List Move) (slot : ℕ) → Legal lines slots layout → hop_of layout from ≡ None → path_to layout to ≡ None → IsSlot lines from → Beside lines slots after (readied layout moves)
    → ((x y : Slot) → IsSlot lines x → (Joins (readied layout moves) x y → Joins layout x y) × (Joins layout x y → Joins (readied layout moves) x y))
    → row_slot after from.line slot ≡ None → column_slot after to.line slot ≡ None → IsFree lines (readied layout moves) from to slot
free_in lines slots after layout from to moves slot legal inlet outlet inside beside joins row column =
    free_by_matrix lines slots after (readied layout moves) from to slot beside.legal_matrix beside.legal beside.is
    (no_hop (readied layout moves) from (λ y s has. let j = (joins from y inside).0 (s, has) in let wrong = sym j.1 ∙ inlet in absurd (cc)))
    (λ x s in_x has. let j = (joins x to in_x).0 (s, has) in let wrong = sym (path_to_is lines slots layout x to j.0 legal in_x j.1) ∙ outlet in absurd (cc))
    row column

-- ---- the steps, as the code names them
pub readied_is : (layout lifted_layout laid_layout : Layout) (moves first second : List Move) (es : List PathEnds) → first ≡ moves → second ≡ moves → es ≡ taken_by layout first → lifted_layout ≡ without_all layout (taken_by layout first) → laid_layout ≡ laid lifted_layout es second → laid_layout ≡ readied layout moves
readied_is layout lifted_layout laid_layout moves first second es of_first of_second of_es of_lifted of_laid =
    of_laid ∙ ap (λ l. laid l es second) (of_lifted ∙ ap (λ v. without_all layout (taken_by layout v)) of_first) ∙ ap (λ e. laid (without_all layout (taken_by layout moves)) e second) (of_es ∙ ap (taken_by layout) of_first)
    ∙ ap (laid (without_all layout (taken_by layout moves)) (taken_by layout moves)) of_second

pub can_lay_is : (lines slots l s : ℕ) (layout lifted_layout : Layout) (moves first second : List Move) (es : List PathEnds) → l ≡ lines → s ≡ slots → first ≡ moves → second ≡ moves → es ≡ taken_by layout first → lifted_layout ≡ without_all layout (taken_by layout first)
    → CanLay lines slots (without_all layout (taken_by layout moves)) (taken_by layout moves) moves → CanLay l s lifted_layout es second
can_lay_is lines slots l s layout lifted_layout moves first second es of_l of_s of_first of_second of_es of_lifted can =
    subst (λ n. CanLay n s lifted_layout es second) (sym of_l)
    (subst (λ n. CanLay lines n lifted_layout es second) (sym of_s)
    (subst (λ x. CanLay lines slots x es second) (sym (of_lifted ∙ ap (λ v. without_all layout (taken_by layout v)) of_first))
    (subst (λ x. CanLay lines slots (without_all layout (taken_by layout moves)) x second) (sym (of_es ∙ ap (taken_by layout) of_first))
    (subst (λ x. CanLay lines slots (without_all layout (taken_by layout moves)) (taken_by layout moves) x) (sym of_second) can))))

-- ---- all that is known before the new path is laid

-- paths were moved, so that the layout is readied for a path in this slot
pub record IsReadied (m : Matrix) (f : Fabric) (from to : Slot) (after : Matrix) (layout : Layout) (slot : ℕ) : Type 0 where
  pub can : CanConnect f from to
  pub made : Made f.lines f.slots m f.layout from to (moves_for m from.line to.line) (slot_for m from.line to.line)
  pub layout_is : layout ≡ readied f.layout (moves_for m from.line to.line)
  pub beside : Beside f.lines f.slots after (readied f.layout (moves_for m from.line to.line))
  pub free : IsFree f.lines (readied f.layout (moves_for m from.line to.line)) from to slot

pub is_readied : (m : Matrix) (f now : Fabric) (from to : Slot) (after : Matrix) (lifted_layout layout : Layout) (moves first second : List Move) (es : List PathEnds) (slot : ℕ) → f ≡ now → IsPathMemory m f → now.slots ≡ 30
    → IsSlot now.lines from → IsSlot now.lines to → hop_of now.layout from ≡ None → path_to now.layout to ≡ None → after ≡ exchanged m moves → moves ≡ moves_for m from.line to.line
    → first ≡ moves → second ≡ moves → es ≡ taken_by f.layout first → lifted_layout ≡ without_all f.layout (taken_by f.layout first) → layout ≡ laid lifted_layout es second
    → row_slot after from.line slot ≡ None → column_slot after to.line slot ≡ None → IsReadied m f from to after layout slot
is_readied m f now from to after lifted_layout layout moves first second es slot is kept thirty in_from in_to inlet outlet exchanges found of_first of_second of_es of_lifted of_laid row column =
    let can = can_of f now is from to in_from in_to inlet outlet in
    let made = Made_connected m f from to kept (ap (λ (x : Fabric). x.slots) is ∙ thirty) can in
    let beside = subst (λ x. Beside f.lines f.slots x (readied f.layout (moves_for m from.line to.line))) (sym (exchanges ∙ ap (exchanged m) found)) made.beside in
    record {
      can = can;
      made = made;
      layout_is = readied_is f.layout lifted_layout layout (moves_for m from.line to.line) first second es (of_first ∙ found) (of_second ∙ found) of_es of_lifted of_laid;
      beside = beside;
      free = free_in f.lines f.slots after f.layout from to (moves_for m from.line to.line) slot kept.legal can.inlet can.outlet can.from_inside beside made.joins row column;
    }
