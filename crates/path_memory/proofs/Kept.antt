-- The matrix stays beside the layout where a path is added, and where one is taken out.
use Rattle.std.proofs.Common.{◌≡◌, ℕ, ◌<◌, Some, None, sym, ◌∙◌, ap, subst}
use Rattle.std.specs.Prelude.{option_map}
use Rattle.circuit_model.specs.declared.channel.Slot.{Slot}
use Rattle.control_memory.specs.declared.route.Route.{Route}
use Rattle.control_memory.specs.Layout.{Path, Layout, hop_of, path_to, IsSlot, Joins, Legal}
use Rattle.control_memory.specs.Connecting.{with_path, without_path, IsFree, common_slot}
use Rattle.control_memory.specs.Paths.{Fabric}
use Rattle.control_memory.proofs.Lookups.{path_in_is, path_to_is, one_hop}
use Rattle.control_memory.proofs.Steps.{legal_without, legal_with}
use Rattle.paull_matrix.specs.Matrix.{Matrix, row_slot, column_slot, lowest_in_both, IsLegal, with_path as with_entry, without_path as without_entry}
use Rattle.paull_matrix.proofs.Laws.{lowest_in_both_is, legal_without as legal_matrix_without}
use Rattle.path_memory.specs.Matching.{IsMatrixOf}
use Rattle.path_memory.specs.Memory.{IsPathMemory, CanConnect}
use Rattle.path_memory.proofs.MatrixOfLayout.{matrix_with, matrix_without, free_by_matrix}
use Rattle.path_memory.proofs.CommonSlot.{Beside, lowest_in_both_common}

-- what a call asks, of the fields
pub can_of : (f now : Fabric) → f ≡ now → (from to : Slot) → IsSlot now.lines from → IsSlot now.lines to → hop_of now.layout from ≡ None → path_to now.layout to ≡ None → CanConnect f from to
can_of f now is from to a b i o = subst (λ (x : Fabric). CanConnect x from to) (sym is) (record { from_inside = a; to_inside = b; inlet = i; outlet = o })

pub beside_of : (m : Matrix) (f : Fabric) → IsPathMemory m f → Beside f.lines f.slots m f.layout
beside_of m f kept = record { legal_matrix = kept.legal_matrix; legal = kept.legal; is = kept.is }

-- ---- a path in a slot that is free in both lines
pub record InCommon (m : Matrix) (f : Fabric) (from to : Slot) (slot : ℕ) : Type 0 where
  pub row : row_slot m from.line slot ≡ None
  pub column : column_slot m to.line slot ≡ None
  pub below : slot < m.slots
  pub within : slot < f.slots
  pub free : IsFree f.lines f.layout from to slot
  pub common : common_slot f.slots f.layout from.line to.line ≡ Some slot

pub lowest_in_both_common_of : (m : Matrix) (f : Fabric) (from to : Slot) → IsPathMemory m f → lowest_in_both m from.line to.line ≡ common_slot f.slots f.layout from.line to.line
lowest_in_both_common_of m f from to kept = lowest_in_both_common f.lines f.slots m f.layout kept.slots (beside_of m f kept) from.line to.line

pub in_common : (m : Matrix) (f : Fabric) (from to : Slot) (slot : ℕ) → IsPathMemory m f → CanConnect f from to → Some slot ≡ lowest_in_both m from.line to.line → InCommon m f from to slot
in_common m f from to slot kept can lowest =
    let is = lowest_in_both_is m from.line to.line slot (sym lowest) in
    record {
      row = is.0;
      column = is.1;
      below = is.2;
      within = subst (λ n. slot < n) kept.slots is.2;
      free = free_by_matrix f.lines f.slots m f.layout from to slot kept.legal_matrix kept.legal kept.is can.inlet
          (λ x s in_x has. let wrong = sym (path_to_is f.lines f.slots f.layout x to s kept.legal in_x has) ∙ can.outlet in absurd (cc)) is.0 is.1;
      common = sym (lowest_in_both_common_of m f from to kept) ∙ sym lowest;
    }

pub IsPathMemory-with_path : (lines slots : ℕ) (m : Matrix) (layout : Layout) (from to : Slot) (slot : ℕ) (m' : Matrix) (f' : Fabric) → m.lines ≡ lines → m.slots ≡ slots → Beside lines slots m layout → IsSlot lines from → IsSlot lines to → slot < m.slots → IsFree lines layout from to slot
    → m' ≡ with_entry m from.line to.line slot → IsLegal m' → f'.layout ≡ with_path layout from to slot → f'.lines ≡ lines → f'.slots ≡ slots → IsPathMemory m' f'
IsPathMemory-with_path lines slots m layout from to slot m' f' lines_are slots_are beside from_inside to_inside below free of_m legal_m of_layout of_lines of_slots =
    let within : slot < slots = subst (λ n. slot < n) slots_are below in
    record {
      lines = ap (λ (x : Matrix). x.lines) of_m ∙ lines_are ∙ sym of_lines;
      slots = ap (λ (x : Matrix). x.slots) of_m ∙ slots_are ∙ sym of_slots;
      legal_matrix = legal_m;
      legal = subst (λ l. Legal f'.lines f'.slots l) (sym of_layout) (subst (λ n. Legal n f'.slots (with_path layout from to slot)) (sym of_lines) (subst (λ n. Legal lines n (with_path layout from to slot)) (sym of_slots) (legal_with lines slots layout from to slot beside.legal from_inside to_inside within free)));
      is = subst (λ x. IsMatrixOf x f'.layout) (sym of_m) (subst (IsMatrixOf (with_entry m from.line to.line slot)) (sym of_layout) (matrix_with lines slots m layout from to slot beside.legal from_inside to_inside within free beside.is));
    }

-- ---- a path that is taken out
pub lifts_entry : (m : Matrix) (f : Fabric) (from to : Slot) (hop : Route) → IsPathMemory m f → IsSlot f.lines from → Joins f.layout from to → hop_of f.layout from ≡ Some hop → (hop.to ≡ to) × (row_slot m from.line hop.slot ≡ Some to.line)
lifts_entry m f from to hop kept inside joined at =
    let same = one_hop f.layout from hop.to to hop.slot joined.0 at joined.1 in
    (same.0, kept.is from.line hop.slot ∙ ap (option_map (λ (p : Path). p.to.line)) (path_in_is f.lines f.slots f.layout from hop.to hop.slot kept.legal inside at) ∙ ap (λ (t : Slot). Some t.line) same.0)

pub IsPathMemory-without_path : (m : Matrix) (f : Fabric) (from : Slot) (hop : Route) (m' : Matrix) (f' : Fabric) → IsPathMemory m f → IsSlot f.lines from → hop_of f.layout from ≡ Some hop → m' ≡ without_entry m from.line hop.slot → f'.layout ≡ without_path f.layout from → f'.lines ≡ f.lines → f'.slots ≡ f.slots → IsPathMemory m' f'
IsPathMemory-without_path m f from hop m' f' kept inside at of_m of_layout of_lines of_slots = record {
  lines = ap (λ (x : Matrix). x.lines) of_m ∙ kept.lines ∙ sym of_lines;
  slots = ap (λ (x : Matrix). x.slots) of_m ∙ kept.slots ∙ sym of_slots;
  legal_matrix = subst IsLegal (sym of_m) (legal_matrix_without m from.line hop.slot kept.legal_matrix);
  legal = subst (λ l. Legal f'.lines f'.slots l) (sym of_layout) (subst (λ n. Legal n f'.slots (without_path f.layout from)) (sym of_lines) (subst (λ n. Legal f.lines n (without_path f.layout from)) (sym of_slots) (legal_without f.lines f.slots f.layout from kept.legal inside)));
  is = subst (λ x. IsMatrixOf x f'.layout) (sym of_m) (subst (IsMatrixOf (without_entry m from.line hop.slot)) (sym of_layout) (matrix_without f.lines f.slots m f.layout from hop.to hop.slot kept.legal inside at kept.is));
}
