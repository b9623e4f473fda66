-- The matrix of a layout follows a path that is added and one that is taken out.
use Rattle.std.proofs.Common.{◌≡◌, ℕ, ◌<◌, Option, Some, None, refl, sym, ◌∙◌, ap, subst, ⊎_elim}
use Rattle.std.specs.Prelude.{option_map}
use Rattle.circuit_model.specs.declared.channel.Slot.{Slot}
use Rattle.control_memory.specs.Layout.{Path, Layout, hop_of, path_in, path_out, IsSlot, HasPath, Legal}
use Rattle.control_memory.specs.Connecting.{with_path, without_path, IsFree}
use Rattle.control_memory.proofs.Lookups.{path_in_found, path_in_is, path_out_found, path_out_is}
use Rattle.control_memory.proofs.LookupsAfter.{looks_in, sent_in, path_of, found_with_new, found_with_old, found_without_old, found_without_other}
use Rattle.paull_matrix.specs.Matrix.{Matrix, by_row_and_slot, no_paths, row_slot, column_slot, IsLegal, with_path as with_entry, without_path as without_entry}
use Rattle.paull_matrix.proofs.Laws.{row_slot-with_path_here, row_slot-with_path_other, row_slot-without_path_here, row_slot-without_path_other, here_or_other, column_of_row, no_column, no_row}
use Rattle.path_memory.specs.Matching.{IsMatrixOf}
use Rattle.control_memory.proofs.TablesAfter.{bare, finds_nothing}
use Rattle.std.specs.FinMap.{get-empty}

some_number : (a b : ℕ) → Some a ≡ Some b → a ≡ b
some_number a b e = cc

-- what a lookup finds through a map of what it finds
pub mapped_some : (o : Option Path) (f : Path → ℕ) (n : ℕ) → option_map f o ≡ Some n → (p : Path) × (o ≡ Some p) × (f p ≡ n)
mapped_some None f n e = absurd (cc)
mapped_some (Some p) f n e = (p, refl, some_number (f p) n e)

pub mapped_none : (o : Option Path) (f : Path → ℕ) → option_map f o ≡ None → o ≡ None
mapped_none None f e = refl
mapped_none (Some p) f e = absurd (cc)

-- ---- rows and columns
by_path : (lines slots : ℕ) (m : Matrix) (layout : Layout) → IsLegal m → Legal lines slots layout → IsMatrixOf m layout → (j s : ℕ) (o : Option Path) → path_out layout j s ≡ o → column_slot m j s ≡ option_map (λ p. p.from.line) o
by_path lines slots m layout legal_m legal is j s None e =
    no_column m j s (λ i there.
    let p = mapped_some (path_in layout i s) (λ q. q.to.line) j (sym (is i s) ∙ there) in
    let f = path_in_found lines layout i s p.0 legal.inlets p.1 in
    let out = path_out_is lines slots layout p.0.from p.0.to p.0.slot legal f.0.inlet f.0.path in
    let here : path_out layout j s ≡ Some (path_of p.0.from p.0.to p.0.slot) = subst (λ l. path_out layout l s ≡ Some (path_of p.0.from p.0.to p.0.slot)) p.2 (subst (λ t. path_out layout p.0.to.line t ≡ Some (path_of p.0.from p.0.to p.0.slot)) f.2 out) in
    let wrong = sym here ∙ e in cc)
by_path lines slots m layout legal_m legal is j s (Some p) e =
    let f = path_out_found lines layout j s p legal.inlets e in
    let sent = path_in_is lines slots layout p.from p.to p.slot legal f.0.inlet f.0.path in
    let row : row_slot m p.from.line p.slot ≡ Some p.to.line = is p.from.line p.slot ∙ ap (option_map (λ q. q.to.line)) sent in
    let row_js : row_slot m p.from.line s ≡ Some j = subst (λ l. row_slot m p.from.line s ≡ Some l) f.1 (subst (λ t. row_slot m p.from.line t ≡ Some p.to.line) f.2 row) in
    column_of_row m p.from.line s j legal_m row_js

pub column_matches : (lines slots : ℕ) (m : Matrix) (layout : Layout) → IsLegal m → Legal lines slots layout → IsMatrixOf m layout → (j s : ℕ) → column_slot m j s ≡ option_map (λ p. p.from.line) (path_out layout j s)
column_matches lines slots m layout legal_m legal is j s = by_path lines slots m layout legal_m legal is j s (path_out layout j s) refl

-- ---- one path more, and one path less
pub matrix_with : (lines slots : ℕ) (m : Matrix) (layout : Layout) (from to : Slot) (slot : ℕ) → Legal lines slots layout → IsSlot lines from → IsSlot lines to → slot < slots → IsFree lines layout from to slot → IsMatrixOf m layout
    → IsMatrixOf (with_entry m from.line to.line slot) (with_path layout from to slot)
matrix_with lines slots m layout from to slot legal inside inside_to below free is i s =
    ⊎_elim
    (λ (e : (i ≡ from.line) × (s ≡ slot)).
    ap (λ n. row_slot (with_entry m from.line to.line slot) n s) e.0 ∙ ap (λ n. row_slot (with_entry m from.line to.line slot) from.line n) e.1 ∙ row_slot-with_path_here m from.line to.line slot
    ∙ sym (ap (option_map (λ p. p.to.line)) (found_with_new lines slots layout from to slot (λ x. path_in x i s) (sent_in i s) (looks_in lines slots i s) legal inside inside_to below free (sym e.0, sym e.1))))
    (λ (other : i ≡ from.line → s ≡ slot → ⊥).
    row_slot-with_path_other m from.line to.line slot i s other ∙ is i s
    ∙ sym (ap (option_map (λ p. p.to.line)) (found_with_old lines slots layout from to slot (λ x. path_in x i s) (sent_in i s) (looks_in lines slots i s) legal inside inside_to below free (λ this. other (sym this.0) (sym this.1)))))
    (here_or_other from.line slot i s)

pub matrix_without : (lines slots : ℕ) (m : Matrix) (layout : Layout) (from to : Slot) (slot : ℕ) → Legal lines slots layout → IsSlot lines from → HasPath layout from to slot → IsMatrixOf m layout
    → IsMatrixOf (without_entry m from.line slot) (without_path layout from)
matrix_without lines slots m layout from to slot legal inside has is i s =
    ⊎_elim
    (λ (e : (i ≡ from.line) × (s ≡ slot)).
    ap (λ n. row_slot (without_entry m from.line slot) n s) e.0 ∙ ap (λ n. row_slot (without_entry m from.line slot) from.line n) e.1 ∙ row_slot-without_path_here m from.line slot
    ∙ sym (ap (option_map (λ p. p.to.line)) (found_without_old lines slots layout from to slot (λ x. path_in x i s) (sent_in i s) (looks_in lines slots i s) legal inside has (sym e.0, sym e.1))))
    (λ (other : i ≡ from.line → s ≡ slot → ⊥).
    row_slot-without_path_other m from.line slot i s other ∙ is i s
    ∙ sym (ap (option_map (λ p. p.to.line)) (found_without_other lines slots layout from to slot (λ x. path_in x i s) (sent_in i s) (looks_in lines slots i s) legal inside has (λ this. other (sym this.0) (sym this.1)))))
    (here_or_other from.line slot i s)

-- what the matrix leaves free is free in the layout
pub free_by_matrix : (lines slots : ℕ) (m : Matrix) (layout : Layout) (from to : Slot) (slot : ℕ) → IsLegal m → Legal lines slots layout → IsMatrixOf m layout → hop_of layout from ≡ None → ((x : Slot) (s : ℕ) → IsSlot lines x → HasPath layout x to s → ⊥)
    → row_slot m from.line slot ≡ None → column_slot m to.line slot ≡ None → IsFree lines layout from to slot
free_by_matrix lines slots m layout from to slot legal_m legal is inlet outlet row column = record {
  inlet = inlet;
  outlet = outlet;
  sent = λ x y inside has line.
      let at : row_slot m x.line slot ≡ Some y.line = is x.line slot ∙ ap (option_map (λ p. p.to.line)) (path_in_is lines slots layout x y slot legal inside has) in
      let wrong = sym (subst (λ l. row_slot m l slot ≡ Some y.line) line at) ∙ row in absurd (cc);
  received = λ x y inside has line.
      let at : row_slot m x.line slot ≡ Some y.line = is x.line slot ∙ ap (option_map (λ p. p.to.line)) (path_in_is lines slots layout x y slot legal inside has) in
      no_row m x.line slot to.line legal_m column (subst (λ l. row_slot m x.line slot ≡ Some l) line at);
}

-- ---- no path at all
pub bare_matches : (lines slots : ℕ) → IsMatrixOf (no_paths lines slots) (bare lines)
bare_matches lines slots i s = get-empty by_row_and_slot (i, s) ∙ sym (ap (option_map (λ p. p.to.line)) (finds_nothing lines slots (λ x. path_in x i s) (sent_in i s) (looks_in lines slots i s)))
