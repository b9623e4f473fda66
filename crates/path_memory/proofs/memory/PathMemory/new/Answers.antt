use Rattle.std.proofs.Common.{◌∙◌, ap, sym, subst}
use Rattle.control_memory.specs.Layout.{Legal}
use Rattle.paull_matrix.specs.Matrix.{Matrix, no_paths}
use Rattle.path_memory.specs.Matching.{IsMatrixOf}
use Rattle.path_memory.proofs.MatrixOfLayout.{bare_matches}
use Rattle.path_memory.proofs.memory.PathMemory.new.Goals as goal

pub invariant_of-result : goal.invariant_of-result
invariant_of-result c =
    let f = c.in_ok-new-2.field-0 in
    let bare_m = c.in_ok-new.ensures.empty in
    record {
      lines = ap (λ (x : Matrix). x.lines) bare_m ∙ sym c.in_ok-new-2.ensures.lines;
      slots = ap (λ (x : Matrix). x.slots) bare_m ∙ sym c.in_ok-new-2.ensures.slots;
      legal_matrix = c.in_ok-new.ensures.legal;
      legal = subst (λ n. Legal n f.slots f.layout) (sym c.in_ok-new-2.ensures.lines) (subst (λ n. Legal c.args.lines n f.layout) (sym c.in_ok-new-2.ensures.slots) c.in_ok-new-2.ensures.legal);
      is = subst (λ x. IsMatrixOf x f.layout) (sym bare_m) (subst (IsMatrixOf (no_paths c.args.lines c.args.slots)) (sym c.in_ok-new-2.ensures.bare) (bare_matches c.args.lines c.args.slots));
    }
