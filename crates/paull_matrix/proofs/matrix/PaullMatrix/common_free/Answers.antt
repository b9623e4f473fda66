use Rattle.std.proofs.Common.{◌<◌, ap, subst, sym, ◌∙◌}
use Rattle.paull_matrix.specs.Matrix.{row_slot, column_slot, lowest_in_both}
use Rattle.paull_matrix.specs.Tabled.{tabled}
use Rattle.paull_matrix.proofs.Marks.{words_lowest}
use Rattle.paull_matrix.proofs.matrix.PaullMatrix.common_free.Goals as goal

pub returns-clause-lowest : goal.returns-clause-lowest
returns-clause-lowest g c =
    let back = sym c.self.view_is in
    let kept = c.self.invariant in
    c.lowest_missing.ensures.lowest
    ∙ words_lowest c.self.inside.lines c.self.inside.slots c.self.inside.row_words.items c.self.inside.column_words.items
    (row_slot (tabled c.self.inside.lines c.self.inside.slots c.self.inside.columns.items))
    (column_slot (tabled c.self.inside.lines c.self.inside.slots c.self.inside.columns.items))
    c.args.i c.args.j c.from.result c.from-2.result c.index.result.now c.index-2.result.now
    kept.row_marks (subst (λ m. c.args.i < m.lines) back c.requires.row) c.from.ensures c.index.ensures
    kept.column_marks (subst (λ m. c.args.j < m.lines) back c.requires.column) c.from-2.ensures c.index-2.ensures
    ∙ ap (λ m. lowest_in_both m c.args.i c.args.j) c.self.view_is
