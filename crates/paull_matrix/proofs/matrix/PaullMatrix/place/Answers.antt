use Rattle.std.proofs.Common.{ap, sym, ◌∙◌, ◌≡◌, ◌<◌, subst, None}
use Rattle.paull_matrix.specs.Matrix.{row_slot, column_slot, with_path}
use Rattle.paull_matrix.proofs.Tables.{kept_place, tabled_place}
use Rattle.paull_matrix.proofs.matrix.PaullMatrix.place.Goals as goal

pub invariant_of-self : goal.invariant_of-self
invariant_of-self c =
    let back = sym c.self.view_is in
    rw (c.place_of-in_row.ensures, c.place_of-in_column.ensures, c.mark.ensures.set, c.mark-2.ensures.set)
    (kept_place c.self.inside.lines c.self.inside.slots c.self.inside.columns.items c.self.inside.rows.items c.self.inside.row_words.items c.self.inside.column_words.items c.args.i c.args.j c.args.s c.self.invariant
    (subst (λ m. c.args.i < m.lines) back c.requires.row)
    (subst (λ m. c.args.j < m.lines) back c.requires.column)
    (subst (λ m. c.args.s < m.slots) back c.requires.slot)
    (subst (λ m. row_slot m c.args.i c.args.s ≡ None) back c.requires.missing_in_row)
    (subst (λ m. column_slot m c.args.j c.args.s ≡ None) back c.requires.missing_in_column))

pub returns-clause-placed : goal.returns-clause-placed
returns-clause-placed c =
    let back = sym c.self.view_is in
    rw c.place_of-in_row.ensures
    (tabled_place c.self.inside.lines c.self.inside.slots c.self.inside.columns.items c.args.i c.args.j c.args.s c.self.invariant.row_places
    (subst (λ m. c.args.i < m.lines) back c.requires.row)
    (subst (λ m. c.args.s < m.slots) back c.requires.slot)
    ∙ ap (λ m. with_path m c.args.i c.args.j c.args.s) c.self.view_is)

pub returns-clause-legal : goal.returns-clause-legal
returns-clause-legal c = (invariant_of-self c).legal
