use Rattle.std.proofs.Common.{ap, sym, ◌∙◌, ◌≡◌, subst, rules, Some}
use Rattle.paull_matrix.specs.Matrix.{row_slot, without_path}
use Rattle.paull_matrix.proofs.Tables.{kept_lift, tabled_lift, place_within}
use Rattle.paull_matrix.proofs.matrix.PaullMatrix.lift.Goals as goal

pub index_mut-requires : goal.index_mut-requires
index_mut-requires c =
    let stands = subst (λ m. row_slot m c.args.i c.args.s ≡ Some c.args.j) (sym c.self.view_is) c.requires.stands in
    let legal = c.self.invariant.legal in
    let within = place_within c.self.inside.columns.items c.self.inside.lines c.self.inside.slots c.args.i c.args.s c.place_of-in_row.result c.self.invariant.row_places (legal.row_within _ _ _ stands) (legal.slot_within _ _ _ stands) c.place_of-in_row.ensures in
    search (rules, within)

pub index_mut-requires-2 : goal.index_mut-requires-2
index_mut-requires-2 c =
    let stands = subst (λ m. row_slot m c.args.i c.args.s ≡ Some c.args.j) (sym c.self.view_is) c.requires.stands in
    let legal = c.self.invariant.legal in
    let within = place_within c.self.inside.rows.items c.self.inside.lines c.self.inside.slots c.args.j c.args.s c.place_of-in_column.result c.self.invariant.column_places (legal.column_within _ _ _ stands) (legal.slot_within _ _ _ stands) c.place_of-in_column.ensures in
    search (rules, within)

pub invariant_of-self : goal.invariant_of-self
invariant_of-self c =
    rw (c.place_of-in_row.ensures, c.place_of-in_column.ensures, c.unmark.ensures.cleared, c.unmark-2.ensures.cleared)
    (kept_lift c.self.inside.lines c.self.inside.slots c.self.inside.columns.items c.self.inside.rows.items c.self.inside.row_words.items c.self.inside.column_words.items c.args.i c.args.j c.args.s c.self.invariant
    (subst (λ m. row_slot m c.args.i c.args.s ≡ Some c.args.j) (sym c.self.view_is) c.requires.stands))

pub returns-clause-lifted : goal.returns-clause-lifted
returns-clause-lifted c =
    let stands = subst (λ m. row_slot m c.args.i c.args.s ≡ Some c.args.j) (sym c.self.view_is) c.requires.stands in
    rw c.place_of-in_row.ensures
    (tabled_lift c.self.inside.lines c.self.inside.slots c.self.inside.columns.items c.args.i c.args.s c.self.invariant.row_places
    (c.self.invariant.legal.row_within c.args.i c.args.s c.args.j stands)
    (c.self.invariant.legal.slot_within c.args.i c.args.s c.args.j stands)
    ∙ ap (λ m. without_path m c.args.i c.args.s) c.self.view_is)

pub returns-clause-legal : goal.returns-clause-legal
returns-clause-legal c = (invariant_of-self c).legal
