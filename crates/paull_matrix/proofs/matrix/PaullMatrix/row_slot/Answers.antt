use Rattle.std.proofs.Common.{◌<◌, get_or, None, ap, subst, sym, ◌∙◌}
use Rattle.std.proofs.lemmas.List.{get_or_read}
use Rattle.paull_matrix.specs.Matrix.{row_slot}
use Rattle.paull_matrix.proofs.Tables.{row_slot_tabled, place_within}
use Rattle.paull_matrix.proofs.matrix.PaullMatrix.row_slot.Goals as goal

pub returns-clause-column : goal.returns-clause-column
returns-clause-column g c =
    let back = sym c.self.view_is in
    let row = subst (λ m. c.args.i < m.lines) back c.requires.row in
    let slot = subst (λ m. c.args.s < m.slots) back c.requires.slot in
    let within = place_within c.self.inside.columns.items c.self.inside.lines c.self.inside.slots c.args.i c.args.s c.place_of.result c.self.invariant.row_places row slot c.place_of.ensures in
    get_or_read c.self.inside.columns.items c.place_of.result c.index.result.now within c.index.ensures None
    ∙ ap (λ n. get_or c.self.inside.columns.items n None) c.place_of.ensures
    ∙ sym (row_slot_tabled c.self.inside.lines c.self.inside.slots c.self.inside.columns.items c.args.i c.args.s row slot)
    ∙ ap (λ m. row_slot m c.args.i c.args.s) c.self.view_is
