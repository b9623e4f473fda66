use Rattle.std.proofs.Common.{None, slice_index_or, sym, ◌∙◌}
use Rattle.leg_table.specs.KeptNumbers.{counting_all}
use Rattle.leg_table.proofs.KeptNumberLemmas.{pending_shown}
use Rattle.leg_table.proofs.table.LegTable.pending.Goals as goal

pub returns : goal.returns
returns c =
    c.number_at.ensures
    ∙ (λ i. slice_index_or (counting_all c.self.inside.legs (c.deref.ensures.value i)) c.to_index.result None)
    ∙ sym (pending_shown c.self.inside.legs c.self.inside.notes.items c.self.inside.conditions.items c.self.inside.down.items c.args.self.now c.self.view_is c.to_index.result c.args.x c.to_index.ensures)
