use Rattle.std.proofs.Common.{None, slice_index_or, sym, ◌∙◌}
use Rattle.leg_table.specs.KeptNumbers.{keeping_all}
use Rattle.leg_table.proofs.KeptNumberLemmas.{kept_shown}
use Rattle.leg_table.proofs.table.LegTable.kept_message.Goals as goal

pub returns : goal.returns
returns c =
    c.message_at.ensures
    ∙ (λ i. slice_index_or (keeping_all c.self.inside.legs (c.deref.ensures.value i)) c.to_index.result None)
    ∙ sym (kept_shown c.self.inside.legs c.self.inside.notes.items c.self.inside.conditions.items c.self.inside.down.items c.args.self.now c.self.view_is c.to_index.result c.args.x c.to_index.ensures)
