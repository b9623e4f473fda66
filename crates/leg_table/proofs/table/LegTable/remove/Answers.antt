use Rattle.std.proofs.Common.{refl, slice_set, ◌∙◌}
use Rattle.leg_table.specs.KeptNumbers.{legs_kept}
use Rattle.leg_table.proofs.KeptNumberLemmas.{kept_remove}
use Rattle.leg_table.proofs.table.LegTable.remove.Goals as goal

pub returns : goal.returns
returns c =
    (λ i. legs_kept (c.remove.ensures i) c.self.inside.notes.items (slice_set c.self.inside.conditions.items (c.to_index.ensures i) c.args.condition) c.self.inside.down.items)
    ∙ kept_remove c.self.inside.legs c.self.inside.notes.items c.self.inside.conditions.items c.self.inside.down.items c.args.self.now c.self.view_is _ c.args.x refl c.args.condition
