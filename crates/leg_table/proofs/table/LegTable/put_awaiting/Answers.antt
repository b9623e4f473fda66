use Rattle.std.proofs.Common.{refl, ◌∙◌}
use Rattle.leg_table.specs.KeptNumbers.{legs_kept}
use Rattle.leg_table.proofs.KeptNumberLemmas.{kept_expect}
use Rattle.leg_table.proofs.table.LegTable.put_awaiting.Goals as goal

pub returns : goal.returns
returns c =
    (λ i. legs_kept (c.put.ensures i) (c.keep_message.ensures.items i) c.self.inside.conditions.items c.self.inside.down.items)
    ∙ kept_expect c.self.inside.legs c.self.inside.notes.items c.self.inside.conditions.items c.self.inside.down.items c.args.self.now c.self.view_is _ c.args.x refl c.args.leg c.args.message.now c.requires.state c.self.invariant.0
