use Rattle.std.proofs.Common.{refl, ap, ◌∙◌}
use Rattle.leg_table.specs.KeptNumbers.{legs_kept}
use Rattle.leg_table.proofs.KeptNumberLemmas.{kept_put}
use Rattle.leg_table.proofs.table.LegTable.put.Goals as goal

pub returns : goal.returns
returns c =
    ap (λ held. legs_kept held c.self.inside.notes.items c.self.inside.conditions.items c.self.inside.down.items) c.put.ensures
    ∙ kept_put c.self.inside.legs c.self.inside.notes.items c.self.inside.conditions.items c.self.inside.down.items c.args.self.now c.self.view_is _ c.args.x refl c.args.leg c.requires.state c.requires.unanswered
