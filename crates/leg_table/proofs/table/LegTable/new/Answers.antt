use Rattle.std.proofs.Common.{refl, rules, ◌*◌}
use Rattle.leg_table.proofs.KeptNumberLemmas.{kept_none}
use Rattle.leg_table.proofs.table.LegTable.new.Goals as goal

pub returns : goal.returns
returns c = kept_none _ _ _ _ (30 * c.args.external) c.args.external (search rules) refl (search rules) (search rules)
