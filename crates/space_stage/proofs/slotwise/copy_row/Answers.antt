use Rattle.std.proofs.Common.{◌∙◌}
use Rattle.space_stage.proofs.SlotRows.{both_parts}
use Rattle.space_stage.proofs.slotwise.copy_row.Goals as goal

pub returns-clause-bytes : goal.returns-clause-bytes
returns-clause-bytes c at near = c.put_line.ensures.octets at near ∙ both_parts c.args.row.now c.requires.row at near
