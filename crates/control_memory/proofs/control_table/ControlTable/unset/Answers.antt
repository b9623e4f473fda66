use Rattle.std.proofs.Common.{None, refl, rules}
use Rattle.control_memory.proofs.Entries.{entry_in_byte_set}
use Rattle.control_memory.proofs.control_table.ControlTable.unset.Goals as goal

pub returns-clause-entries : goal.returns-clause-entries
returns-clause-entries c row column inside near =
    let is = entry_in_byte_set c.self.inside.bytes.items c.self.inside.rows c.self.inside.columns c.args.row c.args.column 255 row column None (search rules) (search rules) (search rules) (search rules) refl in
    rw (← c.self.view_is) (search (rules, is))
