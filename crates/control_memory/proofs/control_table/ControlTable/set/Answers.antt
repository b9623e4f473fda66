use Rattle.std.proofs.Common.{Some, rules}
use Rattle.control_memory.proofs.Entries.{entry_in_byte_set, number_in-below}
use Rattle.control_memory.proofs.TableRows.{marked_set}
use Rattle.control_memory.proofs.control_table.ControlTable.set.Goals as goal

pub returns-clause-entries : goal.returns-clause-entries
returns-clause-entries c row column inside near =
    let is = entry_in_byte_set c.self.inside.bytes.items c.self.inside.rows c.self.inside.columns c.args.row c.args.column c.args.number row column (Some c.args.number) (search rules) (search rules) (search rules) (search rules) (number_in-below c.args.number c.self.inside.limit (search rules) (search rules)) in
    rw (← c.self.view_is) (search (rules, is))

pub invariant_of-self : goal.invariant_of-self
invariant_of-self c =
    let t = c.self.inside in
    marked_set t.rows t.columns t.limit t.bytes.items t.marks c.args.row c.args.column c.args.number _ c.self.invariant (search rules) (search rules) (search rules) (search rules)
