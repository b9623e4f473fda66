use Rattle.std.proofs.Common.{rules}
use Rattle.control_memory.proofs.TableRows.{bare_entry}
use Rattle.control_memory.proofs.control_table.ControlTable.is_known_empty.Goals as goal

pub returns : goal.returns
returns c unmarked column near =
    let t = c.self.inside in
    let is = bare_entry t.rows t.columns t.limit t.bytes.items t.marks c.args.row column c.self.invariant (search rules) (search rules) (search rules) in
    rw (← c.self.view_is) (search (rules, is))
