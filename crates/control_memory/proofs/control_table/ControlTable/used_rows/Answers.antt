use Rattle.std.proofs.Common.{rules}
use Rattle.control_memory.proofs.TableRows.{unmarked_entry}
use Rattle.control_memory.proofs.control_table.ControlTable.used_rows.Goals as goal

pub returns-clause-empty : goal.returns-clause-empty
returns-clause-empty c row column past inside near =
    let t = c.self.inside in
    let is = unmarked_entry t.rows t.columns t.limit t.bytes.items t.marks row column c.self.invariant (search rules) (search rules) (c.marked_rows.ensures.unmarked row (search rules) (search rules)) in
    rw (← c.self.view_is) (search (rules, is))
