use Rattle.std.proofs.Common.{◌+◌, ◌-◌, ◌*◌, arith, rules}
use Rattle.control_memory.proofs.TableRows.{is_row}
use Rattle.control_memory.proofs.control_table.ControlTable.row.Goals as goal

pub returns : goal.returns
returns c =
    let t = c.self.inside in
    let is = is_row t.bytes.items t.rows t.columns t.limit c.args.row c.self.invariant.size (search rules) c.self.invariant.below (c.from.result * c.from-columns.result) (c.from.result * c.from-columns.result + c.from-columns.result - c.from.result * c.from-columns.result) (search rules) (omega (arith, c.from-columns.ensures)) in
    rw (← c.self.view_is) (search (rules, is))
