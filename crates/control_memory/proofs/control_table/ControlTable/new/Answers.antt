use Rattle.std.proofs.Common.{◌+◌, ◌*◌, rules}
use Rattle.control_memory.proofs.Entries.{get_or-map_no_entries}
use Rattle.control_memory.proofs.control_table.ControlTable.new.Goals as goal

pub returns-clause-empty : goal.returns-clause-empty
returns-clause-empty c row column _ _ = get_or-map_no_entries c.in_ok-vec.field-0.items (c.from.result * c.from-2.result) (row * c.args.columns + column) (search rules)
