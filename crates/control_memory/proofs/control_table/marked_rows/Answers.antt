use Rattle.std.proofs.Common.{arith, rules}
use Rattle.control_memory.proofs.TableRows.{unset_above}
use Rattle.control_memory.proofs.control_table.marked_rows.Goals as goal

pub returns-then-marked-from-clause-unmarked : goal.returns-then-marked-from-clause-unmarked
returns-then-marked-from-clause-unmarked c row past inside =
    unset_above c.args.marks row (search rules) (omega (arith, inside, c.if-rows-le64.true)) past
