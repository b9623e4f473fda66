use Rattle.std.proofs.Common.{ap, length, arith}
use Rattle.link_table.specs.Tables.{Table}
use Rattle.link_table.proofs.TableLemmas.{bounded_few}
use Rattle.link_table.proofs.table.LinkTable.frames.Goals as goal

pub returns-clause-few : goal.returns-clause-few
returns-clause-few c =
    let few = bounded_few _ c.self.invariant in
    let frames = ap length c.as_slice.ensures in
    let messages = ap (λ (t : Table). t.messages) c.self.view_is in
    omega (arith, few, frames, messages)
