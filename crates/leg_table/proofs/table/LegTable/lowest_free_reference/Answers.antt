use Rattle.std.proofs.Common.{rules, arith}
use Rattle.leg_table.proofs.LegWordLemmas.{lowest_left}
use Rattle.leg_table.proofs.table.LegTable.lowest_free_reference.Goals as goal

pub returns-clause-reference : goal.returns-clause-reference
returns-clause-reference c =
    (lowest_left c.args.self.now c.args.line c.row.result.now c.row.ensures.row c.row.ensures.told c.references_in-used.result (search rules) c.references_in-used.ensures.used c.references_in-used.ensures.unused).1

pub returns-clause-few : goal.returns-clause-few
returns-clause-few c =
    let low =
    (lowest_left c.args.self.now c.args.line c.row.result.now c.row.ensures.row c.row.ensures.told c.references_in-used.result (search rules) c.references_in-used.ensures.used c.references_in-used.ensures.unused).0
    in
    omega (arith, low)
