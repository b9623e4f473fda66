use Rattle.std.proofs.Common.{rules, arith}
use Rattle.leg_table.proofs.LegWordLemmas.{lower_lacks, lower_first, upper_first}
use Rattle.leg_table.proofs.leg_keys.first_place_with.Goals as goal

pub overflow_sub-result : goal.overflow_sub-result
overflow_sub-result c =
    (lower_first c.args.row.now c.args.key c.lower_places-lower.result (search rules) c.lower_places-lower.ensures (omega (arith, c.if-lower-ne0.true))).0

pub returns-then-lower-ne0-clause-found : goal.returns-then-lower-ne0-clause-found
returns-then-lower-ne0-clause-found c =
    (lower_first c.args.row.now c.args.key c.lower_places-lower.result (search rules) c.lower_places-lower.ensures (omega (arith, c.if-lower-ne0.true))).1

pub returns-clause-found : goal.returns-clause-found
returns-clause-found c =
    upper_first c.args.row.now c.args.key (lower_lacks c.args.row.now c.args.key c.lower_places-lower.result c.lower_places-lower.ensures (omega (arith, c.if-lower-ne0.false)))
    c.upper_places-upper.result c.upper_places-upper.ensures (search rules) (omega (arith, c.if-upper-eq0.false))
