use Rattle.std.proofs.Common.{◌∙◌, rules, sym, refl, arith}
use Rattle.leg_table.proofs.LegKeyLemmas.{named_nowhere, named_first}
use Rattle.leg_table.proofs.table.LegTable.find.Goals as goal

pub returns-in_err-place : goal.returns-in_err-place
returns-in_err-place c =
    c.from_residual.ensures
    ∙ sym (named_nowhere c.args.self.now c.args.line c.row.result.now c.row.ensures.row c.row.ensures.told c.args.flag c.args.reference (search rules)
    (λ place below same. c.in_err-place.ensures.none refl place (omega (arith, below)) (same ∙ sym c.key_named.ensures)))

pub returns : goal.returns
returns c =
    c.held.ensures
    ∙ sym (named_first c.args.self.now c.args.line c.row.result.now c.row.ensures.row c.row.ensures.told c.args.flag c.args.reference (search rules)
    c.in_ok-place.place c.in_ok-place.ensures.found.0 (c.in_ok-place.ensures.found.1 ∙ c.key_named.ensures)
    (λ place below same. c.in_ok-place.ensures.found.2 place below (same ∙ sym c.key_named.ensures)))
