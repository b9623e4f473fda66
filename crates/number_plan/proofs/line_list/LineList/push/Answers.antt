use Rattle.std.proofs.Common.{◌<◌, arith, length, ap, ◌∙◌}
use Rattle.std.proofs.lemmas.List.{length-set, length-take-le}
use Rattle.number_plan.proofs.Padding.{still_padded}
use Rattle.number_plan.proofs.line_list.LineList.push.Goals as goal

pub invariant_of-self : goal.invariant_of-self
invariant_of-self c =
    let count = length-take-le c.self.inside.count c.self.inside.lines (omega (arith, c.self.invariant.0, c.self.invariant.1)) in
    let few : c.self.inside.count < 32 = omega (arith, count, ap length c.self.view_is, c.requires) in (
      length-set c.self.inside.lines c.from.result c.args.line ∙ c.self.invariant.0,
      omega (arith, few),
      still_padded c.self.inside.lines c.self.inside.count c.from.result c.args.line c.from.ensures c.self.invariant.0 few c.self.invariant.2,
    )
