use Rattle.std.proofs.Common.{length, ◌∙◌, arith, inl, inr}
use Rattle.std.proofs.lemmas.Bool.{cases_lt}
use Rattle.number_plan.proofs.Side.{slice_cmp-take}
use Rattle.number_plan.proofs.digits.side_by_side.Goals as goal

pub returns : goal.returns
returns c =
    c.cmp.ensures
    ∙ slice_cmp-take c.min-common.result c.args.one.now c.args.other.now (omega (arith, c.min-common.ensures)) (omega (arith, c.min-common.ensures)) (elim (cases_lt (length c.args.one.now) (length c.args.other.now)) [
      | inl lt ↦ inl (omega (arith, c.min-common.ensures))
      | inr le ↦ inr (omega (arith, c.min-common.ensures))
    ])
