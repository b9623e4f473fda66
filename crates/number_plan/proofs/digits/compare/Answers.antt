use Rattle.std.proofs.Common.{◌⊎◌, ◌<◌, ◌≤◌, sym, ap, ◌∙◌, length, arith, inl, inr}
use Rattle.std.proofs.lemmas.Bool.{cases_lt}
use Rattle.number_plan.specs.Bounds.{leading}
use Rattle.number_plan.specs.Plan.{side_by_side}
use Rattle.number_plan.proofs.BoundFacts.{lower_by_bounds, higher_by_bounds, equal_by_bounds}
use Rattle.number_plan.proofs.digits.compare.Goals as goal

pub returns-then-number-bounds : goal.returns-then-number-bounds
returns-then-number-bounds c =
    let apart : leading 255 8 c.number.inside.octets.items < leading 0 8 c.args.digits.now = omega (arith, c.if-number-bounds.true, c.number.invariant.greatest, c.requires.least) in
    sym (ap (λ one. side_by_side one c.args.digits.now) (sym c.number.view_is)
    ∙ lower_by_bounds 8 c.number.inside.octets.items c.args.digits.now c.number.invariant.octets c.requires.octets apart)

pub returns-then-bounds-number : goal.returns-then-bounds-number
returns-then-bounds-number c =
    let apart : leading 255 8 c.args.digits.now < leading 0 8 c.number.inside.octets.items = omega (arith, c.if-bounds-number.true, c.number.invariant.least, c.requires.greatest) in
    sym (ap (λ one. side_by_side one c.args.digits.now) (sym c.number.view_is)
    ∙ higher_by_bounds 8 c.number.inside.octets.items c.args.digits.now c.number.invariant.octets c.requires.octets apart)

pub returns-then-common-le-LEADING_OCTETS : goal.returns-then-common-le-LEADING_OCTETS
returns-then-common-le-LEADING_OCTETS c =
    let one = c.number.inside.octets.items in
    let other = c.args.digits.now in
    let few : (length one ≤ 8) ⊎ (length other ≤ 8) = elim (cases_lt (length one) (length other)) [
      | inl lt ↦ inl (omega (arith, c.min-common.ensures, c.if-common-le-LEADING_OCTETS.true, c.len.ensures.value, lt))
      | inr le ↦ inr (omega (arith, c.min-common.ensures, c.if-common-le-LEADING_OCTETS.true, c.len.ensures.value, le))
    ] in
    sym (ap (λ octets. side_by_side octets other) (sym c.number.view_is)
    ∙ equal_by_bounds 8 one other c.number.invariant.octets c.requires.octets few
    (omega (arith, c.if-number-bounds.false, c.number.invariant.greatest, c.requires.least))
    (omega (arith, c.if-bounds-number.false, c.number.invariant.least, c.requires.greatest)))
