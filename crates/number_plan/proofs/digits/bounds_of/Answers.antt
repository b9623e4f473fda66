use Rattle.std.proofs.Common.{rules, sym, arith}
use Rattle.number_plan.proofs.BoundFacts.{leading_none, bounds_at}
use Rattle.number_plan.proofs.digits.bounds_of.Goals as goal

pub loop-place-init : goal.loop-place-init
loop-place-init c = record { least = sym (leading_none 0 c.args.octets.now); greatest = sym (leading_none 255 c.args.octets.now) }

pub returns : goal.returns
returns c =
    bounds_at c.args.octets.now c.loop-place.bounds c.loop-place.place (search rules) (λ i. omega (arith, c.type_inv.octets i)) c.loop-place.invariant.least c.loop-place.invariant.greatest
