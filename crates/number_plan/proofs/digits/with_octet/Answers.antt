use Rattle.std.proofs.Common.{arith}
use Rattle.number_plan.proofs.BoundFacts.{leading_next, one_more_fits}
use Rattle.number_plan.proofs.digits.with_octet.Goals as goal

pub followed_by-least-requires : goal.followed_by-least-requires
followed_by-least-requires c =
    omega (arith, c.requires.least, one_more_fits 0 c.args.place c.args.octets.now (omega arith) (λ i. omega (arith, c.type_inv.octets i)) c.requires.place)

pub followed_by-greatest-requires : goal.followed_by-greatest-requires
followed_by-greatest-requires c =
    omega (arith, c.requires.greatest, one_more_fits 255 c.args.place c.args.octets.now (omega arith) (λ i. omega (arith, c.type_inv.octets i)) c.requires.place)

pub returns-clause-least : goal.returns-clause-least
returns-clause-least c =
    omega (arith, c.followed_by-least.ensures, c.octet_at-low.ensures, c.requires.least, leading_next 0 c.args.place c.args.octets.now)

pub returns-clause-greatest : goal.returns-clause-greatest
returns-clause-greatest c =
    omega (arith, c.followed_by-greatest.ensures, c.octet_at-high.ensures, c.requires.greatest, leading_next 255 c.args.place c.args.octets.now)
