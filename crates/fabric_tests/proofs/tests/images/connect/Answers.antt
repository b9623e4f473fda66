use Rattle.std.proofs.Common.{inr, refl}
use Rattle.fabric_tests.proofs.tests.images.connect.Goals as goal

-- the path that was just connected
pub disconnect-requires-clause-stands : goal.disconnect-requires-clause-stands
disconnect-requires-clause-stands c = (c.connect.ensures.pairs c.args.from c.args.to c.requires.from).1 (inr (refl, refl))
