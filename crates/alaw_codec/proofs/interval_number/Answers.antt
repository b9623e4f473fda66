use Rattle.std.proofs.Common.{arith}
use Rattle.alaw_codec.proofs.Tables.{numbered}
use Rattle.alaw_codec.proofs.interval_number.Goals as goal

pub overflow_sub-segment : goal.overflow_sub-segment
overflow_sub-segment c = (numbered c.args.magnitude c.requires).leading

pub overflow_sub-result : goal.overflow_sub-result
overflow_sub-result c = (numbered c.args.magnitude c.requires).segment

pub overflow_cast-result : goal.overflow_cast-result
overflow_cast-result c = omega (arith, (numbered c.args.magnitude c.requires).below)

pub returns : goal.returns
returns c = let known = numbered c.args.magnitude c.requires in record { below = known.below; number = known.number }
