use Rattle.trace_text.proofs.TraceOctets.{letter_digit}
use Rattle.std.proofs.Common.{arith}
use Rattle.std.proofs.lemmas.Bool.Decides.{nat_tests}
use Rattle.trace_text.proofs.octets.is_digit.Goals as goal

pub returns-else-octet-lt10 : goal.returns-else-octet-lt10
returns-else-octet-lt10 c = letter_digit c.args.octet (omega (arith, c.ranges.octet.fits)) (grind (arith, nat_tests))
