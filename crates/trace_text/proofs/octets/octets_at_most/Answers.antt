use Rattle.std.proofs.Common.{arith}
use Rattle.std.proofs.lemmas.Bool.Decides.{nat_tests}
use Rattle.trace_text.proofs.TraceOctets.{Gives_few}
use Rattle.trace_text.proofs.octets.octets_at_most.Goals as goal

pub returns-then-digits-eq0 : goal.returns-then-digits-eq0
returns-then-digits-eq0 c = Gives_few c.args.most c.args.digits.now c.few_octets.result (grind (arith, nat_tests)) c.few_octets.ensures.read c.few_octets.ensures.refused
