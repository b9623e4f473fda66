use Rattle.std.proofs.Common.{length}
use Rattle.report_reader.proofs.OctetLemmas.{HasRead}
use Rattle.report_reader.proofs.signals.octets_at.Given as goal

abbrev pub invariant-loop-octet : goal.invariant-loop-octet
invariant-loop-octet l = HasRead l.fn.octets l.read.items l.rest

abbrev pub decreases-loop-octet : goal.decreases-loop-octet
decreases-loop-octet l = length l.rest
