use Rattle.std.proofs.Common.{length}
use Rattle.report_reader.proofs.SignalLemmas.{GoesOn}
use Rattle.report_reader.proofs.signals.signals_at.Given as goal

abbrev pub invariant-loop-front : goal.invariant-loop-front
invariant-loop-front l = GoesOn l.fn.word l.fn.octets l.sends.items l.rest

abbrev pub decreases-loop-front : goal.decreases-loop-front
decreases-loop-front l = length l.rest
