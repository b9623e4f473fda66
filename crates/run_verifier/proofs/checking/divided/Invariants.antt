use Rattle.std.proofs.Common.{length}
use Rattle.run_verifier.proofs.Divisions.{GoesOn}
use Rattle.run_verifier.proofs.checking.divided.Given as goal

abbrev pub invariant-loop-rest : goal.invariant-loop-rest
invariant-loop-rest l = GoesOn l.fn.bytes l.rest

abbrev pub decreases-loop-rest : goal.decreases-loop-rest
decreases-loop-rest l = length l.rest
