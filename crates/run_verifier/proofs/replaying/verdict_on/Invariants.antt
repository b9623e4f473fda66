use Rattle.std.proofs.Common.{ℕ, []}
use Rattle.run_verifier.specs.Replaying.{HasDone}
use Rattle.run_verifier.proofs.EndLemmas.{IsReading}
use Rattle.run_verifier.proofs.replaying.verdict_on.Given as goal

abbrev pub invariant-loop-number : goal.invariant-loop-number
invariant-loop-number g l = record {
  reading : (slots : ℕ) → HasDone slots l.trace [] l.fn.exchange → IsReading slots l.trace l.report l.text l.number l.turns l.exchange;
}
