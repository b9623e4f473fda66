use Rattle.std.proofs.Common.{◌+◌, ◌≡◌, subst, arith}
use Rattle.circuit_model.specs.Holding.{empty, frames, circuits_of, Valid}
use Rattle.circuit_model.proofs.Validity.{valid-empty, valid-after}
use Rattle.circuit_model.proofs.FrameRecords.{valid-frames}
use Rattle.circuit_model.proofs.holding_laws.law_of_validity.Goals as goal

pub returns-clause-kept : goal.returns-clause-kept
returns-clause-kept c = valid-after

pub returns-clause-recorded : goal.returns-clause-recorded
returns-clause-recorded c = λ bridges cs f allowed within.
    let all : 0 + f ≡ f = omega arith in
    subst (λ n. Valid bridges (record { circuits = circuits_of (frames empty cs) f; next = n })) all (valid-frames bridges empty cs f (valid-empty bridges) allowed within)
