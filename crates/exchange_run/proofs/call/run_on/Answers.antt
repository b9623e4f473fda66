use Rattle.std.proofs.Common.{refl}
use Rattle.run_verifier.specs.declared.ending.Ending.TheVariants as ended
use Rattle.exchange_run.proofs.Endings.{runs_so}
use Rattle.linked_exchange.proofs.Tellings.{none_beyond}
use Rattle.exchange_run.proofs.Underway.{IsRunInterrupted_none}
use Rattle.exchange_run.proofs.call.run_on.Goals as goal

pub returns-in_default-clause-runs : goal.returns-in_default-clause-runs
returns-in_default-clause-runs g c =
    let e = c.idle.ensures in
    runs_so _ _ _ _ ended.OutOfMemory _ e.ending (IsRunInterrupted_none _ _ _ _ _ _ _ _ _ _ _ e.none refl (none_beyond _ _ _ _) e.engine)

pub returns-in-Err-Write-clause-runs : goal.returns-in-Err-Write-clause-runs
returns-in-Err-Write-clause-runs g c = rw c.in-Err-Write.field-0-is at c.in-Err-Write.ensures.runs

pub returns-in-Err-Memory-clause-runs : goal.returns-in-Err-Memory-clause-runs
returns-in-Err-Memory-clause-runs g c = rw c.in-Err-Memory.field-0-is at c.in-Err-Memory.ensures.runs
