use Rattle.std.proofs.Common.{◌≡◌, refl, rules, true, false}
use Rattle.fabric_map.specs.Map.{max_moves}
use Rattle.strict_map.specs.Strict.{max_moves as max_strict_moves}
use Rattle.run_verifier.specs.declared.ending.Ending.TheVariants as ended
use Rattle.exchange_run.specs.Commands.{fabric_of}
use Rattle.exchange_run.specs.Outcomes.{Fabric}
use Rattle.exchange_run.proofs.Endings.{runs_on, runs_so}
use Rattle.linked_exchange.proofs.Tellings.{none_beyond}
use Rattle.exchange_run.proofs.Underway.{IsRunInterrupted_none}
use Rattle.exchange_run.proofs.call.run_trace.Goals as goal

pub returns-in-Ok-clause-runs : goal.returns-in-Ok-clause-runs
returns-in-Ok-clause-runs g c =
    let e = c.in-Ok.ensures in
    let map : Fabric = record { slots = c.in-Ok.paths.slots; max_moves = max_strict_moves c.in-Ok.paths.lines } in
    let same : map ≡ fabric_of true c.args.trace.now = λ i. record { slots = e.slots i; max_moves = max_strict_moves (e.lines i) } in
    runs_on _ _ true _ _ _ _ (search rules) same c.run_on.ensures.runs

pub returns-in-Err-clause-runs : goal.returns-in-Err-clause-runs
returns-in-Err-clause-runs g c =
    let e = c.idle.ensures in
    runs_so _ _ _ _ ended.OutOfMemory _ e.ending (IsRunInterrupted_none _ _ _ _ _ _ _ _ _ _ _ e.none refl (none_beyond _ _ _ _) e.engine)

pub returns-in-Ok-new-clause-runs : goal.returns-in-Ok-new-clause-runs
returns-in-Ok-new-clause-runs g c =
    let e = c.in-Ok-new.ensures in
    let map : Fabric = record { slots = c.in-Ok-new.paths.slots; max_moves = max_moves c.in-Ok-new.paths.lines } in
    let same : map ≡ fabric_of false c.args.trace.now = λ i. record { slots = e.slots i; max_moves = max_moves (e.lines i) } in
    runs_on _ _ false _ _ _ _ (search rules) same c.run_on-in-Ok-new.ensures.runs

pub returns-in-Err-new-clause-runs : goal.returns-in-Err-new-clause-runs
returns-in-Err-new-clause-runs g c =
    let e = c.idle-in-Err-new.ensures in
    runs_so _ _ _ _ ended.OutOfMemory _ e.ending (IsRunInterrupted_none _ _ _ _ _ _ _ _ _ _ _ e.none refl (none_beyond _ _ _ _) e.engine)
