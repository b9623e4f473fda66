use Rattle.std.proofs.Common.{subst}
use Rattle.std.specs.List.{Contains}
use Rattle.circuit_model.specs.declared.circuit.Circuit.TheVariants.{Pair}
use Rattle.call_profile.specs.World.{World}
use Rattle.linked_exchange.specs.Runs.{derived_trace}
use Rattle.linked_exchange.proofs.PlainLemmas.{all_world, trace_fits, trace_world}
use Rattle.privacy.proofs.ConsentLemmas.{consent}
use Rattle.exchange_laws.proofs.privacy_laws.law_of_linked_runs.Goals as goal

pub returns-clause-run : goal.returns-clause-run
returns-clause-run c = λ s timers linked is inputs. record { planned = inputs.planned; fits = trace_fits s timers linked is inputs.lines inputs.fits }

pub returns-clause-state : goal.returns-clause-state
returns-clause-state c = trace_world

pub returns-clause-connections : goal.returns-clause-connections
returns-clause-connections c = λ s timers linked is x y since inputs inside.
    let there = subst (λ (w : World). Contains w.holding.circuits (Pair x y since)) (trace_world s timers linked is) inside in
    consent s inputs.planned (derived_trace s timers linked is) (trace_fits s timers linked is inputs.lines inputs.fits) x y since there

pub returns-clause-further : goal.returns-clause-further
returns-clause-further c = all_world
