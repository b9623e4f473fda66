use Rattle.std.proofs.Common.{sym}
use Rattle.circuit_model.specs.Circuits.{listener}
use Rattle.circuit_model.proofs.Slots.{same_slot-true}
use Rattle.circuit_model.proofs.Hearing.{heard_by-stands}
use Rattle.circuit_model.proofs.Validity.{heard_by-listener, heard_by-mutual}
use Rattle.circuit_model.proofs.holding_laws.law_of_one_circuit.Goals as goal

pub returns-clause-stands : goal.returns-clause-stands
returns-clause-stands c = λ circuits x d hears. let found = heard_by-stands circuits x d hears in (found.0, sym (same_slot-true x (listener d) found.1))

pub returns-clause-alone : goal.returns-clause-alone
returns-clause-alone c = λ bridges h d v inside. heard_by-listener h.circuits d (v.standing (listener d)) inside

pub returns-clause-mutual : goal.returns-clause-mutual
returns-clause-mutual c = λ bridges h x y since v hears. heard_by-mutual h.circuits x y since (v.standing x) (v.standing y) hears
