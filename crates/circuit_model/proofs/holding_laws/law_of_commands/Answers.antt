use Rattle.circuit_model.specs.declared.circuit.Circuit.TheVariants.{Member, Tone}
use Rattle.circuit_model.proofs.Hearing.{heard_by-one, heard_by-two}
use Rattle.circuit_model.proofs.Validity.{heard_by-clear}
use Rattle.circuit_model.proofs.holding_laws.law_of_commands.Goals as goal

pub returns-clause-connect : goal.returns-clause-connect
returns-clause-connect c = λ h x y idle_x idle_y z. heard_by-two h.circuits x y z h.next idle_x idle_y

pub returns-clause-seat : goal.returns-clause-seat
returns-clause-seat c = λ h x room idle z. heard_by-one h.circuits (Member room x h.next) z idle

pub returns-clause-tone : goal.returns-clause-tone
returns-clause-tone c = λ h x kind idle z. heard_by-one h.circuits (Tone kind x h.next) z idle

pub returns-clause-clear : goal.returns-clause-clear
returns-clause-clear c = λ bridges h x v z. heard_by-clear h.circuits x z (v.standing z)
