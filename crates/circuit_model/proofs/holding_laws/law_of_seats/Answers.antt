use Rattle.std.proofs.Common.{[], ◌∷◌, arith}
use Rattle.circuit_model.specs.declared.circuit.Circuit.TheVariants.{Pair, Member, Tone}
use Rattle.circuit_model.specs.Circuits.{is_member}
use Rattle.circuit_model.proofs.Validity.{count_by-append}
use Rattle.circuit_model.proofs.Seats.{count-clear_member, count-clear_other}
use Rattle.circuit_model.proofs.holding_laws.law_of_seats.Goals as goal

pub returns-clause-connect : goal.returns-clause-connect
returns-clause-connect c = λ h x y. omega (arith, count_by-append is_member h.circuits (Pair x y h.next ∷ Pair y x h.next ∷ []))

pub returns-clause-seat : goal.returns-clause-seat
returns-clause-seat c = λ h x room. omega (arith, count_by-append is_member h.circuits (Member room x h.next ∷ []))

pub returns-clause-tone : goal.returns-clause-tone
returns-clause-tone c = λ h x kind. omega (arith, count_by-append is_member h.circuits (Tone kind x h.next ∷ []))

pub returns-clause-clear_member : goal.returns-clause-clear_member
returns-clause-clear_member c = λ bridges h x v seated. count-clear_member h.circuits x seated.0 seated.1 (v.standing x) seated.2

pub returns-clause-clear_other : goal.returns-clause-clear_other
returns-clause-clear_other c = λ bridges h x v other. count-clear_other h.circuits x (v.standing x) other
