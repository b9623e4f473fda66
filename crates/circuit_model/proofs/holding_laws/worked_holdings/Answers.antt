use Rattle.std.proofs.Common.{◌≡◌, ◌≤◌, [], ◌∷◌, refl, arith}
use Rattle.circuit_model.specs.declared.circuit.Kind.TheVariants.{Busy}
use Rattle.circuit_model.specs.declared.circuit.Circuit.TheVariants.{Pair, Member, Tone}
use Rattle.circuit_model.specs.Holding.{empty, Connect, after}
use Rattle.circuit_model.specs.Examples.{first}
use Rattle.circuit_model.proofs.InvalidHoldings.{stands_once, stands_both_ways}
use Rattle.circuit_model.proofs.holding_laws.worked_holdings.Goals as goal

pub returns-clause-to_itself : goal.returns-clause-to_itself
returns-clause-to_itself c = λ b v. stands_once (after empty (Connect (first 0) (first 0))).circuits (first 0) _ _ _ refl (λ y since apart d e. let same : y ≡ first 0 = cc in apart same) (λ y since apart d e. let same : y ≡ first 0 = cc in apart same) (v.standing (first 0))

pub returns-clause-one_way : goal.returns-clause-one_way
returns-clause-one_way c = λ b v. stands_both_ways (Pair (first 0) (first 1) 0 ∷ []) (first 0) (first 0) (first 1) 0 refl (v.standing (first 0))

pub returns-clause-uneven : goal.returns-clause-uneven
returns-clause-uneven c = λ b v. stands_once (Pair (first 0) (first 1) 0 ∷ Pair (first 1) (first 0) 1 ∷ []) (first 0) _ _ _ refl (λ y since apart d e. cc) (λ y since apart d e. cc) (v.standing (first 0))

pub returns-clause-two_ways : goal.returns-clause-two_ways
returns-clause-two_ways c = λ b v. stands_once (Tone Busy (first 0) 0 ∷ Member 0 (first 0) 0 ∷ []) (first 0) _ _ _ refl (λ y since apart d e. cc) (λ y since apart d e. cc) (v.standing (first 0))

pub returns-clause-seated_twice : goal.returns-clause-seated_twice
returns-clause-seated_twice c = λ b v. stands_once (Member 0 (first 0) 0 ∷ Member 0 (first 0) 0 ∷ []) (first 0) _ _ _ refl (λ y since apart d e. cc) (λ y since apart d e. cc) (v.standing (first 0))

pub returns-clause-too_young : goal.returns-clause-too_young
returns-clause-too_young c = λ b v. let young : 1 ≤ 0 = v.young 0 (Tone Busy (first 0) 1) (omega arith) in omega arith

pub returns-clause-no_port : goal.returns-clause-no_port
returns-clause-no_port c = λ v. let seated = v.seated in omega arith
