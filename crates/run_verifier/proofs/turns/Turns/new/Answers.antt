use Rattle.std.proofs.Common.{[], ℕ, sym, subst}
use Rattle.run_verifier.specs.Turns.{AreTurns}
use Rattle.run_verifier.proofs.TurnLemmas.{first_turns}
use Rattle.run_verifier.proofs.turns.Turns.new.Goals as goal

pub returns-clause-turns : goal.returns-clause-turns
returns-clause-turns c =
    let t = c.begin.result in
    c.settled.ensures.turns []
    (subst (λ (k : ℕ). AreTurns c.args.trace.now k t.end t.next []) (sym c.begin.ensures.segment)
    (first_turns c.args.trace.now t.end t.next c.begin.ensures.ends c.begin.ensures.own c.begin.ensures.untouched))
