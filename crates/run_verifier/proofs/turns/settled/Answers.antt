use Rattle.std.proofs.Common.{rules, ◌+◌, ℕ, refl, sym, subst, arith}
use Rattle.run_verifier.specs.Turns.{AreTurns}
use Rattle.run_verifier.proofs.TurnLemmas.{few_segments, next_turns}
use Rattle.run_verifier.proofs.turns.settled.Goals as goal

pub overflow_cast-turns : goal.overflow_cast-turns
overflow_cast-turns c = let few = few_segments c.args.trace.now c.requires.sound in let within = c.loop-turns.invariant.within in omega (arith, few, within)

pub overflow_add-turns : goal.overflow_add-turns
overflow_add-turns c = let few = few_segments c.args.trace.now c.requires.sound in let within = c.loop-turns.invariant.within in omega (arith, few, within)

pub loop-turns-preserved : goal.loop-turns-preserved
loop-turns-preserved c = record {
  within = search rules;
  turns = λ order start.
      let t = c.loop-turns.turns in
      let later = c.begin-turns.result in
      subst (λ (j : ℕ). AreTurns c.args.trace.now j later.end later.next order) (sym c.begin-turns.ensures.segment)
      (next_turns c.args.trace.now t.segment t.end t.next order c.requires.sound (c.loop-turns.invariant.turns order start) (t.segment + 1) later.end later.next refl
      (c.are_over.ensures.over (search rules)) c.begin-turns.ensures.ends c.begin-turns.ensures.own c.begin-turns.ensures.untouched);
}
