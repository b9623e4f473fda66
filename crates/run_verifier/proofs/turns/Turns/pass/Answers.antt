use Rattle.std.proofs.Common.{rules, ◌++◌, ◌∷◌, [], arith}
use Rattle.run_verifier.proofs.TurnLemmas.{next_in, passed_turns}
use Rattle.run_verifier.proofs.turns.Turns.pass.Goals as goal

pub next_of-requires-clause-known : goal.next_of-requires-clause-known
next_of-requires-clause-known c = λ n low high.
    let t = c.args.self.now in
    let here = next_in c.args.trace.now t.segment t.end t.next c.args.number c.requires.sound c.requires.own c.requires.next in
    (c.requires.ends.between c.args.number n here (omega (arith, low)) high).0

pub returns-clause-turns : goal.returns-clause-turns
returns-clause-turns c = λ order turns.
    let t = c.args.self.now in
    c.settled.ensures.turns (order ++ c.args.number ∷ [])
    (passed_turns c.args.trace.now t.segment t.end t.next order c.requires.sound turns c.args.number c.place-worker.result c.next_of.result (search rules) c.requires.next
    c.place-worker.ensures.place c.next_of.ensures.low c.next_of.ensures.passed c.next_of.ensures.own)
