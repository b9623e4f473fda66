use Rattle.std.proofs.Common.{rules, ap, sym, ◌∙◌, subst}
use Rattle.turn_lock.specs.Moves.{Gets}
use Rattle.turn_lock.specs.Views.{IsLive}
use Rattle.turn_lock.proofs.MoveLemmas.{look_keeps}
use Rattle.turn_lock.proofs.moves.Board.wait.Goals as goal

pub load-serving-requires : goal.load-serving-requires
load-serving-requires g c = let inv = c.loop.invariant in (search rules, search rules, look_keeps _ _ _ _ _ _ _ _ _ c.args.ticket (subst (λ m. IsLive m.0.setting) (sym inv.1) c.requires.ticket.0) (search rules) (search rules) (search rules))

pub returns-then-serving-ticket-clause-gets : goal.returns-then-serving-ticket-clause-gets
returns-then-serving-ticket-clause-gets g c =
    let inv = c.loop.invariant in
    let st = ap (λ m. m.0.stage) inv.1 ∙ c.requires.ticket.1 in
    subst (λ m. Gets g.S.Stepper.setting g.S.Stepper.journal g.S.Stepper.room g.S.Stepper.reserved c.args.ticket m c.load-serving.new.seat.me) inv.1 ((c.load-serving.ensures.2 c.args.ticket st).0 c.if-serving-ticket.true)

pub loop-preserved : goal.loop-preserved
loop-preserved g c =
    let inv = c.loop.invariant in
    let st = ap (λ m. m.0.stage) inv.1 ∙ c.requires.ticket.1 in
    (c.load-serving.ensures.0 ∙ inv.0, (c.load-serving.ensures.2 c.args.ticket st).1 c.if-serving-ticket.false ∙ inv.1)
