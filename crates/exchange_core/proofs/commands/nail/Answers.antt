use Rattle.std.proofs.Common.{◌≡◌, ℕ, true, false, ap, arith}
use Rattle.std.proofs.lemmas.Grind.{common_steps}
use Rattle.exchange_events.specs.declared.reply.Reply.TheVariants.{Granted}
use Rattle.call_profile.specs.Step.{may_nail}
use Rattle.exchange_core.proofs.commands.nail.Goals as goal

pub returns-then-not-may_nail-clause-world : goal.returns-then-not-may_nail-clause-world
returns-then-not-may_nail-clause-world g c s w h =
    let may : may_nail w c.args.x c.args.y ≡ false = grind (arith, common_steps, c.may_nail.ensures.may s.dimensions w h, c.if-not-may_nail.true) in
    rw may h

pub returns-clause-world : goal.returns-clause-world
returns-clause-world g c s w h =
    let may : may_nail w c.args.x c.args.y ≡ true = grind (arith, common_steps, c.may_nail.ensures.may s.dimensions w h, c.if-not-may_nail.false) in
    rw may (c.pair-there.ensures.holds s.dimensions w h)

pub returns-clause-reply : goal.returns-clause-reply
returns-clause-reply g c o s w h =
    let may : may_nail w c.args.x c.args.y ≡ true = grind (arith, common_steps, c.may_nail.ensures.may s.dimensions w h, c.if-not-may_nail.false) in
    rw may (ap (λ (moves : ℕ × ℕ). Granted moves.0 moves.1) (c.pair-there.ensures.moves s.dimensions w h))
