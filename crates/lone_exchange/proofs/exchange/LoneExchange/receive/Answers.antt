use Rattle.std.proofs.Common.{◌≡◌, ℕ, List, refl}
use Rattle.circuit_model.specs.FrameInput.{Input}
use Rattle.exchange_events.specs.declared.reply.Reply.TheVariants as An_answer
use Rattle.exchange_events.specs.declared.trace.Event.TheVariants.{Frame, Message}
use Rattle.lone_exchange.proofs.AtLemmas.{command_at}
use Rattle.lone_exchange.proofs.exchange.LoneExchange.receive.Goals as goal

no_frame : (line : ℕ) (octets : List ℕ) (input : Input) → Message line octets ≡ Frame input → ⊥
no_frame line octets input e = absurd (cc)

pub returns-clause-world : goal.returns-clause-world
returns-clause-world g c timers s w given at =
    command_at g.C.Carrier.carries g.C.Carrier.next g.C.Carrier.sizes c.args.self.now _ s w (Message c.args.line c.args.octets.now) at c.requires.fits
    (no_frame c.args.line c.args.octets.now) (c.handle_message.ensures.makes s w given.plan_is given.tones_are at.work).holds refl refl refl

pub returns-clause-reply : goal.returns-clause-reply
returns-clause-reply g c timers s w given at =
    let made = c.handle_message.ensures.makes s w given.plan_is given.tones_are at.work in
    λ i. An_answer.Sent (made.sent i) (made.moves i) (c.handle_message.ensures.records s w given.plan_is given.tones_are at.work i)
