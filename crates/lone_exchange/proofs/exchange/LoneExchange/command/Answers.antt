use Rattle.std.proofs.Common.{refl}
use Rattle.lone_exchange.proofs.AtLemmas.{command_at}
use Rattle.lone_exchange.proofs.exchange.LoneExchange.command.Goals as goal

pub returns-clause-world : goal.returns-clause-world
returns-clause-world g c s w given at =
    command_at g.C.Carrier.carries g.C.Carrier.next g.C.Carrier.sizes c.args.self.now _ s w c.args.event.now at c.requires.fits c.requires.other
    (c.happen-response.ensures.world s w given.plan_is given.tones_are given.timers_are at.work) refl c.replace-tool.ensures.value refl
