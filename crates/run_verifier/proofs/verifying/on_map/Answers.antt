use Rattle.std.proofs.Common.{refl}
use Rattle.exchange_events.specs.Sound.{setting_of}
use Rattle.run_verifier.proofs.verifying.on_map.Goals as goal

pub verdict_on-requires-clause-fresh : goal.verdict_on-requires-clause-fresh
verdict_on-requires-clause-fresh g c lifetimes outlive =
    let slots = g.P.PathMap.depth c.args.paths in
    (slots, c.in_ok-exchange.ensures.start (setting_of slots c.args.trace.now) refl c.requires.sound.planned)

pub returns : goal.returns
returns g c =
    let slots = g.P.PathMap.depth c.args.paths in
    record { right = c.verdict_on.ensures.right slots (c.in_ok-exchange.ensures.start (setting_of slots c.args.trace.now) refl c.requires.sound.planned) }
