use Rattle.std.proofs.Common.{◌+◌, [], ◌∷◌, drop, refl, sym, ap, ◌∙◌, arith}
use Rattle.exchange_events.specs.declared.signal.Signal.{Signal}
use Rattle.linked_exchange.specs.Steps.{submitted_all}
use Rattle.linked_exchange.proofs.LinkLemmas.{submitted_more, submitted_none}
use Rattle.linked_exchange.proofs.exchange.submit_all.Goals as goal

pub loop-signal-init : goal.loop-signal-init
loop-signal-init c = record { rest = refl; count = omega arith }

pub submit_one-requires : goal.submit_one-requires
submit_one-requires c =
    let room = c.requires.room in
    let count = c.loop-signal.invariant.count in
    let within = c.loop-signal-test.true in
    omega (arith, room, count, within)

pub loop-signal-preserved : goal.loop-signal-preserved
loop-signal-preserved c =
    let at = c.args.at in
    let signals = c.args.signals.now in
    let i = c.loop-signal.signal-index in
    let counted = c.submit_one.ensures.count in
    let count = c.loop-signal.invariant.count in
    record {
      rest = ap (submitted_all at (drop (i + 1) signals)) (c.submit_one.ensures.submitted ∙ ap (λ (m : Signal). submitted_all at (m ∷ []) c.loop-signal.links) c.signal-item.is)
          ∙ (submitted_more at signals i c.signal-item.result c.loop-signal.links c.loop-signal-test.true ∙ c.loop-signal.invariant.rest);
      count = omega (arith, counted, count);
    }

pub returns : goal.returns
returns c = sym (submitted_none c.args.at c.args.signals.now c.loop-signal.signal-index c.loop-signal.links c.loop-signal-test.false) ∙ c.loop-signal.invariant.rest
