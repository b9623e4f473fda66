use Rattle.std.proofs.Common.{◌≡◌}
use Rattle.lone_exchange.specs.At.{EachAt}
use Rattle.linked_exchange.proofs.AtLemmas.{IsDown}
use Rattle.linked_exchange.proofs.events.put_down.Given as goal

abbrev pub invariant-loop-line : goal.invariant-loop-line
invariant-loop-line g l = record {
  down : EachAt g.C.Carrier.carries g.C.Carrier.next g.C.Carrier.sizes l.settings.plan.now l.settings.tones.now l.settings.timers.now l.fn.exchange
      (λ s w. IsDown g.C.Carrier.carries g.C.Carrier.next g.C.Carrier.sizes l.exchange l.linked l.line s w);
  bound : l.exchange.control.map.bound ≡ l.fn.exchange.control.map.bound;
}
