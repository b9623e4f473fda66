use Rattle.std.proofs.Common.{subst, sym}
use Rattle.linked_exchange.specs.Stepping.{IsRunning}
use Rattle.linked_exchange.proofs.SteppingLemmas.{ready_new}
use Rattle.linked_exchange.proofs.opening.open_into.Goals as goal

pub returns : goal.returns
returns g c = record {
  running = λ told z heard.
      subst (λ x. IsRunning g.C.Carrier.carries g.C.Carrier.next g.C.Carrier.sizes g.P.Fabric.slots g.P.Fabric.moves told z x) (sym c.replace.ensures.after)
      (ready_new g.C.Carrier.carries g.C.Carrier.next g.C.Carrier.sizes g.P.Fabric.slots g.P.Fabric.moves told z c.args.heading.now c.args.exchange.now c.in_ok-opened.opened c.in-Some.sizes
      c.requires.none c.in-Some.ensures c.in_ok-opened.ensures.start c.in_ok-opened.ensures.bound heard);
}
