use Rattle.std.proofs.Common.{ap, not, ◌∙◌}
use Rattle.linked_exchange.proofs.SteppingLemmas.{ready_old}
use Rattle.linked_exchange.proofs.opening.ready.Goals as goal

pub returns : goal.returns
returns g c = record {
  running = λ told z heard. ready_old g.C.Carrier.carries g.C.Carrier.next g.C.Carrier.sizes g.P.Fabric.slots g.P.Fabric.moves told z c.args.heading.now c.args.exchange.now (c.is_none.ensures ∙ ap not c.if-is_none.false) heard;
}
