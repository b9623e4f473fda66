use Rattle.std.proofs.Common.{ℕ, subst, sym}
use Rattle.exchange_core.specs.declared.tool.Tool.{Tool}
use Rattle.lone_exchange.specs.At.{AreUnused, size}
use Rattle.lone_exchange.proofs.AtLemmas.{starts_at}
use Rattle.lone_exchange.proofs.exchange.LoneExchange.new.Goals as goal

pub returns-clause-start : goal.returns-clause-start
returns-clause-start g c =
    let depth = g.P.PathMap.depth c.args.paths in
    starts_at g.C.Carrier.carries g.C.Carrier.next g.C.Carrier.sizes c.args.external c.args.bridges depth _ c.requires.external.1 c.in_ok-control.ensures.begins
    (subst (λ (tool : Tool). AreUnused g.C.Carrier.carries g.C.Carrier.next g.C.Carrier.sizes (size c.args.external c.args.bridges depth) c.in_ok-engine.engine tool) (sym c.new.ensures.tool)
    (subst (λ (slots : ℕ). AreUnused g.C.Carrier.carries g.C.Carrier.next g.C.Carrier.sizes (size c.args.external c.args.bridges slots) c.in_ok-engine.engine c.in_ok-engine.tool) c.slots-slots.ensures.slots
    c.in_ok-engine.ensures.ready))
    c.in_ok-engine.ensures.lines
