use Rattle.std.proofs.Common.{ℕ, [], ap, sym, subst, ◌∙◌}
use Rattle.exchange_core.specs.Boards.{Board}
use Rattle.call_processor.specs.Frames.{IsReady}
use Rattle.shared_exchange.specs.Sharing.{board_of}
use Rattle.exchange_run.proofs.run.equipped.Goals as goal

pub returns-clause-ready : goal.returns-clause-ready
returns-clause-ready g c =
    let bound = g.P.PathMap.bound c.args.paths in
    let first = c.in_ok-carried.carried in
    subst (λ (b : Board). IsReady g.C.Carrier.carries g.C.Carrier.next g.C.Carrier.sizes b [] first.machine.value.engine first.machine.value.context.tool) (sym (c.in_ok-board.ensures.board ∙ ap board_of c.in_ok-core.ensures))
    (subst (λ (n : ℕ). IsReady g.C.Carrier.carries g.C.Carrier.next g.C.Carrier.sizes (record { trace = c.args.trace.now; slots = n; bound = bound }) [] first.machine.value.engine first.machine.value.context.tool) c.slots-slots.ensures.slots (c.in_ok-carried.ensures.ready bound))
