use Rattle.std.proofs.Common.{rules, ◌≢◌, ◌⊎◌, ◌<◌, [], length, inl, inr}
use Rattle.std.proofs.lemmas.Result.{IfErr-weaker}
use Rattle.exchange_follow.specs.Handling.{handler_dues}
use Rattle.line_wire.proofs.Steps.{answered_all, has_unfed, ok_weaker, stopped_next}
use Rattle.exchange_follow.proofs.follow_loop.handle_rest.Goals as goal

pub returns-clause-done : goal.returns-clause-done
returns-clause-done g c =
    let some : c.args.rest.now ≢ [] = search rules in
    ok_weaker c.handle_line.result (λ step old old_spare heard u. answered_all _ _ _ _ heard _ _ _ _ _ u some c.requires.partial (step old old_spare heard)) c.handle_line.ensures.done

pub returns-clause-stopped : goal.returns-clause-stopped
returns-clause-stopped g c =
    let some : c.args.rest.now ≢ [] = search rules in
    IfErr-weaker c.handle_line.result _ _
    (λ why step old old_spare heard u. stopped_next (g.W.Wire.stands c.args.wire.now) (g.W.Wire.stands c.handle_line.new.wire)
    (g.W.Wire.ended c.handle_line.new.wire)
    _
    (handler_dues (λ m. (goal.Meter-dyn g (m.vtable, m.value)).stands m.value) (λ m. (goal.Meter-dyn g (m.vtable, m.value)).text m.value) g.C.Carrier.carries g.C.Carrier.next g.C.Carrier.sizes g.C.Carrier.plays g.P.Fabric.slots g.P.Fabric.moves old old_spare c.handle_line.new.handler.on.items c.handle_line.new.handler.spare.items c.handle_line.new.handler.heading c.handle_line.new.handler.lines c.handle_line.new.handler.exchange c.handle_line.new.handler.linked)
    why heard c.args.rest.now c.args.rest.now [] c.args.text.now.items c.handle_line.new.text.items c.args.handler.now.lines u
    (has_unfed _ c.args.rest.now some c.requires.partial (last c.requires.last)) c.requires.room (step old old_spare heard))
    c.handle_line.ensures.stopped
  where
    last : g.W.Wire.ended c.args.wire.now ⊎ (65535 < length c.args.rest.now) → g.W.Wire.ended c.handle_line.new.wire ⊎ (65535 < length c.args.rest.now)
    last (inl has) = inl (c.handle_line.ensures.end has)
    last (inr long) = inr long
