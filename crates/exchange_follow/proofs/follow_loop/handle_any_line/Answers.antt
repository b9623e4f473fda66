use Rattle.std.proofs.Common.{rules, ◌∷◌, [], ◌++◌}
use Rattle.exchange_follow.specs.Handling.{handler_dues}
use Rattle.line_wire.proofs.Steps.{if_err_is, owes_more, owes_none, unwritten}
use Rattle.exchange_follow.proofs.follow_loop.handle_any_line.Goals as goal

pub returns-in_err-handle_next-clause-stopped : goal.returns-in_err-handle_next-clause-stopped
returns-in_err-handle_next-clause-stopped g c =
    if_err_is _ c.from_residual.result c.in_err-handle_next.field-0.0 (search rules)
    (λ old old_spare heard done a. (a.said, a.stood, c.in_err-handle_next.ensures.stopped old old_spare done a.said a.due))

pub returns-then-len-lt-FULL_TEXT-clause-done : goal.returns-then-len-lt-FULL_TEXT-clause-done
returns-then-len-lt-FULL_TEXT-clause-done g c old old_spare heard done a =
    owes_more _ _ _ heard done c.args.line.now _ _ _ _ a (c.in_ok-handle_next.ensures.done old old_spare done) c.in_ok-handle_next.ensures.counted

pub returns-in-Ok-clause-done : goal.returns-in-Ok-clause-done
returns-in-Ok-clause-done g c old old_spare heard done a =
    owes_none (g.W.Wire.stands c.args.wire.now) (g.W.Wire.stands c.flush.new.wire) _ heard (done ++ c.args.line.now ∷ []) c.handle_next.new.text.items c.flush.new.text.items _
    (owes_more _ _ _ heard done c.args.line.now _ _ _ _ a (c.in_ok-handle_next.ensures.done old old_spare done) c.in_ok-handle_next.ensures.counted)
    (c.in-Ok.ensures.whole heard) c.flush.ensures.blank

pub returns-in-Err-clause-stopped : goal.returns-in-Err-clause-stopped
returns-in-Err-clause-stopped g c old old_spare heard done a =
    let (front, back, is, stood) = c.in-Err.ensures.front heard a.said a.stood in (
      a.said ++ front,
      stood,
      unwritten ((handler_dues (λ m. (goal.Meter-dyn g (m.vtable, m.value)).stands m.value) (λ m. (goal.Meter-dyn g (m.vtable, m.value)).text m.value) g.C.Carrier.carries g.C.Carrier.next g.C.Carrier.sizes g.C.Carrier.plays g.P.Fabric.slots g.P.Fabric.moves old old_spare c.handle_next.new.handler.on.items c.handle_next.new.handler.spare.items c.handle_next.new.handler.heading c.handle_next.new.handler.lines c.handle_next.new.handler.exchange c.handle_next.new.handler.linked).answers (done ++ c.args.line.now ∷ []))
          a.said c.handle_next.new.text.items front back c.flush.new.text.items is c.flush.ensures.blank
          (c.in_ok-handle_next.ensures.done old old_spare done a.said a.due),
    )
