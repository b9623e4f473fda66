use Rattle.std.proofs.Common.{◌++◌, ◌∙◌, refl, sym}
use Rattle.exchange_follow.specs.Handling.{handler_dues}
use Rattle.line_wire.specs.declared.following.Following.TheVariants as ended
use Rattle.line_wire.proofs.Endings.{followed_too, same_too}
use Rattle.line_wire.proofs.Steps.{cut_due, cut_text, reads_same, writes_same}
use Rattle.exchange_follow.proofs.follow_loop.follow_with.Goals as goal

pub returns-in-WriteFailed-clause-followed : goal.returns-in-WriteFailed-clause-followed
returns-in-WriteFailed-clause-followed g c =
    let (heard, said, stood, has) = c.in-WriteFailed.ensures.ended in
    (heard, said, stood, cut_due _ ended.WriteFailed _ heard (said ++ c.follow_to_end-why.new.text.items) said c.follow_to_end-why.new.text.items refl has)

pub returns-in-Ok-clause-followed : goal.returns-in-Ok-clause-followed
returns-in-Ok-clause-followed g c =
    let due = handler_dues (λ m. (goal.Meter-dyn g (m.vtable, m.value)).stands m.value) (λ m. (goal.Meter-dyn g (m.vtable, m.value)).text m.value) g.C.Carrier.carries g.C.Carrier.next g.C.Carrier.sizes g.C.Carrier.plays g.P.Fabric.slots g.P.Fabric.moves c.args.handler.now.on.items c.args.handler.now.spare.items c.follow_to_end-why.new.handler.on.items c.follow_to_end-why.new.handler.spare.items c.follow_to_end-why.new.handler.heading c.follow_to_end-why.new.handler.lines c.follow_to_end-why.new.handler.exchange c.follow_to_end-why.new.handler.linked in
    let before = g.W.Wire.ended c.follow_to_end-why.new.wire in
    let after = g.W.Wire.ended c.send_all.new.wire in
    let (heard, said, stood, has) = c.follow_to_end-why.ensures.ended in
    let text = c.follow_to_end-why.new.text.items in
    let written = rw c.as_slice.ensures.value at c.in-Ok.ensures.whole in
    (heard, said ++ text, written heard said stood, followed_too before after c.send_all.ensures.end due due (same_too due) c.follow_to_end-why.result heard (said ++ text) has)

pub returns-in-Err : goal.returns-in-Err
returns-in-Err g c =
    let due = handler_dues (λ m. (goal.Meter-dyn g (m.vtable, m.value)).stands m.value) (λ m. (goal.Meter-dyn g (m.vtable, m.value)).text m.value) g.C.Carrier.carries g.C.Carrier.next g.C.Carrier.sizes g.C.Carrier.plays g.P.Fabric.slots g.P.Fabric.moves c.args.handler.now.on.items c.args.handler.now.spare.items c.follow_to_end-why.new.handler.on.items c.follow_to_end-why.new.handler.spare.items c.follow_to_end-why.new.handler.heading c.follow_to_end-why.new.handler.lines c.follow_to_end-why.new.handler.exchange c.follow_to_end-why.new.handler.linked in
    let before = g.W.Wire.ended c.follow_to_end-why.new.wire in
    let after = g.W.Wire.ended c.send_all.new.wire in
    let (heard, said, stood, has) = c.follow_to_end-why.ensures.ended in
    let (front, back, is, now) = c.in-Err.ensures.front heard said stood in
    let reads = reads_same c.follow_to_end-why.result _ _ c.in_default.not-ReadFailed c.follow_to_end-why.ensures.reads in
    let writes = writes_same c.follow_to_end-why.result _ _ c.in_default.not-WriteFailed c.follow_to_end-why.ensures.writes in
    record {
      followed = (heard, said ++ front, now, followed_too before after c.send_all.ensures.end due due (same_too due) ended.WriteFailed heard (said ++ front) (cut_text before c.follow_to_end-why.result due heard said c.follow_to_end-why.new.text.items front back (sym c.as_slice.ensures.value ∙ is) has));
      reads = c.send_all.ensures.reads ∙ reads;
      writes = rw writes at c.in-Err.ensures.cause;
    }
