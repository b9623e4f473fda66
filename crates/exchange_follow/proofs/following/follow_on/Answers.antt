use Rattle.std.proofs.Common.{ap}
use Rattle.exchange_follow.proofs.FollowedEndings.{follows_to}
use Rattle.exchange_follow.proofs.Handled.{handled_none}
use Rattle.exchange_follow.proofs.following.follow_on.Goals as goal

pub follow_lines-ending-requires-clause-unread : goal.follow_lines-ending-requires-clause-unread
follow_lines-ending-requires-clause-unread g c lifetimes outlive =
    rw c.new.ensures (handled_none (λ m. (goal.Meter-dyn g (m.vtable, m.value)).stands m.value) (λ m. (goal.Meter-dyn g (m.vtable, m.value)).text m.value) g.C.Carrier.carries g.C.Carrier.next g.C.Carrier.sizes g.C.Carrier.plays g.P.Fabric.slots g.P.Fabric.moves c.replace.result.items c.replace-2.result.items)

pub returns-clause-ends : goal.returns-clause-ends
returns-clause-ends g c =
    let on = ap (λ v. v.items) c.replace.ensures.value in
    let spares = ap (λ v. v.items) c.replace-2.ensures.value in
    let (heard, said, stood, due) = c.follow_lines-ending.ensures.followed in
    let all = follows_to (λ m. (goal.Meter-dyn g (m.vtable, m.value)).stands m.value) (λ m. (goal.Meter-dyn g (m.vtable, m.value)).text m.value) g.C.Carrier.carries g.C.Carrier.next g.C.Carrier.sizes g.C.Carrier.plays g.P.Fabric.slots g.P.Fabric.moves c.replace.result.items c.replace-2.result.items c.follow_lines-ending.new.handler.on.items c.follow_lines-ending.new.handler.spare.items c.follow_lines-ending.new.handler.heading c.follow_lines-ending.new.handler.lines c.follow_lines-ending.new.handler.exchange c.follow_lines-ending.new.handler.linked
    (g.W.Wire.stands c.follow_lines-ending.new.wire) (g.W.Wire.ended c.follow_lines-ending.new.wire) c.follow_lines-ending.result heard said stood due in
    rw (c.engine_of.ensures, c.exchange_of.ensures) (rw (on, spares) at all)
