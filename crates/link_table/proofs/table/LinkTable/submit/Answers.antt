use Rattle.std.proofs.Common.{◌<◌, ap, sym, ◌∙◌, subst, arith}
use Rattle.link_table.specs.Tables.{Table, has_link}
use Rattle.link_table.proofs.TableLemmas.{linked, plain_table, room_for, submitted_table}
use Rattle.link_table.proofs.table.LinkTable.submit.Goals as goal

pub submit_on-requires-clause-room : goal.submit_on-requires-clause-room
submit_on-requires-clause-room c =
    room_for _ c.self.invariant (subst (λ (t : Table). t.messages < 64) (sym c.self.view_is) c.requires.room)

pub mark-requires : goal.mark-requires
mark-requires c =
    let room = room_for _ c.self.invariant (subst (λ (t : Table). t.messages < 64) (sym c.self.view_is) c.requires.room) in
    let few = c.submit_on.ensures.few in
    omega (arith, room, few)

pub invariant_of-self : goal.invariant_of-self
invariant_of-self c =
    plain_table _ c.args.line c.args.octets.now _ _ c.self.invariant (subst (λ (t : Table). t.messages < 64) (sym c.self.view_is) c.requires.room) c.push-then-not-has_link.ensures.items c.push.ensures.sent

pub invariant_of-self-2 : goal.invariant_of-self-2
invariant_of-self-2 c =
    let on = linked c.self.inside.links.items c.args.line c.has_link.result (c.has_link.ensures ∙ ap (λ t. has_link c.args.line t) (sym c.self.view_is)) c.if-not-has_link.false in
    let step = c.submit_on.ensures in
    submitted_table _ c.args.line c.args.at on.0 c.args.octets.now _ _ _ c.self.invariant
    (subst (λ (t : Table). t.messages < 64) (sym c.self.view_is) c.requires.room) c.requires.short on.1
    (step.link on.0 on.1) (step.out on.0 on.1) c.mark.ensures.marked step.few
