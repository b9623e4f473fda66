use Rattle.std.proofs.Common.{ap, sym, ◌∙◌}
use Rattle.link_table.specs.Tables.{Table, has_link}
use Rattle.link_table.proofs.TableLemmas.{linked, received_table}
use Rattle.link_table.proofs.table.LinkTable.receive.Goals as goal

pub invariant_of-self : goal.invariant_of-self
invariant_of-self c =
    let before = c.self.view_is ∙ c.begin.ensures in
    let on = linked c.self.inside.links.items c.args.line c.has_link.result (c.has_link.ensures ∙ ap (λ t. has_link c.args.line t) (sym c.self.view_is)) c.if-not-has_link.false in
    let step = c.receive_on-indication.ensures in
    received_table _ c.args.line c.args.at on.0 c.in-Some.frame _ _ _ c.self.invariant
    (ap (λ (t : Table). t.receiving) before ∙ c.requires) (ap (λ (t : Table). t.frames) before) on.1
    c.in-Some.ensures.numbered (step.link on.0 on.1) (step.out on.0 on.1) c.mark.ensures.marked step.few
