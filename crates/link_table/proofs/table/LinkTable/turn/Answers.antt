use Rattle.std.proofs.Common.{◌%◌, ap, sym, ◌∙◌}
use Rattle.link_table.specs.Tables.{Table, has_link}
use Rattle.link_table.proofs.TableLemmas.{linked, turned_table}
use Rattle.link_table.proofs.table.LinkTable.turn.Goals as goal

pub invariant_of-self : goal.invariant_of-self
invariant_of-self c =
    let before = c.self.view_is ∙ c.begin.ensures in
    let line = c.args.at % 32 in
    let on = linked c.self.inside.links.items line c.has_link.result (c.has_link.ensures ∙ ap (λ t. has_link line t) (sym c.self.view_is)) c.if-not-has_link.false in
    let step = c.turn_on-indication.ensures in
    turned_table _ c.args.timers.now line c.args.at on.0 _ _ _ c.self.invariant
    (ap (λ (t : Table). t.receiving) before ∙ c.requires) (ap (λ (t : Table). t.frames) before) on.1
    (step.link on.0 on.1) (step.out on.0 on.1) c.mark.ensures.marked step.few
