use Rattle.std.proofs.Common.{ap, sym, ◌∙◌}
use Rattle.link_table.specs.Tables.{has_link}
use Rattle.link_table.proofs.TableLemmas.{linked, finished_table}
use Rattle.link_table.proofs.table.LinkTable.finish.Goals as goal

pub invariant_of-self : goal.invariant_of-self
invariant_of-self c =
    let line = c.in-Some.line in
    let on = linked c.self.inside.links.items line c.has_link.result (c.has_link.ensures ∙ ap (λ t. has_link line t) (sym c.self.view_is)) c.if-not-has_link.false in
    let step = c.finish_on.ensures in
    finished_table _ line c.args.at on.0 _ _ _ c.self.invariant c.in-Some.is on.1 (step.link on.0 on.1) (step.out on.0 on.1) c.mark.ensures.marked
