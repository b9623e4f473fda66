use Rattle.std.proofs.Common.{Ok, ap, ◌∙◌}
use Rattle.linked_text.proofs.InTurnLemmas.{link_read}
use Rattle.linked_text.proofs.heading.LinkHeading.read_link_line.Goals as goal

pub returns-in_ok-take-in-Some-clause-read : goal.returns-in_ok-take-in-Some-clause-read
returns-in_ok-take-in-Some-clause-read c =
    let took = c.in_ok-take-in-Some.ensures in
    link_read c.args.limits c.args.self.now _ c.args.line.now c.in-Some.said c.in_ok-take-in-Some.field-0
    (c.in_ok-said.ensures ∙ ap Ok c.in-Some.is) took.joins took.happens took.taken
