use Rattle.trace_text.proofs.HeadingLemmas.{line_read}
use Rattle.trace_text.proofs.heading.Heading.read_any_line.Goals as goal

pub returns-clause-read : goal.returns-clause-read
returns-clause-read c =
    line_read c.args.limits c.args.self.now _ c.args.line.now _ c.take.result c.in_ok-said.ensures.reads c.in_ok-said.ensures.suits
    c.take.ensures.taken c.take.ensures.happens c.take.ensures.joins
