use Rattle.std.proofs.Common.{drop}
use Rattle.linked_text.proofs.SentLemmas.{on_lines_end}
use Rattle.std.proofs.Transfers.{starts_with_trans}
use Rattle.linked_text.proofs.report.put_on_lines.Goals as goal

pub returns-in_default-clause-sent : goal.returns-in_default-clause-sent
returns-in_default-clause-sent c =
    on_lines_end c.loop-line.out.items (drop c.loop-line.line-index c.args.lines.now) c.loop-line.rest.now _ c.in_default.ensures.cases c.loop-line.invariant.done

pub returns-in_err-put_on_line-clause-front : goal.returns-in_err-put_on_line-clause-front
returns-in_err-put_on_line-clause-front c = starts_with_trans _ _ _ c.put_on_line.ensures.front c.loop-line.invariant.front
