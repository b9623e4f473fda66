use Rattle.std.proofs.Common.{codes, decimal}
use Rattle.std.proofs.Transfers.{starts_with_trans}
use Rattle.linked_text.specs.LinkReport.{indication_text}
use Rattle.linked_text.proofs.Fronts.{front_of_extend, line_of}
use Rattle.linked_text.proofs.report.put_link_line.Goals as goal

pub returns-in_err-put_moves-clause-front : goal.returns-in_err-put_moves-clause-front
returns-in_err-put_moves-clause-front c =
    starts_with_trans _ _ _ c.put_moves.ensures.front c.put_indication.ensures.front

pub returns-in_err-put_on_lines-clause-front : goal.returns-in_err-put_on_lines-clause-front
returns-in_err-put_on_lines-clause-front c =
    starts_with_trans _ _ _ c.put_on_lines.ensures.front (starts_with_trans _ _ _ c.put_moves.ensures.front c.put_indication.ensures.front)

pub returns-clause-front : goal.returns-clause-front
returns-clause-front c =
    starts_with_trans _ _ _ (front_of_extend _ _ _ _ c.extend_from_slice.ensures.items) (starts_with_trans _ _ _ c.put_on_lines.ensures.front (starts_with_trans _ _ _ c.put_moves.ensures.front c.put_indication.ensures.front))

pub returns-clause-line : goal.returns-clause-line
returns-clause-line c =
    line_of c.extend_from_slice.result c.args.out.now.items (decimal c.args.number) (codes " link") (indication_text c.args.indication) _ _ _ _ _ _ _ c.in_ok-put_indication.ensures.indication c.in_ok-put_moves.ensures.moves c.in_ok-put_on_lines.ensures.sent c.extend_from_slice.ensures.items
