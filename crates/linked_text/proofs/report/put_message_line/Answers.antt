use Rattle.std.proofs.Transfers.{starts_with_trans}
use Rattle.linked_text.proofs.Fronts.{front_of_extend}
use Rattle.linked_text.proofs.report.put_message_line.Goals as goal

pub returns-in_err-put_moves-clause-front : goal.returns-in_err-put_moves-clause-front
returns-in_err-put_moves-clause-front c = starts_with_trans _ _ _ c.put_moves.ensures.front c.put_word.ensures.front

pub returns-in_err-put_on_lines-clause-front : goal.returns-in_err-put_on_lines-clause-front
returns-in_err-put_on_lines-clause-front c =
    starts_with_trans _ _ _ c.put_on_lines.ensures.front (starts_with_trans _ _ _ c.put_moves.ensures.front c.put_word.ensures.front)

pub returns-clause-front : goal.returns-clause-front
returns-clause-front c =
    starts_with_trans _ _ _ (front_of_extend _ _ _ _ c.extend_from_slice.ensures.items) (starts_with_trans _ _ _ c.put_on_lines.ensures.front (starts_with_trans _ _ _ c.put_moves.ensures.front c.put_word.ensures.front))
