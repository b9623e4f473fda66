use Rattle.std.proofs.Transfers.{starts_with_trans}
use Rattle.linked_text.proofs.Fronts.{front_of_extend}
use Rattle.linked_text.proofs.report.put_one_sent.Goals as goal

pub returns-in_err-extend_from_slice-clause-front : goal.returns-in_err-extend_from_slice-clause-front
returns-in_err-extend_from_slice-clause-front c = front_of_extend _ _ _ _ c.extend_from_slice.ensures.items

pub returns-clause-front : goal.returns-clause-front
returns-clause-front c =
    starts_with_trans _ _ _ c.put_on_line.ensures.front (front_of_extend _ _ _ _ c.extend_from_slice.ensures.items)
