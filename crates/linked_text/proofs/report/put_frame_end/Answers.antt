use Rattle.std.proofs.Transfers.{starts_with_trans}
use Rattle.linked_text.proofs.Fronts.{front_of_extend}
use Rattle.linked_text.proofs.report.put_frame_end.Goals as goal

pub returns-clause-front : goal.returns-clause-front
returns-clause-front c =
    starts_with_trans _ _ _ (front_of_extend _ _ _ _ c.extend_from_slice.ensures.items) c.put_parts.ensures.front
