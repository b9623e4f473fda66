use Rattle.std.proofs.Transfers.{starts_with_trans}
use Rattle.linked_text.proofs.report.put_frame_start.Goals as goal

pub returns-clause-front : goal.returns-clause-front
returns-clause-front c = starts_with_trans _ _ _ c.put_sent_on_lines.ensures.front c.put_pair.ensures.front
