use Rattle.frame_buffer.proofs.Frames.{get_or-replicate_idle}
use Rattle.frame_buffer.proofs.delay_line.octets_sent.Goals as goal

pub returns-in-None : goal.returns-in-None
returns-in-None c place = rw (c.in-None.is) (get_or-replicate_idle 30 place)
