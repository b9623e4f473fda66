use Rattle.traffic_gen.proofs.Texts.{text_none}
use Rattle.traffic_gen.proofs.Digits.{connect_digits}
use Rattle.traffic_gen.proofs.callee.Callee.put_connect.Goals as goal

pub returns-in-Line : goal.returns-in-Line
returns-in-Line c = rw c.in-Line.is (c.put_message.ensures _ connect_digits)

pub returns-in-Room : goal.returns-in-Room
returns-in-Room c = rw c.in-Room.is (text_none _)
