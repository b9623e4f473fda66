use Rattle.std.proofs.Common.{rules}
use Rattle.traffic_gen.proofs.Digits.{room_text}
use Rattle.traffic_gen.proofs.traffic.put_room_line.Goals as goal

pub returns : goal.returns
returns c = rw (← room_text) (search rules)
