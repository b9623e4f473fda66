use Rattle.traffic_gen.proofs.Digits.{setup_of_line, setup_of_room}
use Rattle.traffic_gen.proofs.callee.Callee.setup.Goals as goal

pub returns-in-Line : goal.returns-in-Line
returns-in-Line c =
    let within = rw c.in-Line.is at c.requires in
    rw c.in-Line.is (setup_of_line c.in-Line.line within)

pub returns-in-Room : goal.returns-in-Room
returns-in-Room c = rw c.in-Room.is setup_of_room
