use Rattle.std.proofs.Common.{◌∙◌, rules}
use Rattle.frame_buffer.specs.Speech.{octet_in_half}
use Rattle.frame_buffer.specs.Highways.{octet_on}
use Rattle.control_memory.specs.Image.{lines_of, sent, received, read}
use Rattle.control_memory.specs.Carrying.{SendsBy, HoldsCrossing}
use Rattle.control_memory.proofs.Carrying.{crossing_is, fetched_carried}
use Rattle.time_stage.proofs.fabric.carry.Goals as goal

pub returns-clause-octets : goal.returns-clause-octets
returns-clause-octets c layout legal tables at inside near =
    let m = c.args.image.now in
    let octet = octet_in_half c.args.buffer.now.readable in
    let sends : SendsBy (lines_of m) m.slots (sent m) octet (octet_on c.incoming.new.highway) = λ line slot here low. c.incoming.ensures.octets line slot (search rules) (search rules) in
    let holds : HoldsCrossing (lines_of m) m.slots layout octet (octet_on c.cross.new.crossed) =
    λ line slot here low. c.cross.ensures.octets line slot (search rules) (search rules) ∙ crossing_is (lines_of m) m.slots layout (sent m) (received m) (read m) octet legal tables (octet_on c.incoming.new.highway) sends line slot here low in
    c.outgoing.ensures.octets at (search rules) near ∙ fetched_carried (lines_of m) m.slots layout (sent m) (received m) (read m) octet legal tables (octet_on c.cross.new.crossed) holds at inside near
