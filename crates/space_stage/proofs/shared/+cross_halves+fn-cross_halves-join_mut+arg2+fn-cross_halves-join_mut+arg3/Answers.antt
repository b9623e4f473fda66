use Rattle.std.proofs.Common.{rules, ◌≡◌, ◌+◌, ◌-◌, ◌*◌, ◌/◌, length}
use Rattle.std.proofs.iter.Serving.{serving}
use Rattle.frame_buffer.proofs.HalfRows.{front_rows, back_rows, both_hold}
use Rattle.control_memory.specs.Image.{lines_of}
use Rattle.space_stage.specs.Crossing.{AreCrossed, gets}
use Rattle.space_stage.proofs.shared.+cross_halves+fn-cross_halves-join_mut+arg2+fn-cross_halves-join_mut+arg3.Goals as goal

pub join_mut-requires-after_bounds : goal.join_mut-requires-after_bounds
join_mut-requires-after_bounds g t c κs within =
    let lines = lines_of c.args.image.now in
    let slots = c.args.image.now.slots in
    let first = c.args.lines.start in
    let end = c.args.lines.end in
    let whole = length c.args.part.now in
    let size = length c.split_at_mut-front.result.0.now in
    let rest = length c.split_at_mut-front.result.1.now in
    let is : size ≡ ((end - first) / 2) * slots = search rules in
    let all : size + rest ≡ whole = search rules in
    let front = front_rows lines slots first end whole size rest c.requires.part is all in
    let back = back_rows lines slots first end whole size rest c.requires.part is all in
    grind (serving, front, back)

pub returns-clause-octets : goal.returns-clause-octets
returns-clause-octets g t c =
    let m = c.args.image.now in
    let highway = c.args.highway.now in
    let first = c.args.lines.start in
    let half = (c.args.lines.end - first) / 2 in
    let size = length c.split_at_mut-front.result.0.now in
    let rest = length c.split_at_mut-front.result.1.now in
    let low : AreCrossed m highway first size c.front-1.given.0 = search rules in
    let high : AreCrossed m highway (first + half) rest c.back-1.given.0 = search rules in
    both_hold m.slots (gets m highway) first half size rest c.front-1.given.0 c.back-1.given.0 (search rules) low high
