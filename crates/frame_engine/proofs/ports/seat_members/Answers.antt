use Rattle.std.proofs.Common.{arith}
use Rattle.frame_buffer.specs.Speech.{octet_in_half}
use Rattle.frame_engine.proofs.PortRows.{members-seated}
use Rattle.frame_engine.proofs.ports.seat_members.Goals as goal

pub returns : goal.returns
returns c =
    let past = c.loop-port-test.false in
    let size = c.port_members-seat-items.ensures.size in
    members-seated c.args.image.now (octet_in_half c.args.read.now.readable) c.loop-port.mixer c.loop-port.invariant.size (λ k low. c.loop-port.invariant.done k (omega (arith, past, size, low)))
