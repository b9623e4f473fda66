use Rattle.std.proofs.Common.{sym}
use Rattle.circuit_map.proofs.Clearing.{still_joined}
use Rattle.circuit_map.proofs.both_ways.disconnect_both.Goals as goal

pub disconnect-requires-2-clause-stands : goal.disconnect-requires-2-clause-stands
disconnect-requires-2-clause-stands g c =
    still_joined _ _ _ c.args.x c.args.y c.requires.legal.inlets c.disconnect.ensures.layout c.requires.joined.slot_x c.requires.joined.slot_y (λ e. c.requires.joined.distinct (sym e)) c.requires.joined.back
