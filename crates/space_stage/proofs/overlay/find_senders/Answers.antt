use Rattle.std.proofs.Common.{rules, ◌<◌, length}
use Rattle.frame_buffer.specs.Highways.{octet_on}
use Rattle.space_stage.proofs.Overlays.{more_inside, more_silent}
use Rattle.space_stage.proofs.overlay.find_senders.Goals as goal

pub loop-line-preserved : goal.loop-line-preserved
loop-line-preserved c =
    let l = c.loop-line in
    let room : c.loop-line.count < length c.loop-line.senders = search rules in
    record {
      few = search rules;
      inside = more_inside l.senders l.count l.line room l.invariant.inside;
      silent = more_silent (octet_on c.args.highway.now) l.senders l.count l.line room l.invariant.silent;
    }
