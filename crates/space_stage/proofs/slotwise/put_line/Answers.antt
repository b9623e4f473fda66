use Rattle.std.proofs.Common.{◌++◌, take, get_or}
use Rattle.space_stage.proofs.Overlays.{row_laid}
use Rattle.space_stage.proofs.SlotRows.{front_joined, back_joined}
use Rattle.space_stage.proofs.slotwise.put_line.Goals as goal

pub returns-clause-octets : goal.returns-clause-octets
returns-clause-octets c =
    let front = c.args.front in
    let back = c.args.back in
    row_laid (λ at. get_or (take 14 front ++ back) at 0) c.args.row.now front back c.requires c.fits-front.0 c.fits-back.0 (front_joined front back c.fits-front.0) (back_joined front back c.fits-front.0)
