use Rattle.space_stage.proofs.Overlays.{length-laid, get_or-laid}
use Rattle.space_stage.proofs.overlay.laid.Goals as goal

pub returns-clause-size : goal.returns-clause-size
returns-clause-size c = length-laid c.args.lines c.args.octets c.args.row c.args.line c.fits-lines.0 c.fits-octets.0 c.fits-row.0

pub returns-clause-octets : goal.returns-clause-octets
returns-clause-octets c = get_or-laid c.args.lines c.args.octets c.args.row c.args.line c.fits-lines.0 c.fits-octets.0 c.fits-row.0
