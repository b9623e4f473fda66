use Rattle.std.proofs.Common.{◌<◌, cond, eqb, get_or, ◌∙◌, arith}
use Rattle.space_stage.proofs.Overlays.{front_of, back_of, row_laid}
use Rattle.space_stage.proofs.overlay.lay.Goals as goal

pub returns-clause-octets : goal.returns-clause-octets
returns-clause-octets c =
    let lines = c.args.lines.now in
    let octets = c.args.octets.now in
    let row = c.args.row.now in
    row_laid (λ at. cond (eqb (get_or lines at 0) c.args.line) (get_or octets at 0) (get_or row at 0)) row c.laid-front.result c.laid-back.result c.requires.row c.laid-front.ensures.size c.laid-back.ensures.size
    (λ at early. let low : at < 16 = omega (arith, early) in c.laid-front.ensures.octets at low ∙ (λ i. cond (eqb (front_of lines at low i) c.args.line) (front_of octets at low i) (front_of row at low i)))
    (λ at low. c.laid-back.ensures.octets at low ∙ (λ i. cond (eqb (back_of lines at low i) c.args.line) (back_of octets at low i) (back_of row at low i)))
