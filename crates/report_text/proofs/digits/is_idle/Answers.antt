use Rattle.std.proofs.Common.{◌≡◌, ◌∙◌, List, ℕ, length, take, drop, ap, length-drop, arith}
use Rattle.std.proofs.lemmas.List.{take_all, length-take-le}
use Rattle.report_text.proofs.Rows.{idle_row}
use Rattle.report_text.proofs.digits.is_idle.Goals as goal

pub returns : goal.returns
returns c =
    let row : List ℕ = c.args.octets.now in
    let sixteen : length (take 16 row) ≡ 16 = length-take-le 16 row (omega (arith, c.told-octets)) in
    let last : take 16 (drop 14 row) ≡ drop 14 row = take_all 16 (drop 14 row) (omega (arith, length-drop 14 row, c.told-octets)) in
    idle_row row (take 16 (take 16 row)) (take 16 (take 16 (drop 14 row))) c.are_sixteen_idle.result c.are_sixteen_idle-2.result c.told-octets
    (take_all 16 (take 16 row) (omega (arith, sixteen))) (ap (take 16) last ∙ last) c.are_sixteen_idle.ensures c.are_sixteen_idle-2.ensures
