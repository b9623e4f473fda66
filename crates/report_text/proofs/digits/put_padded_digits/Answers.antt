use Rattle.std.proofs.Common.{◌≡◌, ◌∙◌, ◌-◌, ◌*◌, List, ℕ, length, take, replicate, ap, arith}
use Rattle.circuit_model.specs.FrameInput.{idle_octet}
use Rattle.report_text.proofs.Wide.{wide_digits}
use Rattle.report_text.proofs.Woven.{wide_written}
use Rattle.report_text.proofs.digits.put_padded_digits.Goals as goal

pub returns : goal.returns
returns c =
    let octets : List ℕ = c.args.octets.now in
    let row : List ℕ = c.wide_row-row.result in
    let long : length row ≡ 32 = grind arith in
    let size = c.put_sixteen-2.ensures.size ∙ c.put_sixteen.ensures.size ∙ c.told-text in
    ap (take (2 * length octets)) (wide_written c.args.text.now c.put_sixteen.new.text c.put_sixteen-2.new.text row c.told-text size long c.put_sixteen.ensures.digits c.put_sixteen-2.ensures.digits)
    ∙ wide_digits octets (replicate (32 - length octets) idle_octet) row c.wide_row-row.ensures
