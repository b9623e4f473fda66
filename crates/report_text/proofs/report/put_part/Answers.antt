use Rattle.std.proofs.Common.{rules, ◌≡◌, ◌==◌, ◌∙◌, ◌++◌, ◌∷◌, [], false, List, ℕ, length, take, drop, decimal, sym, arith}
use Rattle.std.proofs.lemmas.List.{take_all, length-drop}
use Rattle.std.specs.List.{list_all}
use Rattle.std.proofs.lemmas.Fmt.{length-decimal-le, decimal_nonempty}
use Rattle.circuit_model.specs.FrameInput.{idle_octet}
use Rattle.hex.specs.Hex.{encode_upper}
use Rattle.report_text.proofs.Texts.{later_line}
use Rattle.report_text.proofs.report.put_part.Goals as goal

pub put_line_before-start-requires : goal.put_line_before-start-requires
put_line_before-start-requires c =
    let short = length-decimal-le 2 c.args.line (omega arith) (omega (arith, c.if-line-ge-NEAR_LINES.false)) (omega (arith, c.if-line-ge-NEAR_LINES.false)) in
    (omega (arith, short), grind arith)

pub returns-else-start-eq0-clause-part : goal.returns-else-start-eq0-clause-part
returns-else-start-eq0-clause-part c =
    let octets : List ℕ = c.args.octets.now in
    let text : List ℕ = c.put_line_before-start.new.text in
    let told : list_all (λ octet. octet == idle_octet) octets ≡ false = sym c.is_idle.ensures ∙ c.if-is_idle.false in
    let one = decimal_nonempty c.args.line (omega (arith, c.if-line-ge-NEAR_LINES.false)) in
    let start : c.put_line_before-start.result ≡ 1 = omega (arith, one, c.put_line_before-start.ensures.start, c.if-start-eq0.false) in
    let whole : length text ≡ 64 = grind arith in
    let line : drop 1 text ≡ 32 ∷ (decimal c.args.line ++ 58 ∷ [] ++ encode_upper octets) =
    later_line text (decimal c.args.line) (encode_upper octets) _ c.put_line_before-start.result start c.put_line_before-start.ensures.written c.put_row_digits.ensures in
    let cut : take 63 (drop 1 text) ≡ 32 ∷ (decimal c.args.line ++ 58 ∷ [] ++ encode_upper octets) = take_all 63 (drop 1 text) (omega (arith, length-drop 1 text, whole)) ∙ line in
    rw (told, ← cut) (search rules)
