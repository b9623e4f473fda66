use Rattle.std.proofs.Common.{rules, ◌≡◌, ◌+◌, ◌*◌, ◌-◌, ◌++◌, ◌∷◌, [], List, ℕ, length, take, drop, decimal, length-drop, sym, arith}
use Rattle.std.proofs.lemmas.Fmt.{length-decimal-le}
use Rattle.hex.specs.Hex.{encode_upper}
use Rattle.report_text.proofs.Texts.{first_digits}
use Rattle.report_text.proofs.message.put_first.Goals as goal

pub put_line_before-start-requires : goal.put_line_before-start-requires
put_line_before-start-requires c =
    let short = length-decimal-le 20 c.args.line (omega arith) (omega (arith, c.ranges.line.fits)) (omega (arith, c.ranges.line.fits)) in
    (omega (arith, short), grind arith)

pub returns-clause-first : goal.returns-clause-first
returns-clause-first c =
    let octets : List ℕ = c.args.octets.now in
    let count : ℕ = 2 * length octets in
    let few : List ℕ = drop 22 c.put_digits.new.text in
    let start : ℕ = c.put_line_before-start.result in
    let text : List ℕ = c.put_line_before-start.new.text in
    let whole : length c.put_digits.new.text ≡ 86 = grind arith in
    let part : take (22 + count - start) (drop start text) ≡ 32 ∷ (decimal c.args.line ++ 58 ∷ []) ++ encode_upper octets =
    first_digits text (32 ∷ (decimal c.args.line ++ 58 ∷ [])) few (encode_upper octets) start count (grind arith) (omega (arith, c.put_line_before-start.ensures.start))
    (omega (arith, whole, length-drop 22 c.put_digits.new.text)) c.put_line_before-start.ensures.written c.put_digits.ensures in
    rw (sym part) (search rules)
