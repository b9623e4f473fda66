use Rattle.std.proofs.Common.{◌≡◌, ◌+◌, ◌*◌, ◌-◌, ◌++◌, ◌∷◌, [], List, ℕ, OnOk, codes, length, decimal, replicate, subst, refl, ap, ◌∙◌, arith}
use Rattle.std.proofs.lemmas.Fmt.{length-decimal-le}
use Rattle.hex.specs.Hex.{encode_upper}
use Rattle.report_text.proofs.Texts.{near_line, worded_line, out_opening}
use Rattle.report_text.proofs.message.put_near_opening.Goals as goal

pub put_line_before-start-requires : goal.put_line_before-start-requires
put_line_before-start-requires c =
    let short = length-decimal-le 2 c.args.line (omega arith) (omega (arith, c.requires)) (omega (arith, c.requires)) in
    (omega (arith, short), omega (arith, c.put_few_digits.ensures.size))

pub put_before-start-requires : goal.put_before-start-requires
put_before-start-requires c =
    let short = length-decimal-le 2 c.args.line (omega arith) (omega (arith, c.requires)) (omega (arith, c.requires)) in
    (omega (arith, short, c.put_line_before-start.ensures.start), omega (arith, c.put_line_before-start.ensures.start, c.put_line_before-start.ensures.size, c.put_few_digits.ensures.size))

pub put_number_before-start-requires : goal.put_number_before-start-requires
put_number_before-start-requires c =
    let short = length-decimal-le 2 c.args.line (omega arith) (omega (arith, c.requires)) (omega (arith, c.requires)) in (
      omega (arith, short, c.put_line_before-start.ensures.start, c.put_before-start.ensures.start),
      omega (arith, c.put_line_before-start.ensures.start, c.put_before-start.ensures.start, c.put_before-start.ensures.size, c.put_line_before-start.ensures.size, c.put_few_digits.ensures.size),
    )

pub returns-clause-opening : goal.returns-clause-opening
returns-clause-opening c =
    let size : length c.put_few_digits.new.text ≡ 86 = c.put_few_digits.ensures.size in
    let short = length-decimal-le 2 c.args.line (omega arith) (omega (arith, c.requires)) (omega (arith, c.requires)) in
    let text : List ℕ = c.put_number_before-start.new.text in
    let start : ℕ = c.put_number_before-start.result in
    let whole : length text ≡ 86 = c.put_number_before-start.ensures.size ∙ c.put_before-start.ensures.size ∙ c.put_line_before-start.ensures.size ∙ size in
    let out : List ℕ = c.args.out.now.items in
    let word : List ℕ = codes " message" in
    let line : List ℕ = 32 ∷ (decimal c.args.line ++ 58 ∷ [] ++ encode_upper c.args.octets.now) in
    let worded = worded_line (decimal c.args.event) word _ _ _ c.put_before-start.ensures.written c.put_number_before-start.ensures.written in
    let written = near_line (replicate 86 0) c.put_few_digits.new.text c.put_line_before-start.new.text text (decimal c.args.event ++ word) (decimal c.args.line) (encode_upper c.args.octets.now)
    86 22 c.put_line_before-start.result start (2 * length c.args.octets.now) (start + 64 - start) refl size whole c.put_few_digits.ensures.digits (omega (arith, c.requires))
    c.put_line_before-start.ensures.written worded
    (omega (arith, c.put_line_before-start.ensures.start, c.put_before-start.ensures.start, c.put_number_before-start.ensures.start))
    (omega (arith, short, c.requires, c.put_line_before-start.ensures.start, c.put_before-start.ensures.start, c.put_number_before-start.ensures.room)) in
    subst (λ (l : List ℕ). OnOk c.append_front.result (c.append_front.new.out.items ≡ l)) (ap (λ l. out ++ l) written ∙ out_opening out (decimal c.args.event) word line) c.append_front.ensures.front_of_text
