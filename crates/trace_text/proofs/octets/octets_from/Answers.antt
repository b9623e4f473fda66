use Rattle.std.proofs.Common.{◌+◌, List, ℕ, take, drop, sym, ◌∙◌, arith}
use Rattle.trace_text.proofs.DigitVectors.{parts_are, part_long, digits_valued, digits_none}
use Rattle.trace_text.proofs.octets.octets_from.Goals as goal

pub returns-then-not-are_values : goal.returns-then-not-are_values
returns-then-not-are_values c =
    let text : List ℕ = c.args.digits.now in
    let start : ℕ = c.args.start in
    let a : List ℕ = take 16 (drop start text) in
    let b : List ℕ = take 16 (drop (start + 16) text) in
    let long = part_long text start c.requires in
    digits_none (take 32 (drop start text)) a b c.digit_values-first.result c.digit_values-second.result (parts_are text start c.requires)
    c.digit_values-first.ensures c.digit_values-second.ensures (omega (arith, long)) (sym c.are_values.ensures ∙ c.if-not-are_values.true)

pub returns : goal.returns
returns c =
    let text : List ℕ = c.args.digits.now in
    let start : ℕ = c.args.start in
    let a : List ℕ = take 16 (drop start text) in
    let b : List ℕ = take 16 (drop (start + 16) text) in
    sym (c.joined.ensures (take 32 (drop start text)) (digits_valued (take 32 (drop start text)) a b c.digit_values-first.result c.digit_values-second.result (parts_are text start c.requires)
    c.digit_values-first.ensures c.digit_values-second.ensures (sym c.are_values.ensures ∙ c.if-not-are_values.false)))
