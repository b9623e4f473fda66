use Rattle.std.proofs.Common.{◌≡◌, ℕ, ◌*◌, ◌/◌, ◌%◌, ◌<◌, get_or, length, sym, ap, ◌∙◌, subst, arith, rules}
use Rattle.std.proofs.lemmas.List.{get_or_default}
use Rattle.std.proofs.Math.Nat.{div-add-mod}
use Rattle.std.specs.Int.{bit_at}
use Rattle.control_memory.specs.HeardRows.{tone_bit}
use Rattle.control_memory.proofs.HeardLines.{heard_set}
use Rattle.control_memory.proofs.heard_table.HeardTable.set.Goals as goal

pub invariant_of-self : goal.invariant_of-self
invariant_of-self c =
    let t = c.self.inside in
    let line : ℕ = c.args.number / c.from.result in
    let wide : c.from-2.result ≡ 30 = search rules in
    let stored : c.from-3.result ≡ c.args.heard = search rules in
    let near : c.args.number < 30 * t.lines = search rules in
    let inside : line < length t.tones.items =
    let high : c.from.result ≡ 30 = search rules in
    let row : line ≡ c.args.number / 30 = ap (λ n. c.args.number / n) high in
    let whole = div-add-mod c.args.number 30 in
    omega (arith, row, whole, near, c.self.invariant.words)
    in
    let found : c.index.result.now ≡ get_or t.tones.items line c.index.result.now = search rules in
    let read : c.index.result.now ≡ get_or t.tones.items line 0 = found ∙ sym (get_or_default t.tones.items line 0 c.index.result.now inside) in
    let bit = subst (λ n. bit_at c.tones_with.result (c.args.number % n) ≡ tone_bit c.args.heard) wide c.tones_with.ensures.here ∙ sym (ap tone_bit stored) in
    heard_set t.lines t.words.items t.marks t.tones.items _ c.args.number _ _ c.self.invariant (search rules) near bit (λ k small other.
    c.tones_with.ensures.others k small (λ e. other (e ∙ ap (λ n. c.args.number % n) wide)) ∙ ap (λ w. bit_at w k) read)
