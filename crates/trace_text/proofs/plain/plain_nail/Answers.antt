use Rattle.std.proofs.Common.{◌≡◌, ◌-◌, List, ℕ, length, get_or, take, drop, false, sym, ◌∙◌, arith}
use Rattle.std.proofs.lemmas.Bool.{eqb-true}
use Rattle.circuit_model.specs.Circuits.{same_slot}
use Rattle.trace_text.specs.TracePlain.{SlotAt}
use Rattle.trace_text.proofs.PlainLemmas.{nail_gives}
use Rattle.trace_text.proofs.plain.plain_nail.Goals as goal

pub returns : goal.returns
returns c =
    let line : List ℕ = c.args.line.now in
    let rest : List ℕ = c.in_ok-one.behind.now in
    let p : get_or line 0 0 ≡ 110 = grind arith in
    let q : get_or line 1 0 ≡ 97 = grind arith in
    let r : get_or line 2 0 ≡ 105 = grind arith in
    let u : get_or line 3 0 ≡ 108 = grind arith in
    let v : get_or line 4 0 ≡ 32 = grind arith in
    let one : SlotAt c.args.external (take (length line - 5) (drop 5 line)) c.in_ok-one.one rest = grind arith in
    let space : get_or rest 0 0 ≡ 32 = grind arith in
    let other : SlotAt c.args.external (take (length rest - 1) (drop 1 rest)) c.in_ok-other.other c.in_ok-other.others.now = grind arith in
    let none : length c.in_ok-other.others.now ≡ 0 = eqb-true (length c.in_ok-other.others.now) 0 (sym c.is_empty.ensures ∙ c.if-not-is_empty.false) in
    let apart : same_slot c.in_ok-one.one c.in_ok-other.other ≡ false = sym c.eq.ensures ∙ c.if-eq.false in
    nail_gives c.args.external line rest c.in_ok-other.others.now c.in_ok-one.one c.in_ok-other.other c.in-110.len_at_least p q r u v one c.in-32.len_at_least space other none apart
