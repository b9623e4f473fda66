use Rattle.std.proofs.Common.{◌≡◌, ◌-◌, List, ℕ, length, get_or, take, drop, arith}
use Rattle.trace_text.specs.TracePlain.{SlotAt}
use Rattle.trace_text.proofs.PlainLemmas.{free_gives}
use Rattle.trace_text.proofs.plain.plain_free.Goals as goal

pub returns : goal.returns
returns c =
    let line : List ℕ = c.args.line.now in
    let p : get_or line 0 0 ≡ 102 = grind arith in
    let q : get_or line 1 0 ≡ 114 = grind arith in
    let r : get_or line 2 0 ≡ 101 = grind arith in
    let u : get_or line 3 0 ≡ 101 = grind arith in
    let v : get_or line 4 0 ≡ 32 = grind arith in
    let at : SlotAt c.args.external (take (length line - 5) (drop 5 line)) c.in_ok-slot.slot c.in_ok-slot.others.now = grind arith in
    let none : length c.in_ok-slot.others.now ≡ 0 = grind arith in
    free_gives c.args.external line c.in_ok-slot.others.now c.in_ok-slot.slot c.in-102.len_at_least p q r u v at none
