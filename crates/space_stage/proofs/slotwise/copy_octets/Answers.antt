use Rattle.std.proofs.Common.{◌≡◌, ℕ, ◌+◌, ◌-◌, ◌*◌, ◌<◌, take, drop, get_or, get_or-drop, get_or-take, length-take-le, length, length-drop, subst, ap, ◌∙◌, arith, rules}
use Rattle.frame_buffer.specs.Highways.{octet_on}
use Rattle.space_stage.proofs.slotwise.copy_octets.Goals as goal

pub returns : goal.returns
returns c line slot inside near =
    let h = c.args.highway.now in
    let whole = c.rows_with_idle_first.result.now in
    let size : length whole ≡ (h.lines + 1) * 30 = subst (λ w. length whole ≡ (h.lines + 1) * w) c.requires.slots c.rows_with_idle_first.ensures.size in
    let sent = subst (λ w. (l s : ℕ) → s < w → get_or whole ((l + 1) * w + s) 0 ≡ octet_on h l s) c.requires.slots c.rows_with_idle_first.ensures.lines in
    let there : 30 + (line * 30 + slot) ≡ (line + 1) * 30 + slot = omega arith in
    let rest : ℕ = length whole - 30 in
    let all : length (take rest (drop 30 whole)) ≡ rest = length-take-le rest (drop 30 whole) (omega (arith, length-drop 30 whole)) in
    let inner : line * 30 + slot < rest = omega (arith, size, inside, near) in
    let within : line * 30 + slot < length (take rest (drop 30 whole)) = omega (arith, all, inner) in
    c.copy_front.ensures (line * 30 + slot) within ∙ get_or-take rest (drop 30 whole) (line * 30 + slot) 0 inner ∙ get_or-drop 30 whole (line * 30 + slot) 0 ∙ ap (λ i. get_or whole i 0) there ∙ sent line slot near
