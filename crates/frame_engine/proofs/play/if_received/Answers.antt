use Rattle.std.proofs.Common.{rules, ◌≡◌, ℕ, ◌<◌, ◌-◌, bit_and, bit_or, sym, ap, ◌∙◌}
use Rattle.std.specs.Int.Bits.{or_zero_r, and_zero_r}
use Rattle.std.proofs.Math.Nat.{mod-eq_of_lt}
use Rattle.std.proofs.lemmas.Nat.{and_mask}
use Rattle.std.proofs.lemmas.Bool.{cond-true, cond-false}
use Rattle.circuit_model.specs.FrameInput.{idle_octet}
use Rattle.frame_engine.proofs.play.if_received.Goals as goal
use Rattle.frame_engine.proofs.play.if_received.Goals.{then-is_received, else-is_received}

-- the octet under one mask, and the idle octet under the other
abbrev selected : ℕ → ℕ → ℕ
selected octet mask = bit_or (bit_and octet mask) (bit_and 213 (255 - mask))

kept : (octet : ℕ) → octet < 256 → selected octet 255 ≡ octet
kept octet small = or_zero_r (bit_and octet 255) ∙ and_mask octet 8 ∙ mod-eq_of_lt small

replaced : (octet : ℕ) → selected octet 0 ≡ 213
replaced octet = ap (λ rest. bit_or rest 213) (and_zero_r octet)

pub returns : goal.returns
returns c = elim c.if-is_received.branch [
  | then-is_received w ↦
      ap (selected c.args.octet) w.mask-is ∙ kept c.args.octet (search rules)
      ∙ sym (cond-true c.args.is_received c.args.octet idle_octet w.if-is_received.true)
  | else-is_received w ↦
      ap (selected c.args.octet) w.mask-is ∙ replaced c.args.octet
      ∙ sym (cond-false c.args.is_received c.args.octet idle_octet w.if-is_received.false)
]
