-- Whom each slot hears after a command.
use Rattle.std.proofs.Common.{◌≡◌, ℕ, true, List, [], ◌∷◌, ◌++◌, Some, None, sym, ◌∙◌, ap, inl, inr, arith, if◌then◌else◌, subst}
use Rattle.std.specs.List.{Contains}
use Rattle.std.specs.Option.{option_or}
use Rattle.std.proofs.lemmas.Grind.{common_steps}
use Rattle.std.proofs.lemmas.List.Folds.{find-append}
use Rattle.circuit_model.specs.declared.channel.Slot.{Slot}
use Rattle.circuit_model.specs.declared.circuit.Circuit.{Circuit}
use Rattle.circuit_model.specs.declared.circuit.Circuit.TheVariants.{Pair}
use Rattle.circuit_model.specs.Circuits.{same_slot, listener, is_idle, heard_by}
use Rattle.circuit_model.proofs.Age.{at_head, in_tail}
use Rattle.circuit_model.proofs.Slots.{true_or_false, same_slot-refl, same_slot-true, same_slot_cases, heard_by_idle_is_deaf}

-- a slot hears the first of what was there and of what came, in that order
pub heard_by-append : (circuits new : List Circuit) (z : Slot) → heard_by (circuits ++ new) z ≡ option_or (heard_by circuits z) (heard_by new z)
heard_by-append circuits new z = find-append (λ c. same_slot z (listener c)) circuits new

-- what came is heard by a slot that was idle
pub heard_by-idle : (circuits new : List Circuit) (z : Slot) → is_idle circuits z ≡ true → heard_by (circuits ++ new) z ≡ heard_by new z
heard_by-idle circuits new z idle = heard_by-append circuits new z ∙ ap (λ o. option_or o (heard_by new z)) (heard_by_idle_is_deaf circuits z idle)

-- what came and isn't for a slot leaves it as it was
pub heard_by-other : (circuits new : List Circuit) (z : Slot) → heard_by new z ≡ None → heard_by (circuits ++ new) z ≡ heard_by circuits z
heard_by-other circuits new z none = let e = heard_by-append circuits new z in grind (arith, common_steps)

-- a new circuit is heard by the slot that it is for, which was idle, and nothing else changes
pub heard_by-one : (circuits : List Circuit) (new : Circuit) (z : Slot) → is_idle circuits (listener new) ≡ true → heard_by (circuits ++ new ∷ []) z ≡ (if same_slot z (listener new) then Some new else heard_by circuits z)
heard_by-one circuits new z idle =
    elim (true_or_false (same_slot z (listener new))) [
      | inl here ↦ let same = same_slot-true z (listener new) here in let e = heard_by-append circuits (new ∷ []) z in let deaf = heard_by_idle_is_deaf circuits (listener new) idle in grind (arith, common_steps)
      | inr away ↦ let e = heard_by-append circuits (new ∷ []) z in grind (arith, common_steps)
    ]

-- a new connection is heard by its two slots, which were idle, and nothing else changes
pub heard_by-two : (circuits : List Circuit) (x y z : Slot) (n : ℕ) → is_idle circuits x ≡ true → is_idle circuits y ≡ true → heard_by (circuits ++ Pair x y n ∷ Pair y x n ∷ []) z ≡ (if same_slot z x then Some (Pair y x n) else if same_slot z y then Some (Pair x y n) else heard_by circuits z)
heard_by-two circuits x y z n idle_x idle_y =
    let e = heard_by-append circuits (Pair x y n ∷ Pair y x n ∷ []) z in
    elim (same_slot_cases z x) [
      | inl at_x ↦ let deaf : heard_by circuits z ≡ None = rw at_x (heard_by_idle_is_deaf circuits x idle_x) in let same = same_slot-refl x in elim (same_slot_cases z y) [
        | inl at_y ↦ let both : x ≡ y = sym at_x ∙ at_y in grind (arith, common_steps)
        | inr off_y ↦ grind (arith, common_steps)
      ]
      | inr off_x ↦ elim (same_slot_cases z y) [
        | inl at_y ↦ let deaf : heard_by circuits z ≡ None = rw at_y (heard_by_idle_is_deaf circuits y idle_y) in grind (arith, common_steps)
        | inr off_y ↦ grind (arith, common_steps)
      ]
    ]

-- what a slot hears by exists, and is for it
pub heard_by-stands : (circuits : List Circuit) (x : Slot) (c : Circuit) → heard_by circuits x ≡ Some c → Contains circuits c × (same_slot x (listener c) ≡ true)
heard_by-stands [] x c hears = absurd (grind (arith, common_steps))
heard_by-stands (d ∷ ds) x c hears =
    elim (true_or_false (same_slot x (listener d))) [
      | inl here ↦ let same : d ≡ c = grind (arith, common_steps) in (at_head d ds c same, subst (λ e. same_slot x (listener e) ≡ true) same here)
      | inr away ↦ let rest = heard_by-stands ds x c (grind (arith, common_steps)) in (in_tail d ds c rest.0, rest.1)
    ]
