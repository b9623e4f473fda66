-- How many members there are after a command.
use Rattle.std.proofs.Common.{◌≡◌, ℕ, ◌+◌, Bool, not, List, [], ◌∷◌, Some, refl, sym, ◌∙◌, inl, inr, arith}
use Rattle.std.specs.List.{filter, count_by}
use Rattle.std.proofs.lemmas.Grind.{common_steps}
use Rattle.circuit_model.specs.declared.channel.Slot.{Slot}
use Rattle.circuit_model.specs.declared.circuit.Circuit.{Circuit}
use Rattle.circuit_model.specs.declared.circuit.Circuit.TheVariants.{Member}
use Rattle.circuit_model.specs.Circuits.{names, is_member, heard_by}
use Rattle.circuit_model.specs.Holding.{circuits_naming, Stands, Has_no_circuit, Has_tone, Is_seated, Is_connected}
use Rattle.circuit_model.proofs.Slots.{same_slot-refl, heard_by-naming}

-- what a test takes out and what it leaves
pub count_by-filter_both : {X : Type 0} (p q : X → Bool) (xs : List X) → count_by p (filter (λ x. not (q x)) xs) + count_by p (filter q xs) ≡ count_by p xs
count_by-filter_both p q [] = refl
count_by-filter_both p q (x ∷ xs) = let rest = count_by-filter_both p q xs in grind (arith, common_steps)

-- a member that is cleared is one member fewer
members_named-seat : (circuits : List Circuit) (x : Slot) (room since : ℕ) → Stands circuits x → heard_by (circuits_naming circuits x) x ≡ Some (Member room x since) → count_by is_member (circuits_naming circuits x) ≡ 1
members_named-seat circuits x room since (Has_no_circuit e) hears = let no = rw e at hears in absurd (grind (arith, common_steps))
members_named-seat circuits x room since (Has_tone kind s e) hears = let same = same_slot-refl x in let no = rw e at hears in absurd (grind (arith, common_steps))
members_named-seat circuits x room since (Is_seated r s e) hears = rw e refl
members_named-seat circuits x room since (Is_connected y s apart (inl e)) hears = let same = same_slot-refl x in let no = rw e at hears in absurd (grind (arith, common_steps))
members_named-seat circuits x room since (Is_connected y s apart (inr e)) hears = let same = same_slot-refl x in let no = rw e at hears in absurd (grind (arith, common_steps))

pub count-clear_member : (circuits : List Circuit) (x : Slot) (room since : ℕ) → Stands circuits x → heard_by circuits x ≡ Some (Member room x since) → count_by is_member (filter (λ c. not (names x c)) circuits) + 1 ≡ count_by is_member circuits
count-clear_member circuits x room since s hears =
    omega (arith, count_by-filter_both is_member (names x) circuits, members_named-seat circuits x room since s (heard_by-naming circuits x ∙ hears))

-- any other slot that is cleared leaves the members alone
members_named-other : (circuits : List Circuit) (x : Slot) → Stands circuits x → ((room since : ℕ) → ¬ (heard_by (circuits_naming circuits x) x ≡ Some (Member room x since))) → count_by is_member (circuits_naming circuits x) ≡ 0
members_named-other circuits x (Has_no_circuit e) other = rw e refl
members_named-other circuits x (Has_tone kind s e) other = rw e refl
members_named-other circuits x (Is_seated r s e) other = absurd (other r s (rw e (let same = same_slot-refl x in grind (arith, common_steps))))
members_named-other circuits x (Is_connected y s apart (inl e)) other = rw e refl
members_named-other circuits x (Is_connected y s apart (inr e)) other = rw e refl

pub count-clear_other : (circuits : List Circuit) (x : Slot) → Stands circuits x → ((room since : ℕ) → ¬ (heard_by circuits x ≡ Some (Member room x since))) → count_by is_member (filter (λ c. not (names x c)) circuits) ≡ count_by is_member circuits
count-clear_other circuits x s other =
    omega (arith, count_by-filter_both is_member (names x) circuits, members_named-other circuits x s (λ room since e. other room since (sym (heard_by-naming circuits x) ∙ e)))
