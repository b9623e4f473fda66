-- A path that is added: which paths have moved, which slots are joined, and that the rule adds it in the lowest common slot.
use Rattle.std.proofs.Common.{◌≡◌, ℕ, zero, suc, ◌+◌, ◌*◌, ◌<◌, ◌&&◌, ◌⊎◌, Bool, true, cond, not, Option, Some, None, [], ◌∷◌, length, get_or, set, refl, sym, ◌∙◌, ap, subst, inl, inr, ⊎_elim, arith, length-set}
use Rattle.std.specs.Prelude.{◌==◌}
use Rattle.std.proofs.lemmas.Bool.{eq-eqb}
use Rattle.circuit_model.specs.declared.channel.Slot.{Slot}
use Rattle.circuit_model.specs.Circuits.{same_slot}
use Rattle.circuit_model.proofs.Slots.{same_slot-refl}
use Rattle.control_memory.specs.declared.route.Route.{Route}
use Rattle.control_memory.specs.Layout.{Layout, number_of, hop_of, IsSlot, HasPath, Joins}
use Rattle.control_memory.specs.Connecting.{with_path, connect, connect_in, common_slot, moved, is_moved}
use Rattle.control_memory.specs.Paths.{Fabric}
use Rattle.control_memory.proofs.Steps.{number_inside, IsNew, new_or_old, hop_here, hop_else}

-- ---- how many paths have moved
pub is_moved_same_hop : (h k : Route) (b c : Bool) → same_slot h.to k.to ≡ b → (h.slot == k.slot) ≡ c → is_moved (Some h) (Some k) ≡ cond (b && not c) 1 0
is_moved_same_hop h k b c to slot = ap (λ t. cond (t && not (h.slot == k.slot)) 1 0) to ∙ ap (λ t. cond (b && not t) 1 0) slot

pub not_moved : (h : Route) → is_moved (Some h) (Some h) ≡ 0
not_moved h = is_moved_same_hop h h true true (same_slot-refl h.to) (eq-eqb h.slot h.slot refl)

pub moved_same : (layout : Layout) → moved layout layout ≡ 0
moved_same [] = refl
moved_same (None ∷ hops) = ap (λ n. 0 + n) (moved_same hops)
moved_same (Some h ∷ hops) = ap (λ n. n + moved hops hops) (not_moved h) ∙ ap (λ n. 0 + n) (moved_same hops)

-- one hop is written
pub moved_set : (before after : Layout) (n : ℕ) (v : Option Route) → length before ≡ length after → n < length after → moved before (set after n v) + is_moved (get_or before n None) (get_or after n None) ≡ moved before after + is_moved (get_or before n None) v
moved_set [] [] n v same inside = absurd (omega (arith, inside))
moved_set [] (a ∷ rest) n v same inside = absurd (omega (arith, same))
moved_set (b ∷ bs) [] n v same inside = absurd (omega (arith, same))
moved_set (b ∷ bs) (a ∷ rest) zero v same inside = omega arith
moved_set (b ∷ bs) (a ∷ rest) (suc n) v same inside = let later = moved_set bs rest n v (omega (arith, same)) (omega (arith, inside)) in omega (arith, later)

-- a new path has not moved
pub moved_new_unmoved : (lines : ℕ) (before after : Layout) (from to : Slot) (slot : ℕ) → length before ≡ 30 * lines → length after ≡ 30 * lines → IsSlot lines from → hop_of before from ≡ None → moved before (with_path after from to slot) ≡ moved before after
moved_new_unmoved lines before after from to slot size_b size_a inside free =
    let step = moved_set before after (number_of from) (Some (record { to = to; slot = slot })) (size_b ∙ sym size_a) (let n = number_inside lines from inside in omega (arith, n, size_a)) in
    let was = ap (λ h. is_moved h (get_or after (number_of from) None)) free in
    let is = ap (λ h. is_moved h (Some (record { to = to; slot = slot }))) free in
    omega (arith, step, was, is)

-- which slots are joined afterwards
pub pairs_after : (lines : ℕ) (layout before : Layout) (from to : Slot) (slot : ℕ) → length before ≡ 30 * lines → IsSlot lines from → hop_of before from ≡ None
    → ((x y : Slot) → IsSlot lines x → (Joins before x y → Joins layout x y) × (Joins layout x y → Joins before x y))
    → (x y : Slot) → IsSlot lines x → (Joins (with_path before from to slot) x y → Joins layout x y ⊎ ((x ≡ from) × (y ≡ to))) × (Joins layout x y ⊎ ((x ≡ from) × (y ≡ to)) → Joins (with_path before from to slot) x y)
pairs_after lines layout before from to slot size inside free joins x y in_x = (
  λ j. ⊎_elim (λ (n : IsNew from to slot x y j.0). inr (n.0, n.1)) (λ (old : (x ≡ from → ⊥) × HasPath before x y j.0). inl ((joins x y in_x).0 (j.0, old.1))) (new_or_old lines before from to slot size inside x y j.0 in_x j.1),
  λ either. ⊎_elim
      (λ (was : Joins layout x y).
      let j = (joins x y in_x).1 was in
      let apart : x ≡ from → ⊥ = λ same. let wrong = sym (subst (λ z. HasPath before z y j.0) same j.1) ∙ free in cc in
      (j.0, hop_else before from to slot x in_x.1 inside.1 apart ∙ j.1))
      (λ (new : (x ≡ from) × (y ≡ to)). (slot, subst (λ z. HasPath (with_path before from to slot) z y slot) (sym new.0) (subst (λ z. HasPath (with_path before from to slot) from z slot) (sym new.1) (hop_here lines before from to slot size inside))))
      either,
)

-- ---- a path that is added in the lowest common slot is added by the rule
pub record AddedInCommon (f : Fabric) (after : Layout) (from to : Slot) : Type 0 where
  pub joined : after ≡ connect f.lines f.slots f.layout from to
  pub pairs : (x y : Slot) → IsSlot f.lines x → (Joins after x y → Joins f.layout x y ⊎ ((x ≡ from) × (y ≡ to))) × (Joins f.layout x y ⊎ ((x ≡ from) × (y ≡ to)) → Joins after x y)
  pub none_moved : moved f.layout after ≡ 0

pub added_in_common : (f : Fabric) (from to : Slot) (slot : ℕ) → length f.layout ≡ 30 * f.lines → IsSlot f.lines from → hop_of f.layout from ≡ None → common_slot f.slots f.layout from.line to.line ≡ Some slot → AddedInCommon f (with_path f.layout from to slot) from to
added_in_common f from to slot size inside free common = record {
  joined = sym (ap (connect_in f.lines f.slots f.layout from to) common);
  pairs = pairs_after f.lines f.layout f.layout from to slot size inside free (λ x y in_x. (λ j. j, λ j. j));
  none_moved = moved_new_unmoved f.lines f.layout f.layout from to slot size size inside free ∙ moved_same f.layout;
}

-- the same for a call that added it: what it was called on, and what it left
pub added_by : (f now after : Fabric) → f ≡ now → (from to : Slot) (slot : ℕ) → IsSlot now.lines from → hop_of now.layout from ≡ None → Some slot ≡ common_slot f.slots f.layout from.line to.line
    → after.layout ≡ with_path f.layout from to slot → after.lines ≡ f.lines → length after.layout ≡ 30 * after.lines → AddedInCommon now after.layout from to
added_by f now after is from to slot inside free common layout lines size =
    subst (λ (x : Fabric). AddedInCommon x after.layout from to) is
    (subst (λ l. AddedInCommon f l from to) (sym layout)
    (added_in_common f from to slot
    (sym (ap length layout ∙ length-set f.layout (number_of from) _) ∙ size ∙ ap (λ n. 30 * n) lines)
    (subst (λ (x : Fabric). IsSlot x.lines from) (sym is) inside) (subst (λ (x : Fabric). hop_of x.layout from ≡ None) (sym is) free) (sym common)))
