-- Slots, the circuits that name them, and the one by which each hears.
use Rattle.std.proofs.Common.{◌≡◌, Bool, true, false, ◌⊎◌, List, [], ◌∷◌, None, refl, sym, ◌∙◌, ap, inl, inr, ⊎_elim, arith}
use Rattle.std.specs.List.{filter, find}
use Rattle.std.proofs.lemmas.Grind.{common_steps}
use Rattle.circuit_model.specs.declared.channel.Slot.{Slot}
use Rattle.circuit_model.specs.declared.circuit.Circuit.{Circuit}
use Rattle.circuit_model.specs.declared.circuit.Circuit.TheVariants.{Pair, Member, Tone}
use Rattle.circuit_model.specs.Circuits.{same_slot, listener, names, is_idle, heard_by}
use Rattle.circuit_model.specs.Holding.{circuits_naming}

pub true_or_false : (b : Bool) → (b ≡ true) ⊎ (b ≡ false)
true_or_false true = inl refl
true_or_false false = inr refl

-- ---- one slot or two
pub same_slot-refl : (x : Slot) → same_slot x x ≡ true
same_slot-refl x = grind (arith, common_steps)

pub same_slot-true : (x y : Slot) → same_slot x y ≡ true → x ≡ y
same_slot-true x y h = grind (arith, common_steps)

pub same_slot_cases : (x y : Slot) → (x ≡ y) ⊎ (same_slot x y ≡ false)
same_slot_cases x y = ⊎_elim (λ (h : same_slot x y ≡ true). inl (same_slot-true x y h)) (λ (h : same_slot x y ≡ false). inr h) (true_or_false (same_slot x y))

pub same_slot-false : (x y : Slot) → ¬ (x ≡ y) → same_slot x y ≡ false
same_slot-false x y apart = ⊎_elim (λ (e : x ≡ y). absurd (apart e)) (λ (h : same_slot x y ≡ false). h) (same_slot_cases x y)

-- ---- a filter by two tests
filter_step : {X : Type 0} (p q : X → Bool) (x : X) (xs : List X) → filter p (filter q xs) ≡ filter q (filter p xs) → filter p (filter q (x ∷ xs)) ≡ filter q (filter p (x ∷ xs))
filter_step p q x xs rest = grind (arith, common_steps)

pub filter_filter : {X : Type 0} (p q : X → Bool) (xs : List X) → filter p (filter q xs) ≡ filter q (filter p xs)
filter_filter p q [] = refl
filter_filter p q (x ∷ xs) = filter_step p q x xs (filter_filter p q xs)

-- what is found of all that pass a wider test
pub find-filter : {X : Type 0} (p q : X → Bool) → ((x : X) → p x ≡ true → q x ≡ true) → (xs : List X) → find p (filter q xs) ≡ find p xs
find-filter p q wider [] = refl
find-filter p q wider (x ∷ xs) = let rest = find-filter p q wider xs in grind (arith, common_steps, wider x)

-- ---- who hears
pub listener_is_named : (x : Slot) (c : Circuit) → same_slot x (listener c) ≡ true → names x c ≡ true
listener_is_named x (Pair from to since) h = grind (arith, common_steps)
listener_is_named x (Member room at since) h = h
listener_is_named x (Tone kind to since) h = h

-- a slot hears by the circuits that name it alone
pub heard_by-naming : (circuits : List Circuit) (x : Slot) → heard_by (circuits_naming circuits x) x ≡ heard_by circuits x
heard_by-naming circuits x = find-filter (λ c. same_slot x (listener c)) (names x) (listener_is_named x) circuits

-- ---- idle slots
pub naming-idle : (circuits : List Circuit) (x : Slot) → is_idle circuits x ≡ true → circuits_naming circuits x ≡ []
naming-idle [] x h = refl
naming-idle (c ∷ cs) x h = let rest = naming-idle cs x in grind (arith, common_steps)

pub is_idle-naming : (circuits : List Circuit) (x : Slot) → circuits_naming circuits x ≡ [] → is_idle circuits x ≡ true
is_idle-naming [] x h = refl
is_idle-naming (c ∷ cs) x h = let rest = is_idle-naming cs x in grind (arith, common_steps)

-- an idle slot hears nothing
pub heard_by_idle_is_deaf : (circuits : List Circuit) (x : Slot) → is_idle circuits x ≡ true → heard_by circuits x ≡ None
heard_by_idle_is_deaf circuits x idle = sym (heard_by-naming circuits x) ∙ ap (λ cs. heard_by cs x) (naming-idle circuits x idle)
