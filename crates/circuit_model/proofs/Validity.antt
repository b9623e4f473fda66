-- Holdings stay valid.
use Rattle.std.proofs.Common.{◌≡◌, ℕ, ◌+◌, ◌*◌, ◌<◌, ◌≤◌, Bool, true, false, not, ◌⊎◌, List, [], ◌∷◌, ◌++◌, Some, None, refl, sym, ◌∙◌, ap, subst, inl, inr, ⊎_elim, arith, append-nil}
use Rattle.std.specs.List.{filter, count_by, Contains}
use Rattle.std.proofs.lemmas.Grind.{common_steps}
use Rattle.std.proofs.lemmas.List.Elements.{filter-append, All-append, All-filter, All-nil, All-cons}
use Rattle.circuit_model.specs.declared.channel.Slot.{Slot}
use Rattle.circuit_model.specs.declared.circuit.Kind.{Kind}
use Rattle.circuit_model.specs.declared.circuit.Circuit.{Circuit}
use Rattle.circuit_model.specs.declared.circuit.Circuit.TheVariants.{Pair, Member, Tone}
use Rattle.circuit_model.specs.Circuits.{same_slot, listener, names, is_idle, is_member, first_frame_of, heard_by, unless_naming}
use Rattle.circuit_model.specs.Holding.{Holding, empty, Command, Connect, Seat, Give_tone, Clear, Frame, after, circuits_naming, Stands, Has_no_circuit, Has_tone, Is_seated, Is_connected, Valid, IsAllowed}
use Rattle.circuit_model.proofs.Slots.{true_or_false, same_slot-refl, same_slot_cases, same_slot-false, naming-idle, is_idle-naming, heard_by-naming, listener_is_named, filter_filter}
use Rattle.circuit_model.proofs.Age.{cons_cases, at_head, in_tail, none_in_nil, within_filtered}

-- ---- counts and ages
pub count_by-append : {X : Type 0} (p : X → Bool) (xs ys : List X) → count_by p (xs ++ ys) ≡ count_by p xs + count_by p ys
count_by-append p [] ys = omega arith
count_by-append p (x ∷ xs) ys = let rest = count_by-append p xs ys in grind (arith, common_steps)

pub count_by-filter : {X : Type 0} (p q : X → Bool) (xs : List X) → count_by p (filter q xs) ≤ count_by p xs
count_by-filter p q [] = omega arith
count_by-filter p q (x ∷ xs) = let rest = count_by-filter p q xs in grind (arith, common_steps)

-- ---- what names a slot, after a command
-- an idle slot is named by what came alone
naming-new : (circuits new : List Circuit) (z : Slot) → is_idle circuits z ≡ true → circuits_naming (circuits ++ new) z ≡ circuits_naming new z
naming-new circuits new z idle = filter-append (names z) circuits new ∙ ap (λ cs. cs ++ circuits_naming new z) (naming-idle circuits z idle)

-- what came doesn't name the slot
naming-kept : (circuits new : List Circuit) (z : Slot) → circuits_naming new z ≡ [] → circuits_naming (circuits ++ new) z ≡ circuits_naming circuits z
naming-kept circuits new z none = filter-append (names z) circuits new ∙ ap (λ cs. circuits_naming circuits z ++ cs) none ∙ append-nil (circuits_naming circuits z)

-- what names the cleared slot goes from what names a slot
naming-clear : (circuits : List Circuit) (x z : Slot) → circuits_naming (filter (λ c. not (names x c)) circuits) z ≡ filter (λ c. not (names x c)) (circuits_naming circuits z)
naming-clear circuits x z = filter_filter (names z) (λ c. not (names x c)) circuits

-- the two directions of a connection name both slots and nobody else
both_name_first : (x y : Slot) (n : ℕ) → circuits_naming (Pair x y n ∷ Pair y x n ∷ []) x ≡ Pair x y n ∷ Pair y x n ∷ []
both_name_first x y n = let same = same_slot-refl x in grind (arith, common_steps)

both_name_second : (x y : Slot) (n : ℕ) → circuits_naming (Pair x y n ∷ Pair y x n ∷ []) y ≡ Pair x y n ∷ Pair y x n ∷ []
both_name_second x y n = let same = same_slot-refl y in grind (arith, common_steps)

none_name_other : (x y z : Slot) (n : ℕ) → same_slot z x ≡ false → same_slot z y ≡ false → circuits_naming (Pair x y n ∷ Pair y x n ∷ []) z ≡ []
none_name_other x y z n off_x off_y = grind (arith, common_steps)

-- ---- the state of a slot
-- what names a slot says its state
stands_alike : (cs ds : List Circuit) (z : Slot) → circuits_naming ds z ≡ circuits_naming cs z → Stands cs z → Stands ds z
stands_alike cs ds z same (Has_no_circuit e) = Has_no_circuit (same ∙ e)
stands_alike cs ds z same (Has_tone kind since e) = Has_tone kind since (same ∙ e)
stands_alike cs ds z same (Is_seated room since e) = Is_seated room since (same ∙ e)
stands_alike cs ds z same (Is_connected y since apart (inl e)) = Is_connected y since apart (inl (same ∙ e))
stands_alike cs ds z same (Is_connected y since apart (inr e)) = Is_connected y since apart (inr (same ∙ e))

stands-connect : (circuits : List Circuit) (x y z : Slot) (n : ℕ) → ¬ (x ≡ y) → is_idle circuits x ≡ true → is_idle circuits y ≡ true → Stands circuits z → Stands (circuits ++ Pair x y n ∷ Pair y x n ∷ []) z
stands-connect circuits x y z n apart idle_x idle_y s =
    let new : List Circuit = Pair x y n ∷ Pair y x n ∷ [] in
    elim (same_slot_cases z x) [
      | inl at_x ↦ subst (λ z. Stands (circuits ++ new) z) (sym at_x) (Is_connected y n (λ e. apart (sym e)) (inl (naming-new circuits new x idle_x ∙ both_name_first x y n)))
      | inr off_x ↦ elim (same_slot_cases z y) [
        | inl at_y ↦ subst (λ z. Stands (circuits ++ new) z) (sym at_y) (Is_connected x n apart (inr (naming-new circuits new y idle_y ∙ both_name_second x y n)))
        | inr off_y ↦ stands_alike circuits (circuits ++ new) z (naming-kept circuits new z (none_name_other x y z n off_x off_y)) s
      ]
    ]

stands-seat : (circuits : List Circuit) (x z : Slot) (room n : ℕ) → is_idle circuits x ≡ true → Stands circuits z → Stands (circuits ++ Member room x n ∷ []) z
stands-seat circuits x z room n idle s =
    let new : List Circuit = Member room x n ∷ [] in
    elim (same_slot_cases z x) [
      | inl at_x ↦ subst (λ z. Stands (circuits ++ new) z) (sym at_x) (Is_seated room n (naming-new circuits new x idle ∙ (let same = same_slot-refl x in grind (arith, common_steps))))
      | inr off_x ↦ stands_alike circuits (circuits ++ new) z (naming-kept circuits new z (grind (arith, common_steps))) s
    ]

stands-tone : (circuits : List Circuit) (x z : Slot) (kind : Kind) (n : ℕ) → is_idle circuits x ≡ true → Stands circuits z → Stands (circuits ++ Tone kind x n ∷ []) z
stands-tone circuits x z kind n idle s =
    let new : List Circuit = Tone kind x n ∷ [] in
    elim (same_slot_cases z x) [
      | inl at_x ↦ subst (λ z. Stands (circuits ++ new) z) (sym at_x) (Has_tone kind n (naming-new circuits new x idle ∙ (let same = same_slot-refl x in grind (arith, common_steps))))
      | inr off_x ↦ stands_alike circuits (circuits ++ new) z (naming-kept circuits new z (grind (arith, common_steps))) s
    ]

-- one circuit that names z alone: the cleared slot is z, or the circuit stays
cleared_one : (x z : Slot) (c : Circuit) → names x c ≡ same_slot x z → (filter (λ c. not (names x c)) (c ∷ []) ≡ []) ⊎ (filter (λ c. not (names x c)) (c ∷ []) ≡ c ∷ [])
cleared_one x z c named = elim (true_or_false (names x c)) [ inl gone ↦ inl (grind (arith, common_steps)) | inr stays ↦ inr (grind (arith, common_steps)) ]

-- both directions of a connection go or stay
cleared_both : (x y z : Slot) (n : ℕ) → (filter (λ c. not (names x c)) (Pair z y n ∷ Pair y z n ∷ []) ≡ []) ⊎ (filter (λ c. not (names x c)) (Pair z y n ∷ Pair y z n ∷ []) ≡ Pair z y n ∷ Pair y z n ∷ [])
cleared_both x y z n = elim (true_or_false (names x (Pair z y n))) [ inl gone ↦ inl (grind (arith, common_steps)) | inr stays ↦ inr (grind (arith, common_steps)) ]

stands-clear : (circuits : List Circuit) (x z : Slot) → Stands circuits z → Stands (filter (λ c. not (names x c)) circuits) z
stands-clear circuits x z (Has_no_circuit e) = Has_no_circuit (naming-clear circuits x z ∙ ap (filter (λ c. not (names x c))) e)
stands-clear circuits x z (Has_tone kind since e) =
    let cleared = naming-clear circuits x z ∙ ap (filter (λ c. not (names x c))) e in
    elim (cleared_one x z (Tone kind z since) refl) [ inl gone ↦ Has_no_circuit (cleared ∙ gone) | inr stays ↦ Has_tone kind since (cleared ∙ stays) ]
stands-clear circuits x z (Is_seated room since e) =
    let cleared = naming-clear circuits x z ∙ ap (filter (λ c. not (names x c))) e in
    elim (cleared_one x z (Member room z since) refl) [ inl gone ↦ Has_no_circuit (cleared ∙ gone) | inr stays ↦ Is_seated room since (cleared ∙ stays) ]
stands-clear circuits x z (Is_connected y since apart (inl e)) =
    let cleared = naming-clear circuits x z ∙ ap (filter (λ c. not (names x c))) e in
    elim (cleared_both x y z since) [ inl gone ↦ Has_no_circuit (cleared ∙ gone) | inr stays ↦ Is_connected y since apart (inl (cleared ∙ stays)) ]
stands-clear circuits x z (Is_connected y since apart (inr e)) =
    let cleared = naming-clear circuits x z ∙ ap (filter (λ c. not (names x c))) e in
    elim (cleared_both x z y since) [ inl gone ↦ Has_no_circuit (cleared ∙ gone) | inr stays ↦ Is_connected y since apart (inr (cleared ∙ stays)) ]

-- ---- holdings
pub valid-empty : (bridges : ℕ) → Valid bridges empty
valid-empty bridges = record { young = λ k d h. absurd (omega arith); seated = omega arith; standing = λ x. Has_no_circuit refl }

pub valid-connect : (bridges : ℕ) (h : Holding) (x y : Slot) → Valid bridges h → ¬ (x ≡ y) → is_idle h.circuits x ≡ true → is_idle h.circuits y ≡ true → Valid bridges (after h (Connect x y))
valid-connect bridges h x y v apart idle_x idle_y =
    let IsYoung : Circuit → Type 0 = λ c. first_frame_of c ≤ h.next in
    record {
      young = All-append IsYoung h.circuits (Pair x y h.next ∷ Pair y x h.next ∷ []) v.young (All-cons IsYoung (Pair x y h.next) (Pair y x h.next ∷ []) (omega arith) (All-cons IsYoung (Pair y x h.next) [] (omega arith) (All-nil IsYoung)));
      seated = let s = v.seated in omega (arith, count_by-append is_member h.circuits (Pair x y h.next ∷ Pair y x h.next ∷ []));
      standing = λ z. stands-connect h.circuits x y z h.next apart idle_x idle_y (v.standing z);
    }

pub valid-seat : (bridges : ℕ) (h : Holding) (x : Slot) (room : ℕ) → Valid bridges h → is_idle h.circuits x ≡ true → count_by is_member h.circuits < 30 * bridges → Valid bridges (after h (Seat x room))
valid-seat bridges h x room v idle free =
    let IsYoung : Circuit → Type 0 = λ c. first_frame_of c ≤ h.next in
    record {
      young = All-append IsYoung h.circuits (Member room x h.next ∷ []) v.young (All-cons IsYoung (Member room x h.next) [] (omega arith) (All-nil IsYoung));
      seated = omega (arith, count_by-append is_member h.circuits (Member room x h.next ∷ []));
      standing = λ z. stands-seat h.circuits x z room h.next idle (v.standing z);
    }

pub valid-tone : (bridges : ℕ) (h : Holding) (x : Slot) (kind : Kind) → Valid bridges h → is_idle h.circuits x ≡ true → Valid bridges (after h (Give_tone x kind))
valid-tone bridges h x kind v idle =
    let IsYoung : Circuit → Type 0 = λ c. first_frame_of c ≤ h.next in
    record {
      young = All-append IsYoung h.circuits (Tone kind x h.next ∷ []) v.young (All-cons IsYoung (Tone kind x h.next) [] (omega arith) (All-nil IsYoung));
      seated = let s = v.seated in omega (arith, count_by-append is_member h.circuits (Tone kind x h.next ∷ []));
      standing = λ z. stands-tone h.circuits x z kind h.next idle (v.standing z);
    }

pub valid-clear : (bridges : ℕ) (h : Holding) (x : Slot) → Valid bridges h → Valid bridges (after h (Clear x))
valid-clear bridges h x v = record {
  young = All-filter (λ c. not (names x c)) (λ c. first_frame_of c ≤ h.next) h.circuits v.young;
  seated = let s = v.seated in omega (arith, count_by-filter is_member (λ c. not (names x c)) h.circuits);
  standing = λ z. stands-clear h.circuits x z (v.standing z);
}

pub valid-frame : (bridges : ℕ) (h : Holding) → Valid bridges h → Valid bridges (after h Frame)
valid-frame bridges h v = record { young = λ k d inside. omega (arith, v.young k d inside); seated = v.seated; standing = v.standing }

pub valid-after : (bridges : ℕ) (h : Holding) (c : Command) → Valid bridges h → IsAllowed bridges h c → Valid bridges (after h c)
valid-after bridges h (Connect x y) v allowed = valid-connect bridges h x y v allowed.0 allowed.1 allowed.2
valid-after bridges h (Seat x room) v allowed = valid-seat bridges h x room v allowed.0 allowed.1
valid-after bridges h (Give_tone x kind) v allowed = valid-tone bridges h x kind v allowed
valid-after bridges h (Clear x) v allowed = valid-clear bridges h x v
valid-after bridges h Frame v allowed = valid-frame bridges h v

-- ---- whom a slot hears in a valid holding
-- a slot that hears nothing is named by nothing
named_by_none : (circuits : List Circuit) (x : Slot) → Stands circuits x → heard_by (circuits_naming circuits x) x ≡ None → circuits_naming circuits x ≡ []
named_by_none circuits x (Has_no_circuit e) none = e
named_by_none circuits x (Has_tone kind since e) none = let same = same_slot-refl x in let found = rw e at none in absurd (grind (arith, common_steps))
named_by_none circuits x (Is_seated room since e) none = let same = same_slot-refl x in let found = rw e at none in absurd (grind (arith, common_steps))
named_by_none circuits x (Is_connected y since apart (inl e)) none = let same = same_slot-refl x in let found = rw e at none in absurd (grind (arith, common_steps))
named_by_none circuits x (Is_connected y since apart (inr e)) none = let same = same_slot-refl x in let found = rw e at none in absurd (grind (arith, common_steps))

pub deaf_is_idle : (circuits : List Circuit) (x : Slot) → Stands circuits x → heard_by circuits x ≡ None → is_idle circuits x ≡ true
deaf_is_idle circuits x s none = is_idle-naming circuits x (named_by_none circuits x s (heard_by-naming circuits x ∙ none))

-- after a slot is cleared each hears what it heard, unless that named the slot
cleared_among : (circuits : List Circuit) (x z : Slot) → Stands circuits z → heard_by (filter (λ c. not (names x c)) (circuits_naming circuits z)) z ≡ unless_naming x (heard_by (circuits_naming circuits z) z)
cleared_among circuits x z (Has_no_circuit e) = rw e refl
cleared_among circuits x z (Has_tone kind since e) = rw e (let same = same_slot-refl z in grind (arith, common_steps))
cleared_among circuits x z (Is_seated room since e) = rw e (let same = same_slot-refl z in grind (arith, common_steps))
cleared_among circuits x z (Is_connected y since apart (inl e)) = rw e (let same = same_slot-refl z in grind (arith, common_steps))
cleared_among circuits x z (Is_connected y since apart (inr e)) = rw e (let same = same_slot-refl z in grind (arith, common_steps))

pub heard_by-clear : (circuits : List Circuit) (x z : Slot) → Stands circuits z → heard_by (filter (λ c. not (names x c)) circuits) z ≡ unless_naming x (heard_by circuits z)
heard_by-clear circuits x z s =
    sym (heard_by-naming (filter (λ c. not (names x c)) circuits) z) ∙ ap (λ cs. heard_by cs z) (naming-clear circuits x z) ∙ cleared_among circuits x z s
    ∙ ap (unless_naming x) (heard_by-naming circuits z)

-- ---- the one circuit that a slot hears
in_filter : {X : Type 0} (p : X → Bool) (xs : List X) (y : X) → Contains xs y → p y ≡ true → Contains (filter p xs) y
in_filter p [] y inside passes = inside
in_filter p (x ∷ xs) y inside passes =
    elim (cons_cases x xs y inside) [
      | inl here ↦ let first : p x ≡ true = rw here passes in rw first (at_head x (filter p xs) y here)
      | inr there ↦ let rest = in_filter p xs y there passes in elim (true_or_false (p x)) [
        | inl kept ↦ rw kept (in_tail x (filter p xs) y rest)
        | inr dropped ↦ rw dropped rest
      ]
    ]

only_one : (d c : Circuit) → Contains (d ∷ []) c → d ≡ c
only_one d c inside = ⊎_elim (λ (e : d ≡ c). e) (λ (no : Contains [] c). absurd (none_in_nil c no)) (cons_cases d [] c inside)

one_of_two : (d e c : Circuit) → Contains (d ∷ e ∷ []) c → (d ≡ c) ⊎ (e ≡ c)
one_of_two d e c inside = ⊎_elim (λ (first : d ≡ c). inl first) (λ (rest : Contains (e ∷ []) c). inr (only_one e c rest)) (cons_cases d (e ∷ []) c inside)

-- among what names the slot, only what it hears by is for it
heard_alone : (circuits : List Circuit) (x : Slot) (c : Circuit) → Stands circuits x → Contains (circuits_naming circuits x) c → same_slot x (listener c) ≡ true → heard_by (circuits_naming circuits x) x ≡ Some c
heard_alone circuits x c (Has_no_circuit e) inside for_x = absurd (none_in_nil c (rw e at inside))
heard_alone circuits x c (Has_tone kind since e) inside for_x = let same = only_one _ c (rw e at inside) in rw e (grind (arith, common_steps))
heard_alone circuits x c (Is_seated room since e) inside for_x = let same = only_one _ c (rw e at inside) in rw e (grind (arith, common_steps))
heard_alone circuits x c (Is_connected y since apart (inl e)) inside for_x =
    let other = same_slot-false x y (λ f. apart (sym f)) in
    elim (one_of_two _ _ c (rw e at inside)) [ inl same ↦ absurd (grind (arith, common_steps)) | inr same ↦ rw e (grind (arith, common_steps)) ]
heard_alone circuits x c (Is_connected y since apart (inr e)) inside for_x =
    let other = same_slot-false x y (λ f. apart (sym f)) in
    elim (one_of_two _ _ c (rw e at inside)) [ inl same ↦ rw e (grind (arith, common_steps)) | inr same ↦ absurd (grind (arith, common_steps)) ]

-- a circuit that exists is the one that its slot hears by
pub heard_by-listener : (circuits : List Circuit) (c : Circuit) → Stands circuits (listener c) → Contains circuits c → heard_by circuits (listener c) ≡ Some c
heard_by-listener circuits c s inside =
    let x : Slot = listener c in
    let for_x = same_slot-refl x in
    sym (heard_by-naming circuits x) ∙ heard_alone circuits x c s (in_filter (names x) circuits c inside (listener_is_named x c for_x)) for_x

-- where x hears y, the other direction exists too
other_way : (circuits : List Circuit) (x y : Slot) (since : ℕ) → Stands circuits x → heard_by (circuits_naming circuits x) x ≡ Some (Pair y x since) → Contains (circuits_naming circuits x) (Pair x y since)
other_way circuits x y since (Has_no_circuit e) hears = let no : None ≡ Some (Pair y x since) = rw e at hears in absurd cc
other_way circuits x y since (Has_tone kind s e) hears = let same = same_slot-refl x in let no = rw e at hears in absurd (grind (arith, common_steps))
other_way circuits x y since (Is_seated room s e) hears = let same = same_slot-refl x in let no = rw e at hears in absurd (grind (arith, common_steps))
other_way circuits x y since (Is_connected z s apart (inl e)) hears =
    let same = same_slot-refl x in let other = same_slot-false x z (λ f. apart (sym f)) in let found = rw e at hears in
    rw e (at_head (Pair x z s) (Pair z x s ∷ []) (Pair x y since) (grind (arith, common_steps)))
other_way circuits x y since (Is_connected z s apart (inr e)) hears =
    let same = same_slot-refl x in let found = rw e at hears in
    rw e (in_tail (Pair z x s) (Pair x z s ∷ []) (Pair x y since) (at_head (Pair x z s) [] (Pair x y since) (grind (arith, common_steps))))

pub heard_by-mutual : (circuits : List Circuit) (x y : Slot) (since : ℕ) → Stands circuits x → Stands circuits y → heard_by circuits x ≡ Some (Pair y x since) → heard_by circuits y ≡ Some (Pair x y since)
heard_by-mutual circuits x y since sx sy hears =
    let inside = other_way circuits x y since sx (heard_by-naming circuits x ∙ hears) in
    heard_by-listener circuits (Pair x y since) sy (within_filtered (names x) circuits (Pair x y since) inside)
