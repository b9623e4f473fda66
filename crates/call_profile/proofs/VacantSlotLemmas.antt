-- Idle slots are found where a line has them, and a new call's reference is unused.
use Rattle.std.proofs.Common.{◌≡◌, ℕ, zero, suc, ◌+◌, ◌-◌, ◌<◌, ◌≤◌, ◌⊎◌, inl, inr, Bool, true, false, ◌&&◌, ◌==◌, List, [], ◌∷◌, map, length, Option, Some, None, refl, sym, ◌∙◌, ap, subst, arith, eqb}
use Rattle.std.specs.Prelude.{find, filter_map, option_map, is_none}
use Rattle.std.specs.List.{range_with_len, cons_option, list_any, AllByRecursion}
use Rattle.std.proofs.lemmas.Bool.{cases_lt}
use Rattle.std.proofs.lemmas.Grind.{common_steps}
use Rattle.std.proofs.lemmas.Map.Steps.{le-length_from_below}
use Rattle.circuit_model.specs.declared.channel.Slot.{Slot}
use Rattle.circuit_model.proofs.Slots.{true_or_false}
use Rattle.call_states.specs.declared.leg.Leg.{Leg}
use Rattle.call_states.specs.declared.leg.Side.{Side}
use Rattle.call_states.specs.declared.leg.Side.TheVariants.{Caller, Called}
use Rattle.call_states.specs.declared.leg.HeldLeg.{HeldLeg}
use Rattle.call_profile.specs.Legs.{Legs, leg_at, held_at, slots_of, legs_of, is_addressed_to, leg_named, is_unused, lowest_free_reference, side_named, same_side}
use Rattle.call_profile.proofs.LineLemmas.{unused_from, lowest_free_reference_unused_all, unused_here, unused_other}
use Rattle.call_profile.proofs.NamedLegLemmas.{IsOn, slots_on}

-- ---- a slot that is found passes the test, and is one of those that were looked at

found_step : (p : Slot → Bool) (Q : Slot → Type 0) (y x : Slot) (ys : List Slot) → Q y → (find p ys ≡ Some x → (p x ≡ true) × Q x) → find p (y ∷ ys) ≡ Some x → (p x ≡ true) × Q x
found_step p Q y x ys q later e = elim (true_or_false (p y)) [
  | inl passed ↦
      let found : Some y ≡ Some x = rw passed at e in
      let same : y ≡ x = cc in
      subst (λ (z : Slot). (p z ≡ true) × Q z) same (passed, q)
  | inr failed ↦ later (rw failed at e)
]

found_slot : (p : Slot → Bool) (Q : Slot → Type 0) (xs : List Slot) (x : Slot) → AllByRecursion Q xs → find p xs ≡ Some x → (p x ≡ true) × Q x
found_slot p Q [] x all e = absurd cc
found_slot p Q (y ∷ ys) x all e = found_step p Q y x ys all.0 (found_slot p Q ys x all.1) e

pub found_on : (p : Slot → Bool) (line : ℕ) (x : Slot) → find p (slots_of line) ≡ Some x → (p x ≡ true) × IsOn line x
found_on p line x e = found_slot p (IsOn line) (slots_of line) x (slots_on line) e

-- ---- a slot of a line is one of its thirty

pub same_parts : (x : Slot) (line place : ℕ) → x.line ≡ line → x.place ≡ place → x ≡ record { line = line; place = place }
same_parts x line place e f =
    let at : ℕ → ℕ → Slot = λ l p. record { line = l; place = p } in
    ap (λ l. at l x.place) e ∙ ap (at line) f

on_line : (Q : Slot → Type 0) (line first count : ℕ) (x : Slot) → x.line ≡ line → first ≤ x.place → x.place < first + count → AllByRecursion Q (map (λ place. record { line = line; place = place }) (range_with_len first count)) → Q x
on_line Q line first zero x is low high all = absurd (omega (arith, low, high))
on_line Q line first (suc count) x is low high all =
    let later : first < x.place → Q x = λ less. on_line Q line (first + 1) count x is (omega (arith, less)) (omega (arith, high)) all.1 in
    elim (cases_lt first x.place) [
      | inl less ↦ later less
      | inr least ↦ subst Q (sym (same_parts x line first is (omega (arith, least, low)))) all.0
    ]

-- ---- no leg has a reference that none was found for

none_step : (legs : Legs) (p : HeldLeg → Bool) (x : Slot) (rest : List HeldLeg) (o : Option Leg) → leg_at legs x ≡ o
    → find p (cons_option (option_map (λ (leg : Leg). let held : HeldLeg = record { slot = x; leg = leg } in held) o) rest) ≡ None
    → ((l : Leg) → leg_at legs x ≡ Some l → p (record { slot = x; leg = l }) ≡ false) × (find p rest ≡ None)
none_step legs p x rest None at e = (λ l is. let f : None ≡ Some l = sym at ∙ is in absurd cc, e)
none_step legs p x rest (Some leg) at e =
    let one : HeldLeg = record { slot = x; leg = leg } in
    elim (true_or_false (p one)) [
      | inl passed ↦ let f : Some one ≡ None = rw passed at e in absurd cc
      | inr failed ↦ (
        λ l is.
            let f : Some leg ≡ Some l = sym at ∙ is in
            let same : leg ≡ l = cc in
            subst (λ (k : Leg). p (record { slot = x; leg = k }) ≡ false) same failed,
        rw failed at e,
      )
    ]

-- no leg at the slot passes the test
abbrev Fails : Legs → (HeldLeg → Bool) → Slot → Type 0
Fails legs p x = (l : Leg) → leg_at legs x ≡ Some l → p (record { slot = x; leg = l }) ≡ false

none_among : (legs : Legs) (p : HeldLeg → Bool) (xs : List Slot) → find p (filter_map (held_at legs) xs) ≡ None → AllByRecursion (Fails legs p) xs
none_among legs p [] e = tt
none_among legs p (x ∷ xs) e =
    let step = none_step legs p x (filter_map (held_at legs) xs) (leg_at legs x) refl e in
    (step.0, none_among legs p xs step.1)

passes : (flag : Bool) (reference : ℕ) (side : Side) (r : ℕ) → side ≡ side_named flag → r ≡ reference → (same_side (side_named flag) side && (r == reference)) ≡ true
passes true reference Caller r s e = absurd cc
passes true reference Called r s e = grind (arith, common_steps, e)
passes false reference Caller r s e = grind (arith, common_steps, e)
passes false reference Called r s e = absurd cc

pub none_named : (legs : Legs) (line : ℕ) (flag : Bool) (reference : ℕ) → leg_named legs line flag reference ≡ None
    → (x : Slot) (l : Leg) → IsOn line x → leg_at legs x ≡ Some l → l.side ≡ side_named flag → l.reference ≡ reference → ⊥
unfolding slots_of
none_named legs line flag reference none x l on at side same =
    let fails = on_line (Fails legs (is_addressed_to flag reference)) line 0 30 x on.0 (omega arith) (omega (arith, on.1)) (none_among legs (is_addressed_to flag reference) (slots_of line) none) l at in
    let passed = passes flag reference l.side l.reference side same in
    let wrong : true ≡ false = sym passed ∙ fails in
    cc

-- ---- a reference that is unused

-- the first unused one from a reference on is found, or all up to the thirtieth are used
abbrev Found : Legs → ℕ → ℕ → Type 0
Found legs line reference =
    ((is_unused legs line (reference + unused_from legs line reference) ≡ true) × (reference + unused_from legs line reference ≤ 30))
    ⊎ ((r : ℕ) → reference ≤ r → r ≤ 30 → is_unused legs line r ≡ false)

unused_step : (legs : Legs) (line reference : ℕ) → reference < 31 → Found legs line (reference + 1) → Found legs line reference
unused_step legs line reference within later = elim (true_or_false (is_unused legs line reference)) [
  | inl here ↦
      let none = unused_here legs line reference within here in
      let same : reference ≡ reference + unused_from legs line reference = omega (arith, none) in
      inl (subst (λ n. is_unused legs line n ≡ true) same here, omega (arith, none, within))
  | inr used ↦
      let more = unused_other legs line reference within used in
      let same : reference + 1 + unused_from legs line (reference + 1) ≡ reference + unused_from legs line reference = omega (arith, more) in
      elim later [
        | inl found ↦ inl (subst (λ n. is_unused legs line n ≡ true) same found.0, omega (arith, same, found.1))
        | inr all ↦ inr (λ r low high. elim (cases_lt reference r) [
          | inl less ↦ all r (omega (arith, less)) high
          | inr least ↦ let here : reference ≡ r = omega (arith, least, low) in subst (λ n. is_unused legs line n ≡ false) here used
        ])
      ]
]

found_or_all : (legs : Legs) (line count reference : ℕ) → reference + count ≡ 31 → Found legs line reference
found_or_all legs line zero reference e = inr (λ r low high. absurd (omega (arith, e, low, high)))
found_or_all legs line (suc count) reference e = unused_step legs line reference (omega (arith, e)) (found_or_all legs line count (reference + 1) (omega (arith, e)))

-- were all of them used, the line would have thirty legs
used_step : (q : ℕ) (h : HeldLeg) (hs : List HeldLeg) → (is_none (find (is_addressed_to true (q + 1)) hs) ≡ false → list_any (eqb q) (map (λ (l : HeldLeg). l.leg.reference - 1) hs) ≡ true) → is_none (find (is_addressed_to true (q + 1)) (h ∷ hs)) ≡ false
    → list_any (eqb q) (map (λ (l : HeldLeg). l.leg.reference - 1) (h ∷ hs)) ≡ true
used_step q h hs later e = elim (true_or_false (is_addressed_to true (q + 1) h)) [
  | inl here ↦ grind (arith, common_steps, here)
  | inr other ↦ let rest = later (rw other at e) in grind (arith, common_steps, rest)
]

used_by : (q : ℕ) (hs : List HeldLeg) → is_none (find (is_addressed_to true (q + 1)) hs) ≡ false → list_any (eqb q) (map (λ (h : HeldLeg). h.leg.reference - 1) hs) ≡ true
used_by q [] e = absurd cc
used_by q (h ∷ hs) e = used_step q h hs (used_by q hs) e

cons_longer : (o : Option HeldLeg) (rest : List HeldLeg) → length (cons_option o rest) ≤ suc (length rest)
cons_longer None rest = omega arith
cons_longer (Some h) rest = omega arith

at_most : (f : Slot → Option HeldLeg) (line first count : ℕ) → length (filter_map f (map (λ place. record { line = line; place = place }) (range_with_len first count))) ≤ count
at_most f line first zero = omega arith
at_most f line first (suc count) =
    let rest = at_most f line (first + 1) count in
    let step = cons_longer (f (record { line = line; place = first })) (filter_map f (map (λ place. record { line = line; place = place }) (range_with_len (first + 1) count))) in
    omega (arith, rest, step)

cons_none : (o : Option HeldLeg) (rest : List HeldLeg) (n : ℕ) → o ≡ None → length rest ≤ n → length (cons_option o rest) < suc n
cons_none None rest n e short = omega (arith, short)
cons_none (Some h) rest n e short = absurd cc

fewer : (f : Slot → Option HeldLeg) (line first count : ℕ) (y : Slot) → y.line ≡ line → first ≤ y.place → y.place < first + count → f y ≡ None
    → length (filter_map f (map (λ place. record { line = line; place = place }) (range_with_len first count))) < count
fewer f line first zero y is low high none = absurd (omega (arith, low, high))
fewer f line first (suc count) y is low high none =
    let others = filter_map f (map (λ place. record { line = line; place = place }) (range_with_len (first + 1) count)) in
    let later : first < y.place → length others < count = λ less. fewer f line (first + 1) count y is (omega (arith, less)) (omega (arith, high)) none in
    elim (cases_lt first y.place) [
      | inl less ↦ omega (arith, later less, cons_longer (f (record { line = line; place = first })) others)
      | inr least ↦
          let here : f (record { line = line; place = first }) ≡ None = ap f (sym (same_parts y line first is (omega (arith, least, low)))) ∙ none in
          cons_none (f (record { line = line; place = first })) others count here (at_most f line (first + 1) count)
    ]

map_length : (g : HeldLeg → ℕ) (hs : List HeldLeg) → length (map g hs) ≡ length hs
map_length g [] = refl
map_length g (h ∷ hs) = ap suc (map_length g hs)

not_all : (legs : Legs) (line : ℕ) (y : Slot) → IsOn line y → leg_at legs y ≡ None → ((r : ℕ) → 1 ≤ r → r ≤ 30 → is_unused legs line r ≡ false) → ⊥
unfolding slots_of
not_all legs line y on none all =
    let nothing : held_at legs y ≡ None = rw none refl in
    let few = fewer (held_at legs) line 0 30 y on.0 (omega arith) (omega (arith, on.1)) nothing in
    let many = le-length_from_below (map (λ (h : HeldLeg). h.leg.reference - 1) (legs_of legs line)) 30 (λ q below. used_by q (legs_of legs line) (all (q + 1) (omega arith) (omega (arith, below)))) in
    omega (arith, few, many, map_length (λ (h : HeldLeg). h.leg.reference - 1) (legs_of legs line))

-- the reference of a new called leg is unused, and one of the first thirty, where the line has a slot without a leg
pub new_unused : (legs : Legs) (line : ℕ) (y : Slot) → IsOn line y → leg_at legs y ≡ None → (is_unused legs line (lowest_free_reference legs line) ≡ true) × (lowest_free_reference legs line ≤ 30)
new_unused legs line y on none =
    let same = lowest_free_reference_unused_all legs line in
    elim (found_or_all legs line 30 1 refl) [
      | inl found ↦ (subst (λ n. is_unused legs line n ≡ true) (sym same) found.0, omega (arith, same, found.1))
      | inr all ↦ absurd (not_all legs line y on none all)
    ]
