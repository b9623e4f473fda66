-- The bounds of a table of legs stay bounds.
use Rattle.std.proofs.Common.{◌≡◌, ℕ, zero, suc, ◌+◌, ◌*◌, ◌<◌, ◌≤◌, ◌⊎◌, inl, inr, List, length, get_or, set, Option, Some, None, refl, sym, ◌∙◌, ap, subst, arith, length-set, eqb-true, eq-eqb, get_or-set_same, get_or-set_other}
use Rattle.std.specs.Prelude.{Bool, true, false, ◌==◌, ◌&&◌, not, replicate, nat_lt, nat_le, slice_index}
use Rattle.call_states.specs.Status.{FitsMessages}
use Rattle.std.proofs.lemmas.Grind.{common_steps}
use Rattle.std.proofs.lemmas.Bool.Decides.{nat_tests}
use Rattle.std.proofs.lemmas.List.{get_or_past}
use Rattle.circuit_model.proofs.Slots.{true_or_false}
use Rattle.call_profile.proofs.CommandLemmas.{both_true}
use Rattle.call_states.specs.declared.leg.Leg.{Leg}
use Rattle.call_timers.specs.declared.timers.Timers.{Timers}
use Rattle.leg_table.specs.DueBounds.{IsNotDue, NoneDue, AreBoundsOf, AreLower}
use Rattle.leg_table.specs.LegKeys.{AreKeysOf, key_by, leg_on, no_key}

eq_or_apart : (a b : ℕ) → (a ≡ b) ⊎ (a ≡ b → ⊥)
eq_or_apart a b = elim (true_or_false (a == b)) [
  | inl same ↦ inl (eqb-true a b same)
  | inr differ ↦ inr (λ e. let same = eq-eqb a b e in cc)
]

less_or_not : (a b : ℕ) → (a < b) ⊎ (b ≤ a)
less_or_not a b = elim (true_or_false (nat_lt a b)) [
  | inl less ↦ inl (grind (arith, nat_tests, less))
  | inr not_less ↦ inr (grind (arith, nat_tests, not_less))
]

-- another leg at a slot, or none, whose place got a bound for it
module _ (timers : Timers) (legs : List (Option Leg)) (bounds lower : List ℕ) (bound : AreBoundsOf timers legs bounds) (places : length lower ≡ 30) (less : AreLower bounds lower)
    (n line place : ℕ) (at : n ≡ 30 * line + place) (near : place < 30) (inside : n < length legs) (o : Option Leg) (fits : (frame : ℕ) → frame < slice_index lower place → IsNotDue timers frame o) where
  not_due : (l p frame : ℕ) → p < 30 → frame < slice_index lower p → IsNotDue timers frame (leg_on (set legs n o) l p)
  not_due l p frame small early = elim (eq_or_apart (30 * l + p) n) [
    | inl same ↦
        let place_is : p ≡ place = omega (arith, same, at, small, near) in
        let here : leg_on (set legs n o) l p ≡ o = ap (λ k. get_or (set legs n o) k None) same ∙ get_or-set_same legs n o None inside in
        subst (IsNotDue timers frame) (sym here) (fits frame (subst (λ k. frame < slice_index lower k) place_is early))
    | inr apart ↦
        subst (IsNotDue timers frame) (sym (get_or-set_other legs n (30 * l + p) o None apart))
        (bound.each p frame small (let fewer = less p small in omega (arith, early, fewer)) l)
  ]

  pub bounds_with : AreBoundsOf timers (set legs n o) lower
  bounds_with = record { places = places; each = λ p frame small early l. not_due l p frame small early }

-- a slot without a leg
pub none_due : (timers : Timers) (frame : ℕ) → IsNotDue timers frame None
none_due timers frame = tt

-- the bound of a place set anew, from the legs there
module _ (timers : Timers) (legs : List (Option Leg)) (bounds : List ℕ) (bound : AreBoundsOf timers legs bounds) (lines place first : ℕ) (size : length legs ≡ 30 * lines) (near : place < 30)
    (due_from : (line frame : ℕ) → line < lines → frame < first → IsNotDue timers frame (leg_on legs line place)) where
  beyond : (line frame : ℕ) → lines ≤ line → IsNotDue timers frame (leg_on legs line place)
  beyond line frame far = subst (IsNotDue timers frame) (sym (get_or_past legs (30 * line + place) None (omega (arith, far, size)))) tt

  anew : (line frame : ℕ) → frame < first → IsNotDue timers frame (leg_on legs line place)
  anew line frame early = elim (less_or_not line lines) [
    | inl near_line ↦ due_from line frame near_line early
    | inr far ↦ beyond line frame far
  ]

  pub bounds_anew : AreBoundsOf timers legs (set bounds place first)
  bounds_anew = record {
    places = length-set bounds place first ∙ bound.places;
    each = λ p frame small early line. elim (eq_or_apart p place) [
      | inl same ↦
          let here : slice_index (set bounds place first) p ≡ first = ap (λ k. get_or (set bounds place first) k 0) same ∙ get_or-set_same bounds place first 0 (let all = bound.places in omega (arith, near, all)) in
          subst (λ k. IsNotDue timers frame (leg_on legs line k)) (sym same) (anew line frame (subst (λ k. frame < k) here early))
      | inr apart ↦ bound.each p frame small (subst (λ k. frame < k) (get_or-set_other bounds place p first 0 apart) early) line
    ];
  }

-- ---- no legs

abbrev nobody : Option Leg
nobody = None

none_in : (n i : ℕ) → get_or (replicate n nobody) i None ≡ None
none_in zero i = refl
none_in (suc n) zero = refl
none_in (suc n) (suc i) = none_in n i

pub no_bounds : (timers : Timers) (n : ℕ) (legs : List (Option Leg)) (bounds : List ℕ) → legs ≡ replicate n None → length bounds ≡ 30 → AreBoundsOf timers legs bounds
no_bounds timers n legs bounds is size = record {
  places = size;
  each = λ place frame small early line. subst (IsNotDue timers frame) (sym (ap (λ os. leg_on os line place) is ∙ none_in n (30 * line + place))) tt;
}

-- ---- the same timers

not_false : (b : Bool) → not b ≡ false → b ≡ true
not_false true e = refl
not_false false e = absurd cc

pub same_timers : (a b : Timers) → not ((a.t301 == b.t301) && ((a.t302 == b.t302) && ((a.t303 == b.t303) && ((a.t305 == b.t305) && ((a.t308 == b.t308) && ((a.t309 == b.t309) && (a.t310 == b.t310))))))) ≡ false → a ≡ b
same_timers a b e =
    let all = not_false _ e in
    let first = both_true (a.t301 == b.t301) _ all in
    let one = both_true (a.t302 == b.t302) _ first.1 in
    let two = both_true (a.t303 == b.t303) _ one.1 in
    let three = both_true (a.t305 == b.t305) _ two.1 in
    let four = both_true (a.t308 == b.t308) _ three.1 in
    let five = both_true (a.t309 == b.t309) _ four.1 in
    λ i. record {
      t301 = eqb-true a.t301 b.t301 first.0 i;
      t302 = eqb-true a.t302 b.t302 one.0 i;
      t303 = eqb-true a.t303 b.t303 two.0 i;
      t305 = eqb-true a.t305 b.t305 three.0 i;
      t308 = eqb-true a.t308 b.t308 four.0 i;
      t309 = eqb-true a.t309 b.t309 five.0 i;
      t310 = eqb-true a.t310 b.t310 five.1 i;
    }

-- a frame before the bound of a place
pub early_none : (timers other : Timers) (legs held : List (Option Leg)) (bounds : List ℕ) (place frame : ℕ) → AreBoundsOf timers legs bounds → timers ≡ other → legs ≡ held → place < 30
    → nat_le (slice_index bounds place) frame ≡ false → NoneDue other held place frame
early_none timers other legs held bounds place frame bound same view near early line =
    subst (λ (t : Timers). IsNotDue t frame (leg_on held line place)) same
    (subst (λ (os : List (Option Leg)). IsNotDue timers frame (leg_on os line place)) view (bound.each place frame near (grind (arith, nat_tests, early)) line))

-- ---- the keys, once a leg holds a slot, or none does

pub keys_with : (lines : ℕ) (legs : List (Option Leg)) (keys : List ℕ) (n k line place key : ℕ) (leg : Leg) → AreKeysOf lines legs keys → n ≡ 30 * line + place → k ≡ 32 * line + place → place < 30 → n < length legs
    → FitsMessages leg → key ≡ key_by leg.side leg.reference → AreKeysOf lines (set legs n (Some leg)) (set keys k key)
keys_with lines legs keys n k line place key leg found at there near inside told is = grind (arith, common_steps)

pub keys_without : (lines : ℕ) (legs : List (Option Leg)) (keys : List ℕ) (n k line place : ℕ) → AreKeysOf lines legs keys → n ≡ 30 * line + place → k ≡ 32 * line + place → place < 30 → n < length legs
    → AreKeysOf lines (set legs n None) (set keys k no_key)
keys_without lines legs keys n k line place found at there near inside = grind (arith, common_steps)

-- ---- the bounds, once a leg holds a slot

pub bounds_held : (timers : Timers) (legs : List (Option Leg)) (bounds lower : List ℕ) (n line place first : ℕ) (leg : Leg) → n ≡ 30 * line + place → place < 30 → n < length legs
    → length lower ≡ length bounds → AreLower bounds lower → slice_index lower place ≤ first → ((frame : ℕ) → frame < first → IsNotDue timers frame (Some leg))
    → AreBoundsOf timers legs bounds → AreBoundsOf timers (set legs n (Some leg)) lower
bounds_held timers legs bounds lower n line place first leg at near inside places less low not_due due =
    bounds_with timers legs bounds lower due (places ∙ due.places) less n line place at near inside (Some leg) (λ frame early. not_due frame (omega (arith, early, low)))
