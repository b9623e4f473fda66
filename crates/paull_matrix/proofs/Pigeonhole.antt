-- Numbers below a bound that differ are not more than the bound.
use Rattle.std.proofs.Common.{◌≡◌, ◌≢◌, ℕ, zero, suc, ◌+◌, ◌-◌, ◌<◌, ◌≤◌, true, false, cond, ltb, arith, sym, ap, subst, ◌∙◌, ⊎_elim}
use Rattle.std.specs.Prelude.{map, nat_eq}
use Rattle.std.specs.List.{list_any, range_with_len}
use Rattle.std.proofs.lemmas.Bool.{cases_lt, lt-ltb}
use Rattle.std.proofs.lemmas.Bool.Decides.{nat_tests}
use Rattle.std.proofs.lemmas.Map.Views.{exact_unsigned_eq}
use Rattle.std.proofs.lemmas.Map.Keys.{IsDistinct-from_apart}
use Rattle.std.proofs.lemmas.Map.Steps.{length-le_from_distinct_below}
use Rattle.std.proofs.lemmas.List.FromFn.{length-map-range_with_len, get_or-map-range_with_len}
use mathlib.Core.Logic.{inl, inr}
use Rattle.paull_matrix.proofs.Bools.{false_unless, or_cases}

-- n numbers below a bound, no two of them equal, are not more than the bound
in_range : (f : ℕ → ℕ) (n : ℕ) (a len q : ℕ) → ((k : ℕ) → a ≤ k → k < a + len → f k < n) → list_any (nat_eq q) (map f (range_with_len a len)) ≡ true → q < n
in_range f n a zero q below h = absurd (cc)
in_range f n a (suc len) q below h = elim (or_cases (nat_eq q (f a)) _ h) [
  | inl here ↦ subst (λ k. k < n) (sym (exact_unsigned_eq q (f a) here)) (below a (omega arith) (omega arith))
  | inr later ↦ in_range f n (a + 1) len q (λ k low high. below k (omega arith) (omega arith)) later
]

pub pigeonhole : (f : ℕ → ℕ) (len n : ℕ) → ((k : ℕ) → k < len → f k < n) → ((k l : ℕ) → k < l → l < len → f k ≡ f l → ⊥) → len ≤ n
pigeonhole f len n below apart =
    let size = length-map-range_with_len f 0 len in
    let distinct = IsDistinct-from_apart nat_eq (map f (range_with_len 0 len)) (λ k l d less inside.
    let early : k < len = omega arith in
    let late : l < len = omega arith in
    false_unless _ (λ e. apart k l less late
    (sym (get_or-map-range_with_len f 0 len k k d early (omega arith)) ∙ exact_unsigned_eq _ _ e ∙ get_or-map-range_with_len f 0 len l l d late (omega arith)))) in
    let few = length-le_from_distinct_below (map f (range_with_len 0 len)) n distinct (λ q e. in_range f n 0 len q (λ k low high. below k (omega arith)) e) in
    omega arith

-- ---- one number left out
-- numbers below n that miss one of them, closed up
abbrev pub closed_up : ℕ → ℕ → ℕ
closed_up gap k = cond (ltb k gap) k (k - 1)

le_ltb : (k gap : ℕ) → gap ≤ k → ltb k gap ≡ false
le_ltb k gap l = grind (arith, nat_tests)

below_gap : (gap k : ℕ) → k < gap → closed_up gap k ≡ k
below_gap gap k l = ap (λ b. cond b k (k - 1)) (lt-ltb k gap l)

above_gap : (gap k : ℕ) → gap ≤ k → closed_up gap k ≡ k - 1
above_gap gap k l = ap (λ b. cond b k (k - 1)) (le_ltb k gap l)

above : (gap k : ℕ) → gap ≤ k → k ≢ gap → gap < k
above gap k l apart = ⊎_elim (λ (m : gap < k). m) (λ (m : k ≤ gap). absurd (apart (omega (arith, l, m)))) (cases_lt gap k)

positive : (gap k : ℕ) → gap ≤ k → k ≢ gap → 0 < k
positive gap k l apart = let m = above gap k l apart in omega (arith, m)

above_inside : (gap n k : ℕ) → gap ≤ k → k < n + 1 → k ≢ gap → k - 1 < n
above_inside gap n k l inside apart = let some : 0 < k = positive gap k l apart in omega (arith, some, inside)

crossed : (gap k l : ℕ) → k < gap → gap ≤ l → l ≢ gap → k ≡ l - 1 → ⊥
crossed gap k l x y apart e = let more : gap < l = above gap l y apart in omega (arith, x, more, e)

both_above : (gap k l : ℕ) → gap ≤ k → gap ≤ l → k ≢ gap → l ≢ gap → k - 1 ≡ l - 1 → k ≡ l
both_above gap k l x y a b e = let p = positive gap k x a in let q = positive gap l y b in omega (arith, p, q, e)

pub closed_below : (gap n k : ℕ) → k < n + 1 → k ≢ gap → gap < n + 1 → closed_up gap k < n
closed_below gap n k inside apart at =
    ⊎_elim (λ (l : k < gap). subst (λ x. x < n) (sym (below_gap gap k l)) (omega (arith, l, at)))
    (λ (l : gap ≤ k). subst (λ x. x < n) (sym (above_gap gap k l)) (above_inside gap n k l inside apart)) (cases_lt k gap)

pub closed_apart : (gap k l : ℕ) → k ≢ gap → l ≢ gap → closed_up gap k ≡ closed_up gap l → k ≡ l
closed_apart gap k l a b e =
    ⊎_elim
    (λ (x : k < gap). ⊎_elim (λ (y : l < gap). sym (below_gap gap k x) ∙ e ∙ below_gap gap l y)
    (λ (y : gap ≤ l). absurd (crossed gap k l x y b (sym (below_gap gap k x) ∙ e ∙ above_gap gap l y))) (cases_lt l gap))
    (λ (x : gap ≤ k). ⊎_elim (λ (y : l < gap). absurd (crossed gap l k y x a (sym (below_gap gap l y) ∙ sym e ∙ above_gap gap k x)))
    (λ (y : gap ≤ l). both_above gap k l x y a b (sym (above_gap gap k x) ∙ e ∙ above_gap gap l y)) (cases_lt l gap))
    (cases_lt k gap)
