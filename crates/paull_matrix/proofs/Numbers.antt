-- What the lowest number that passes is, and how a count changes.
use Rattle.std.proofs.Common.{◌≡◌, ◌≢◌, ℕ, zero, suc, ◌+◌, ◌<◌, ◌≤◌, Bool, true, false, Option, Some, None, arith, refl, sym, ap, subst, ◌∙◌}
use Rattle.std.proofs.lemmas.Bool.{cases_lt}
use Rattle.std.specs.Prelude.{◌⊎◌}
use mathlib.Core.Logic.{inl, inr}
use Rattle.std.proofs.lemmas.List.Sums.{sum_by-append}
use Rattle.std.proofs.lemmas.List.Folds.{find-append}
use Rattle.std.specs.Prelude.{cond, find, count_by, if◌then◌else◌, [], ◌∷◌, ◌++◌}
use Rattle.std.specs.List.{range_with_len}
use Rattle.std.specs.Option.{option_or}
use Rattle.paull_matrix.proofs.Bools.{false_unless}
use Rattle.paull_matrix.specs.Numbers.{lowest, count_below}

-- an answer that was found before, or else the number, where it passes
or_this : Option ℕ → Bool → ℕ → Option ℕ
or_this (Some found) passes n = Some found
or_this None passes n = if passes then Some n else None

-- the numbers below the next bound
range_more : (a n : ℕ) → range_with_len a (suc n) ≡ range_with_len a n ++ (a + n) ∷ []
range_more a zero = ap (λ k. k ∷ []) (omega arith)
range_more a (suc n) = ap (λ ks. a ∷ ks) (range_more (a + 1) n ∙ ap (λ k. range_with_len (a + 1) n ++ k ∷ []) (omega arith))

range_next : (n : ℕ) → range_with_len 0 (suc n) ≡ range_with_len 0 n ++ n ∷ []
range_next n = range_more 0 n ∙ ap (λ k. range_with_len 0 n ++ k ∷ []) (omega arith)

or_else : (o : Option ℕ) (b : Bool) (n : ℕ) → option_or o (cond b (Some n) None) ≡ or_this o b n
unfolding or_this
or_else (Some found) b n = refl
or_else None true n = refl
or_else None false n = refl

-- one number more
lowest_step : (p : ℕ → Bool) (n : ℕ) → lowest p (suc n) ≡ or_this (lowest p n) (p n) n
lowest_step p n = ap (find p) (range_next n) ∙ find-append p (range_with_len 0 n) (n ∷ []) ∙ or_else (lowest p n) (p n) n

count_step : (p : ℕ → Bool) (n : ℕ) → count_below p (suc n) ≡ count_below p n + (if p n then 1 else 0)
count_step p n = ap (λ ks. count_by p ks) (range_next n) ∙ sum_by-append (λ k. cond (p k) 1 0) (range_with_len 0 n) (n ∷ []) ∙ ap (λ k. count_below p n + k) (omega arith)

or_this_cases : (o : Option ℕ) (b : Bool) (n k : ℕ) → or_this o b n ≡ Some k → (o ≡ Some k) ⊎ ((o ≡ None) × (b ≡ true) × (n ≡ k))
unfolding or_this
or_this_cases (Some f) b n k e = inl e
or_this_cases None true n k e = inr (refl, refl, cc)
or_this_cases None false n k e = absurd (cc)

or_this_none : (o : Option ℕ) (b : Bool) (n : ℕ) → or_this o b n ≡ None → (o ≡ None) × (b ≡ false)
unfolding or_this
or_this_none (Some f) b n e = absurd (cc)
or_this_none None true n e = absurd (cc)
or_this_none None false n e = (refl, refl)

-- the lowest passes, and lies below the bound
pub lowest_passes : (p : ℕ → Bool) (n k : ℕ) → lowest p n ≡ Some k → (p k ≡ true) × (k < n)
lowest_passes p zero k e = absurd (cc)
lowest_passes p (suc n) k e = elim (or_this_cases (lowest p n) (p n) n k (sym (lowest_step p n) ∙ e)) [
  | inl found ↦ let earlier = lowest_passes p n k found in (earlier.0, omega arith)
  | inr last ↦ (ap p (sym last.2) ∙ last.1, omega arith)
]

to_last : (k n : ℕ) → k < suc n → (k < n) ⊎ (k ≡ n)
to_last k n below = elim (cases_lt k n) [ inl less ↦ inl less | inr more ↦ inr (omega arith) ]

-- where there is no lowest, none passes
pub lowest_none : (p : ℕ → Bool) (n k : ℕ) → lowest p n ≡ None → k < n → p k ≡ false
lowest_none p zero k e below = absurd (omega arith)
lowest_none p (suc n) k e below =
    let parts = or_this_none (lowest p n) (p n) n (sym (lowest_step p n) ∙ e) in
    elim (to_last k n below) [
      | inl less ↦ lowest_none p n k parts.0 less
      | inr same ↦ ap p same ∙ parts.1
    ]

-- the lowest is lowest: a number below it does not pass
pub lowest_least : (p : ℕ → Bool) (n k m : ℕ) → lowest p n ≡ Some k → m < k → p m ≡ false
lowest_least p zero k m e less = absurd (cc)
lowest_least p (suc n) k m e less = elim (or_this_cases (lowest p n) (p n) n k (sym (lowest_step p n) ∙ e)) [
  | inl found ↦ lowest_least p n k m found less
  | inr last ↦ lowest_none p n m last.0 (omega arith)
]

or_this_found : (o : Option ℕ) (b : Bool) (n k : ℕ) → o ≡ Some k → or_this o b n ≡ Some k
unfolding or_this
or_this_found (Some f) b n k e = e
or_this_found None b n k e = absurd (cc)

or_this_last : (o : Option ℕ) (b : Bool) (n : ℕ) → o ≡ None → b ≡ true → or_this o b n ≡ Some n
unfolding or_this
or_this_last (Some f) b n e t = absurd (cc)
or_this_last None true n e t = refl
or_this_last None false n e t = absurd (cc)

or_this_past : (o : Option ℕ) (b : Bool) (n : ℕ) → o ≡ None → b ≡ false → or_this o b n ≡ None
unfolding or_this
or_this_past (Some f) b n e t = absurd (cc)
or_this_past None true n e t = absurd (cc)
or_this_past None false n e t = refl

-- what is lowest below a bound is lowest below a higher one
pub lowest_stays : (p : ℕ → Bool) (n k : ℕ) → lowest p (suc k) ≡ Some k → k < n → lowest p n ≡ Some k
lowest_stays p zero k e below = absurd (omega arith)
lowest_stays p (suc n) k e below = elim (to_last k n below) [
  | inl less ↦ lowest_step p n ∙ or_this_found (lowest p n) (p n) n k (lowest_stays p n k e less)
  | inr same ↦ subst (λ m. lowest p (suc m) ≡ Some k) same e
]

-- a number that passes, where none below it did
pub lowest_found_at : (p : ℕ → Bool) (n k : ℕ) → lowest p k ≡ None → p k ≡ true → k < n → lowest p n ≡ Some k
lowest_found_at p n k none t below = lowest_stays p n k (lowest_step p k ∙ or_this_last (lowest p k) (p k) k none t) below

lowest_none_lower : (p : ℕ → Bool) (n : ℕ) → ((m : ℕ) → m < n → p m ≡ false) → lowest p n ≡ None
lowest_none_lower p zero none = refl
lowest_none_lower p (suc n) none = lowest_step p n ∙ or_this_past (lowest p n) (p n) n (lowest_none_lower p n (λ m below. none m (omega arith))) (none n (omega arith))

-- a number that passes, where none below it does, is the lowest
pub lowest_is : (p : ℕ → Bool) (n k : ℕ) → p k ≡ true → k < n → ((m : ℕ) → m < k → p m ≡ false) → lowest p n ≡ Some k
lowest_is p n k t below none = lowest_found_at p n k (lowest_none_lower p k none) t below

-- the only number that passes is the lowest
pub lowest_only : (p : ℕ → Bool) (n k : ℕ) → p k ≡ true → k < n → ((m : ℕ) → p m ≡ true → m ≡ k) → lowest p n ≡ Some k
lowest_only p n k t below only = lowest_is p n k t below (λ m less. false_unless (p m) (λ passes. let same = only m passes in omega arith))

-- where none passes there is no lowest
pub lowest_of_none : (p : ℕ → Bool) (n : ℕ) → ((m : ℕ) → m < n → p m ≡ true → ⊥) → lowest p n ≡ None
lowest_of_none p n none = lowest_none_lower p n (λ m below. false_unless (p m) (none m below))

-- where none is left over, each counts
pub count_full : (p left : ℕ → Bool) (n : ℕ) → ((k : ℕ) → left k ≡ false → p k ≡ true) → lowest left n ≡ None → count_below p n ≡ n
count_full p left zero each e = refl
count_full p left (suc n) each e =
    let parts = or_this_none (lowest left n) (left n) n (sym (lowest_step left n) ∙ e) in
    let before = count_full p left n each parts.0 in
    rw (count_step p n, each n parts.1) (omega arith)

pub count_same : (p q : ℕ → Bool) (n : ℕ) → ((k : ℕ) → k < n → p k ≡ q k) → count_below p n ≡ count_below q n
count_same p q zero same = refl
count_same p q (suc n) same = rw (count_step p n, count_step q n, count_same p q n (λ k below. same k (omega arith)), same n (omega arith)) refl

-- one number more passes
pub count_more : (p q : ℕ → Bool) (n k : ℕ) → k < n → p k ≡ false → q k ≡ true → ((m : ℕ) → m ≢ k → p m ≡ q m) → count_below q n ≡ count_below p n + 1
count_more p q zero k below off on same = absurd (omega arith)
count_more p q (suc n) k below off on same = elim (to_last k n below) [
  | inl less ↦ let here : n ≢ k = omega arith in rw (count_step p n, count_step q n, count_more p q n k less off on same, same n here) (omega arith)
  | inr last ↦ rw (count_step p n, count_step q n, sym last, off, on, count_same q p k (λ m less. sym (same m (omega arith)))) (omega arith)
]

count_most : (p : ℕ → Bool) (n : ℕ) → count_below p n ≤ n
count_most p zero = omega arith
count_most p (suc n) = cases (p n) refl (count_most p n)
  where
    cases : (c : Bool) → p n ≡ c → count_below p n ≤ n → count_below p (suc n) ≤ suc n
    cases true here most = rw (count_step p n, here) (omega arith)
    cases false here most = rw (count_step p n, here) (omega arith)

-- where one does not pass, not all count
pub count_short : (p : ℕ → Bool) (n k : ℕ) → k < n → p k ≡ false → count_below p n < n
count_short p zero k below off = absurd (omega arith)
count_short p (suc n) k below off = elim (to_last k n below) [
  | inl less ↦ earlier (p n) refl (count_short p n k less off)
  | inr last ↦ let most = count_most p n in let at : p n ≡ false = ap p (sym last) ∙ off in rw (count_step p n, at) (omega arith)
]
  where
    earlier : (c : Bool) → p n ≡ c → count_below p n < n → count_below p (suc n) < suc n
    earlier true here short = rw (count_step p n, here) (omega arith)
    earlier false here short = rw (count_step p n, here) (omega arith)

-- two tests that agree below the bound have one lowest number
pub lowest_same : (p q : ℕ → Bool) (n : ℕ) → ((k : ℕ) → k < n → p k ≡ q k) → lowest p n ≡ lowest q n
lowest_same p q zero same = refl
lowest_same p q (suc n) same =
    lowest_step p n
    ∙ ap (λ o. or_this o (p n) n) (lowest_same p q n (λ k below. same k (omega arith)))
    ∙ ap (λ b. or_this (lowest q n) b n) (same n (omega arith))
    ∙ sym (lowest_step q n)
