-- Lawful orders, as far as they go, and what may come next.
use Rattle.std.proofs.Common.{◌≡◌, ℕ, zero, suc, ◌+◌, ◌<◌, ◌≤◌, List, [], ◌∷◌, ◌++◌, length, take, get_or, slice_index, Contains, refl, sym, ap, subst, ◌∙◌, arith, inl, inr, length-append}
use Rattle.std.specs.Prelude.{◌↔◌}
use Rattle.std.proofs.lemmas.Bool.{cases_lt}
use Rattle.std.proofs.lemmas.List.{get_or-take, get_or_append_left, take-append-le, get_or_default}
use Rattle.std.proofs.lemmas.List.Elements.{All-nil, All-cons, All-append, All-take}
use Rattle.std.proofs.Math.Seq.{take-append_seam, get_or-append_seam}
use Rattle.exchange_events.specs.declared.trace.Trace.{Trace}
use Rattle.exchange_events.specs.Orders.{IsEvent, IsLawfulPrefix, Precedes}
use Rattle.run_verifier.specs.Verdicts.{MayFollow}

-- ---- no event

pub none_lawful : (trace : Trace) → IsLawfulPrefix trace []
none_lawful trace = record {
  known = All-nil (IsEvent trace);
  distinct = λ i j d below within. absurd (omega (arith, within));
  waits = λ i within. absurd (omega (arith, within));
}

-- ---- the first of a lawful order

take_twice : (xs : List ℕ) (i j : ℕ) → i ≤ j → take i (take j xs) ≡ take i xs
take_twice xs zero j below = refl
take_twice xs (suc i) zero below = absurd (omega (arith, below))
take_twice [] (suc i) (suc j) below = refl
take_twice (x ∷ xs) (suc i) (suc j) below = ap (λ (l : List ℕ). x ∷ l) (take_twice xs i j (omega (arith, below)))

take_short : (xs : List ℕ) (j : ℕ) → (length (take j xs) ≤ j) × (length (take j xs) ≤ length xs)
take_short xs zero = (omega arith, omega arith)
take_short [] (suc j) = (omega arith, omega arith)
take_short (x ∷ xs) (suc j) = let rest = take_short xs j in (omega (arith, rest.0), omega (arith, rest.1))

pub lawful_take : (trace : Trace) (order : List ℕ) (j : ℕ) → IsLawfulPrefix trace order → IsLawfulPrefix trace (take j order)
lawful_take trace order j lawful = record {
  known = All-take (IsEvent trace) j order lawful.known;
  distinct = λ a b d below within.
      let short = take_short order j in
      let first : get_or (take j order) a d ≡ get_or order a d = get_or-take j order a d (omega (arith, below, within, short.0)) in
      let second : get_or (take j order) b d ≡ get_or order b d = get_or-take j order b d (omega (arith, within, short.0)) in
      λ same. lawful.distinct a b d below (omega (arith, within, short.1)) (sym first ∙ same ∙ second);
  waits = λ k within m is precedes.
      let short = take_short order j in
      let read : slice_index (take j order) k ≡ slice_index order k = get_or-take j order k 0 (omega (arith, within, short.0)) in
      let front : take k (take j order) ≡ take k order = take_twice order k j (omega (arith, within, short.0)) in
      subst (λ (l : List ℕ). Contains l m) (sym front) (lawful.waits k (omega (arith, within, short.1)) m is (subst (Precedes trace m) read precedes));
}

pub lawful_front : (trace : Trace) (order more : List ℕ) → IsLawfulPrefix trace (order ++ more) → IsLawfulPrefix trace order
lawful_front trace order more lawful = subst (IsLawfulPrefix trace) (take-append_seam order more) (lawful_take trace (order ++ more) (length order) lawful)

-- ---- one event more

module _ (trace : Trace) (order : List ℕ) (n : ℕ) where
  long : length (order ++ n ∷ []) ≡ length order + 1
  long = length-append order (n ∷ [])

  get_or-append_last : (d : ℕ) → get_or (order ++ n ∷ []) (length order) d ≡ n
  get_or-append_last d = get_or-append_seam order n [] d

  get_or-append_before : (k d : ℕ) → k < length order → get_or (order ++ n ∷ []) k d ≡ get_or order k d
  get_or-append_before k d within = get_or_append_left order (n ∷ []) d k within

  pub follows : IsLawfulPrefix trace (order ++ n ∷ []) → MayFollow trace order n
  follows lawful = record {
    known = subst (IsEvent trace) (get_or-append_last 0) (lawful.known (length order) 0 (omega (arith, long)));
    new = λ at. lawful.distinct at.0 (length order) n at.1 (omega (arith, long)) (get_or-append_before at.0 n at.1 ∙ at.2 ∙ sym (get_or-append_last n));
    waits = λ m is precedes. subst (λ (l : List ℕ). Contains l m) (take-append_seam order (n ∷ []))
        (lawful.waits (length order) (omega (arith, long)) m is (subst (Precedes trace m) (sym (get_or-append_last 0)) precedes));
  }

  pub IsLawfulPrefix_goes_on : IsLawfulPrefix trace order → MayFollow trace order n → IsLawfulPrefix trace (order ++ n ∷ [])
  IsLawfulPrefix_goes_on lawful may = record {
    known = All-append (IsEvent trace) order (n ∷ []) lawful.known (All-cons (IsEvent trace) n [] may.known (All-nil (IsEvent trace)));
    distinct = λ a b d below within. elim (cases_lt b (length order)) [
      | inl left ↦ λ same. lawful.distinct a b d below left (sym (get_or-append_before a d (omega (arith, below, left))) ∙ same ∙ get_or-append_before b d left)
      | inr right ↦
          let at : length order ≡ b = omega (arith, within, long, right) in
          let early : a < length order = omega (arith, below, at) in
          λ same. may.new (a, early, get_or_default order a n d early ∙ sym (get_or-append_before a d early) ∙ same ∙ sym (ap (λ (k : ℕ). get_or (order ++ n ∷ []) k d) at) ∙ get_or-append_last d)
    ];
    waits = λ k within m is precedes. elim (cases_lt k (length order)) [
      | inl left ↦
          let front : take k (order ++ n ∷ []) ≡ take k order = take-append-le k order (n ∷ []) (omega (arith, left)) in
          subst (λ (l : List ℕ). Contains l m) (sym front) (lawful.waits k left m is (subst (Precedes trace m) (get_or-append_before k 0 left) precedes))
      | inr right ↦
          let at : length order ≡ k = omega (arith, within, long, right) in
          let read : slice_index (order ++ n ∷ []) k ≡ n = sym (ap (λ (i : ℕ). get_or (order ++ n ∷ []) i 0) at) ∙ get_or-append_last 0 in
          let front : take k (order ++ n ∷ []) ≡ order = sym (ap (λ (i : ℕ). take i (order ++ n ∷ [])) at) ∙ take-append_seam order (n ∷ []) in
          subst (λ (l : List ℕ). Contains l m) (sym front) (may.waits m is (subst (Precedes trace m) read precedes))
    ];
  }

pub IsLawfulPrefix-append : (trace : Trace) (order : List ℕ) (n : ℕ) → IsLawfulPrefix trace (order ++ n ∷ []) ↔ (IsLawfulPrefix trace order × MayFollow trace order n)
IsLawfulPrefix-append trace order n = (λ lawful. (lawful_front trace order (n ∷ []) lawful, follows trace order n lawful), λ both. IsLawfulPrefix_goes_on trace order n both.0 both.1)
