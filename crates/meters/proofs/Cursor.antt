-- The changes of a trace, gone over by a cursor.
use Rattle.std.proofs.Common.{◌≡◌, ◌≢◌, ◌⊎◌, ℕ, zero, suc, ◌+◌, ◌<◌, ◌≤◌, ◌==◌, Bool, true, false, List, [], ◌∷◌, ◌++◌, length, get_or, refl, sym, ap, ◌∙◌, subst, arith, inl, inr}
use Rattle.std.specs.Prelude.{All, AllPairs, replicate}
use Rattle.std.proofs.lemmas.Bool.{cases_eq, cases_lt, eq-eqb, ne_eqb}
use Rattle.std.proofs.lemmas.List.Elements.{All-nil, All-cons, All-head, All-tail}
use Rattle.std.proofs.lemmas.Grind.{get_or_default_zero}
use Rattle.std.proofs.lemmas.List.Folds.{Any-from_list_any}
use Rattle.std.proofs.lemmas.List.Kept.{AllPairs-cons}
use Rattle.exchange_events.specs.Sound.{AreChanges, AreSegments, is_between}
use Rattle.meters.specs.Changing.{Step, Meters_changed, IsAt, IsPast, changes_at}
use Rattle.meters.proofs.Placed.{NoneBetween}

pub at_first : (changes : List ℕ) → IsAt changes 0 0
at_first changes = record { within = omega arith; early = λ k below. absurd (omega (arith, below)); late = λ k above inside. omega arith }

-- ---- the changes of a place are those that were done

-- however many a place has
uniform : (changes : List ℕ) (place : ℕ) → (n : ℕ) × (changes_at changes place ≡ replicate n Meters_changed)
uniform [] place = (0, refl)
uniform (c ∷ changes) place =
    let rest = uniform changes place in
    elim (cases_eq c place) [
      | inl same ↦ (suc rest.0, rw (eq-eqb c place same) (ap (λ (l : List Step). Meters_changed ∷ l) rest.1))
      | inr other ↦ (rest.0, rw (ne_eqb c place other) rest.1)
    ]

-- some of them were done
pub some_done : (changes : List ℕ) (start count place : ℕ) → start + count ≤ length changes → ((k : ℕ) → k < start → get_or changes k 0 < place)
    → ((k : ℕ) → start ≤ k → k < start + count → get_or changes k 0 ≡ place) → (left : ℕ) × (changes_at changes place ≡ replicate count Meters_changed ++ replicate left Meters_changed)
some_done changes zero zero place within early here = uniform changes place
some_done [] (suc start) count place within early here = absurd (omega (arith, within))
some_done [] zero (suc count) place within early here = absurd (omega (arith, within))
some_done (c ∷ changes) (suc start) count place within early here =
    let first : c < place = early 0 (omega arith) in
    let rest = some_done changes start count place (omega (arith, within)) (λ k below. early (suc k) (omega (arith, below))) (λ k above below. here (suc k) (omega (arith, above)) (omega (arith, below))) in
    (rest.0, rw (ne_eqb c place (λ same. omega (arith, first, same))) rest.1)
some_done (c ∷ changes) zero (suc count) place within early here =
    let first : c ≡ place = here 0 (omega arith) (omega arith) in
    let rest = some_done changes zero count place (omega (arith, within)) (λ k below. absurd (omega (arith, below))) (λ k above below. here (suc k) (omega arith) (omega (arith, below))) in
    (rest.0, rw (eq-eqb c place first) (ap (λ (l : List Step). Meters_changed ∷ l) rest.1))

-- all of them were
pub changes_at_all_done : (changes : List ℕ) (start count place : ℕ) → start + count ≤ length changes → ((k : ℕ) → k < start → get_or changes k 0 < place)
    → ((k : ℕ) → start ≤ k → k < start + count → get_or changes k 0 ≡ place) → ((k : ℕ) → start + count ≤ k → k < length changes → place < get_or changes k 0)
    → changes_at changes place ≡ replicate count Meters_changed
changes_at_all_done [] zero zero place within early here late = refl
changes_at_all_done [] (suc start) count place within early here late = absurd (omega (arith, within))
changes_at_all_done [] zero (suc count) place within early here late = absurd (omega (arith, within))
changes_at_all_done (c ∷ changes) zero zero place within early here late =
    let first : place < c = late 0 (omega arith) (omega arith) in
    rw (ne_eqb c place (λ same. omega (arith, first, same)))
    (changes_at_all_done changes zero zero place (omega arith) (λ k below. absurd (omega (arith, below))) (λ k above below. absurd (omega (arith, below))) (λ k above inside. late (suc k) (omega arith) (omega (arith, inside))))
changes_at_all_done (c ∷ changes) (suc start) count place within early here late =
    let first : c < place = early 0 (omega arith) in
    rw (ne_eqb c place (λ same. omega (arith, first, same)))
    (changes_at_all_done changes start count place (omega (arith, within)) (λ k below. early (suc k) (omega (arith, below))) (λ k above below. here (suc k) (omega (arith, above)) (omega (arith, below)))
    (λ k above inside. late (suc k) (omega (arith, above)) (omega (arith, inside))))
changes_at_all_done (c ∷ changes) zero (suc count) place within early here late =
    let first : c ≡ place = here 0 (omega arith) (omega arith) in
    rw (eq-eqb c place first) (ap (λ (l : List Step). Meters_changed ∷ l)
    (changes_at_all_done changes zero count place (omega (arith, within)) (λ k below. absurd (omega (arith, below))) (λ k above below. here (suc k) (omega arith) (omega (arith, below)))
    (λ k above inside. late (suc k) (omega (arith, above)) (omega (arith, inside)))))

-- ---- where the cursor is

-- the changes of a place were done from the first of them on
pub past_these : (changes : List ℕ) (start count place : ℕ) → AllPairs (λ m n. m ≤ n) changes → IsAt changes start place → start + count ≤ length changes
    → ((k : ℕ) → start ≤ k → k < start + count → get_or changes k 0 ≡ place) → (start + count < length changes → get_or changes (start + count) 0 ≢ place) → IsPast changes (start + count) place
past_these changes start count place rising at within here stops = record {
  within = within;
  early = λ k below. elim (cases_lt k start) [
    | inl before ↦ let less = at.early k before in omega (arith, less)
    | inr not_before ↦ let same = here k (omega (arith, not_before)) below in omega (arith, same)
  ];
  late = λ k above inside.
      let next = start + count in
      let differs = stops (omega (arith, above, inside)) in
      let least = at.late next (omega arith) (omega (arith, above, inside)) in
      elim (cases_eq k next) [
        | inl same ↦ let k_least = at.late k (omega (arith, above)) inside in
            elim (cases_eq (get_or changes k 0) place) [
              | inl there ↦ absurd (differs (ap (λ i. get_or changes i 0) (sym same) ∙ there))
              | inr other ↦ omega (arith, k_least, other)
            ]
        | inr later ↦ let more = rising next k 0 (omega (arith, above, later)) inside in
            elim (cases_eq (get_or changes next 0) place) [
              | inl there ↦ absurd (differs there)
              | inr other ↦ omega (arith, least, other, more)
            ]
      ];
}

-- a place between segments is one before the first of them, or the end of one
between_at : (ends : List ℕ) (place : ℕ) → is_between ends place ≡ true → (k : ℕ) × (k < length (0 ∷ ends)) × (get_or (0 ∷ ends) k 0 ≡ place)
between_at ends place is =
    let a = Any-from_list_any (λ (n : ℕ). n == place) (0 ∷ ends) is in
    (a.0, a.2, get_or_zero (0 ∷ ends) a.0 a.1 a.2 ∙ (a.3 ∙ from_eqb a.1 place a.4))
  where
    get_or_zero : (xs : List ℕ) (i x : ℕ) → i < length xs → get_or xs i 0 ≡ get_or xs i x
    get_or_zero [] i x inside = absurd (omega (arith, inside))
    get_or_zero (y ∷ xs) zero x inside = refl
    get_or_zero (y ∷ xs) (suc i) x inside = get_or_zero xs i x (omega (arith, inside))

    from_eqb : (m n : ℕ) → (m == n) ≡ true → m ≡ n
    from_eqb m n is = elim (cases_eq m n) [
      | inl same ↦ same
      | inr other ↦ let not = ne_eqb m n other in absurd (cc)
    ]

-- the next place at which meters may change is the end of the next segment
module _ (ends changes : List ℕ) (events segment : ℕ) (segments : AreSegments events ends) (are : AreChanges ends changes) (more : segment < length ends) where
  all_rise : AllPairs (λ m n. m < n) (0 ∷ ends)
  all_rise = AllPairs-cons (λ m n. m < n) 0 ends (λ k d inside. let one = segments.some k d inside in omega (arith, one)) segments.rising

  not_before : (i j : ℕ) → i ≤ j → j < length (0 ∷ ends) → get_or (0 ∷ ends) i 0 ≤ get_or (0 ∷ ends) j 0
  not_before i j most inside = elim (cases_lt i j) [
    | inl less ↦ let rise = all_rise i j 0 less inside in omega (arith, rise)
    | inr not_less ↦ let same : i ≡ j = omega (arith, most, not_less) in subst (λ (k : ℕ). get_or (0 ∷ ends) i 0 ≤ get_or (0 ∷ ends) k 0) same (omega arith)
  ]

  next_place : (place : ℕ) → is_between ends place ≡ true → get_or (0 ∷ ends) segment 0 < place → get_or (0 ∷ ends) (suc segment) 0 ≤ place
  next_place place is above =
      let a = between_at ends place is in
      elim (cases_lt segment a.0) [
        | inl later ↦ let least = not_before (suc segment) a.0 (omega (arith, later)) a.1 in omega (arith, least, a.2)
        | inr not_later ↦ let most = not_before a.0 segment (omega (arith, not_later)) (omega (arith, more)) in absurd (omega (arith, most, a.2, above))
      ]

  pub next_above : get_or (0 ∷ ends) segment 0 < get_or (0 ∷ ends) (suc segment) 0
  next_above = all_rise segment (suc segment) 0 (omega arith) (omega (arith, more))

  pub at_next : (cursor : ℕ) → IsPast changes cursor (get_or (0 ∷ ends) segment 0) → IsAt changes cursor (get_or (0 ∷ ends) (suc segment) 0)
  at_next cursor past = record {
    within = past.within;
    early = λ k below. let low = past.early k below in let rise = next_above in omega (arith, low, rise);
    late = λ k above inside. next_place (get_or changes k 0) (are.between k 0 inside) (past.late k above inside);
  }

  pub none_between : (cursor : ℕ) → IsPast changes cursor (get_or (0 ∷ ends) segment 0) → NoneBetween (get_or (0 ∷ ends) segment 0) (get_or (0 ∷ ends) (suc segment) 0) changes
  none_between cursor past = λ k d inside. elim (cases_lt k cursor) [
    | inl before ↦ inl (subst (λ (n : ℕ). n ≤ get_or (0 ∷ ends) segment 0) (sym (get_or_default_zero changes k d inside)) (past.early k before))
    | inr not_before ↦ inr (subst (λ (n : ℕ). get_or (0 ∷ ends) (suc segment) 0 ≤ n) (sym (get_or_default_zero changes k d inside)) (next_place (get_or changes k 0) (are.between k 0 inside) (past.late k (omega (arith, not_before)) inside)))
  ]
