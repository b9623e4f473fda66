-- Steps of a run, and the changes of meters that are between them.
use Rattle.std.proofs.Common.{◌≡◌, ◌≢◌, ◌⊎◌, ℕ, zero, suc, ◌+◌, ◌<◌, ◌≤◌, ◌==◌, Bool, true, false, if◌then◌else◌, List, [], ◌∷◌, ◌++◌, length, refl, sym, ap, ◌∙◌, arith, inl, inr, append_assoc, append-nil}
use Rattle.std.specs.Prelude.{All, replicate}
use Rattle.std.proofs.lemmas.Bool.{eq-eqb, ne_eqb}
use Rattle.std.proofs.lemmas.List.Elements.{All-head, All-tail, All-weaker}
use Rattle.exchange_events.specs.declared.record.CallRecord.{CallRecord}
use Rattle.meters.specs.Changing.{Step, Event_done, Meters_changed, changes_at, records_of, with_changes}
use Rattle.meters.proofs.Changes.{records-append}

-- ---- the changes of a place

pub changes-append : (xs ys : List ℕ) (n : ℕ) → changes_at (xs ++ ys) n ≡ changes_at xs n ++ changes_at ys n
changes-append [] ys n = refl
changes-append (x ∷ xs) ys n = by_test (x == n) (changes-append xs ys n)
  where
    by_test : (b : Bool) → changes_at (xs ++ ys) n ≡ changes_at xs n ++ changes_at ys n
        → (if b then Meters_changed ∷ changes_at (xs ++ ys) n else changes_at (xs ++ ys) n) ≡ (if b then Meters_changed ∷ changes_at xs n else changes_at xs n) ++ changes_at ys n
    by_test true rest = ap (λ (l : List Step). Meters_changed ∷ l) rest
    by_test false rest = rest

-- none of the changes is there
pub changes-none : (xs : List ℕ) (n : ℕ) → All (λ x. x ≢ n) xs → changes_at xs n ≡ []
changes-none [] n other = refl
changes-none (x ∷ xs) n other =
    rw (ne_eqb x n (All-head (λ x. x ≢ n) x xs other)) (changes-none xs n (All-tail (λ x. x ≢ n) x xs other))

-- all of them are
pub changes-all : (xs : List ℕ) (n : ℕ) → All (λ x. x ≡ n) xs → changes_at xs n ≡ replicate (length xs) Meters_changed
changes-all [] n same = refl
changes-all (x ∷ xs) n same =
    rw (eq-eqb x n (All-head (λ x. x ≡ n) x xs same)) (ap (λ (l : List Step). Meters_changed ∷ l) (changes-all xs n (All-tail (λ x. x ≡ n) x xs same)))

-- ---- events with the changes behind them

pub with-append : (changes : List ℕ) (n : ℕ) (xs ys : List Step) → with_changes changes n (xs ++ ys) ≡ with_changes changes n xs ++ with_changes changes (n + length xs) ys
with-append changes n [] ys = ap (λ m. with_changes changes m ys) (omega arith)
with-append changes n (x ∷ xs) ys =
    let at = changes_at changes (n + 1) in
    let same : (n + 1) + length xs ≡ n + suc (length xs) = omega arith in
    ap (λ (l : List Step). x ∷ (at ++ l)) (with-append changes (n + 1) xs ys ∙ ap (λ m. with_changes changes (n + 1) xs ++ with_changes changes m ys) same)
    ∙ ap (λ (l : List Step). x ∷ l) (sym (append_assoc at (with_changes changes (n + 1) xs) (with_changes changes (n + suc (length xs)) ys)))

-- no change is between the places n and m
abbrev pub NoneBetween : ℕ → ℕ → List ℕ → Type 0
NoneBetween n m changes = All (λ count. (count ≤ n) ⊎ (m ≤ count)) changes

none_there : (n m place : ℕ) (changes : List ℕ) → NoneBetween n m changes → n < place → place < m → changes_at changes place ≡ []
none_there n m place changes none above below =
    changes-none changes place (All-weaker (λ count. (count ≤ n) ⊎ (m ≤ count)) (λ count. count ≢ place) (λ count apart same. elim apart [
      | inl early ↦ omega (arith, early, same, above)
      | inr late ↦ omega (arith, late, same, below)
    ]) changes none)

-- the events of a segment, with the changes behind the last of them
pub with-segment : (changes : List ℕ) (n : ℕ) (events : List Step) → 1 ≤ length events → NoneBetween n (n + length events) changes
    → with_changes changes n events ≡ events ++ changes_at changes (n + length events)
with-segment changes n [] some none = absurd (omega (arith, some))
with-segment changes n (e ∷ []) some none = ap (λ (l : List Step). e ∷ l) (append-nil (changes_at changes (n + 1)))
with-segment changes n (e ∷ f ∷ events) some none =
    let same : (n + 1) + length (f ∷ events) ≡ n + length (e ∷ f ∷ events) = omega arith in
    let later = All-weaker (λ count. (count ≤ n) ⊎ (n + length (e ∷ f ∷ events) ≤ count)) (λ count. (count ≤ n + 1) ⊎ ((n + 1) + length (f ∷ events) ≤ count))
    (λ count apart. elim apart [
      | inl early ↦ inl (omega (arith, early))
      | inr late ↦ inr (omega (arith, late))
    ]) changes none in
    ap (λ (l : List Step). e ∷ (l ++ with_changes changes (n + 1) (f ∷ events))) (none_there n (n + length (e ∷ f ∷ events)) (n + 1) changes none (omega arith) (omega arith))
    ∙ ap (λ (l : List Step). e ∷ l) (with-segment changes (n + 1) (f ∷ events) (omega arith) later ∙ ap (λ m. (f ∷ events) ++ changes_at changes m) same)

-- ---- records

-- changes have none
pub records-at : (changes : List ℕ) (n : ℕ) → records_of (changes_at changes n) ≡ []
records-at [] n = refl
records-at (count ∷ changes) n = by_test (count == n) (records-at changes n)
  where
    by_test : (b : Bool) → records_of (changes_at changes n) ≡ [] → records_of (if b then Meters_changed ∷ changes_at changes n else changes_at changes n) ≡ []
    by_test true rest = rest
    by_test false rest = rest

-- so they are the records of the events alone
pub records-with : (changes : List ℕ) (n : ℕ) (steps : List Step) → records_of (with_changes changes n steps) ≡ records_of steps
records-with changes n [] = refl
records-with changes n (Event_done line records ∷ steps) =
    ap (λ (rs : List CallRecord). records ++ rs)
    (records-append (changes_at changes (n + 1)) (with_changes changes (n + 1) steps) ∙ (λ i. records-at changes (n + 1) i ++ records-with changes (n + 1) steps i))
records-with changes n (Meters_changed ∷ steps) =
    records-append (changes_at changes (n + 1)) (with_changes changes (n + 1) steps) ∙ (λ i. records-at changes (n + 1) i ++ records-with changes (n + 1) steps i)

-- ---- no changes at all

pub with-none : (n : ℕ) (steps : List Step) → with_changes [] n steps ≡ steps
with-none n [] = refl
with-none n (step ∷ steps) = ap (λ (l : List Step). step ∷ l) (with-none (n + 1) steps)
