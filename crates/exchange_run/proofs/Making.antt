-- The changes of a place: which they are, what the meters say that they take out, and what is left.
use Rattle.std.proofs.Common.{◌≡◌, ◌≢◌, ◌⊎◌, inl, inr, ◌==◌, true, false, ℕ, zero, suc, ◌+◌, ◌-◌, ◌≤◌, List, [], ◌∷◌, ◌++◌, length, map, take, drop, refl, sym, ap, ◌∙◌, subst, arith, append_assoc, append-nil, take-append-drop, add-one}
use Rattle.std.specs.Prelude.{AllPairs, replicate}
use Rattle.std.specs.List.{concat}
use Rattle.std.proofs.lemmas.Bool.{cases_eq, eq-eqb, ne_eqb}
use Rattle.exchange_events.specs.declared.record.CallRecord.{CallRecord}
use Rattle.meters.specs.Changing.{AreChangedBy, AreMetered, IsAt, IsPast, Metering, Meters_changed, after_step, after_steps, changes_at, steps_text}
use Rattle.meters.proofs.Changes.{metered-change, says-change}
use Rattle.meters.proofs.Cursor.{changes_at_all_done, past_these}
use Rattle.exchange_run.specs.Changes.{AreChangesDone, AreMoved, IsRow, leaving}

-- ---- the first few of two lists

take-none : {X : Type 0} (n : ℕ) → take n (let none : List X = [] in none) ≡ []
take-none zero = refl
take-none (suc n) = refl

take-both : {X : Type 0} (n : ℕ) (xs ys : List X) → take n (xs ++ ys) ≡ take n xs ++ take (n - length xs) ys
take-both zero xs ys = let none : 0 ≡ 0 - length xs = omega arith in ap (λ k. take k ys) none
take-both (suc n) [] ys = let same : suc n ≡ suc n - 0 = omega arith in ap (λ k. take k ys) same
take-both (suc n) (x ∷ xs) ys = let same : n - length xs ≡ suc n - length (x ∷ xs) = omega arith in ap (λ l. x ∷ l) (take-both n xs ys ∙ ap (λ k. take n xs ++ take k ys) same)

-- ---- the meters that changes take out

leaving-more : {M : Type 0} (k : ℕ) (meters spare : List M) → take 1 meters ++ leaving k (drop 1 meters ++ take 1 spare) (drop 1 spare) ≡ leaving (suc k) meters spare
leaving-more k [] [] = take-none (k - 1) ∙ sym (take-none (suc k - 1))
leaving-more k [] (x ∷ spare) = let same : k ≡ suc k - 1 = omega arith in ap (λ n. take n (x ∷ spare)) same
leaving-more k (m ∷ []) [] = ap (λ l. m ∷ l) (take-none (k - 1) ∙ sym (take-none k))
leaving-more k (m ∷ []) (x ∷ spare) = refl
leaving-more k (m ∷ o ∷ meters) spare =
    ap (λ l. m ∷ take k (o ∷ l)) (append_assoc meters (take 1 spare) (drop 1 spare) ∙ ap (λ l. meters ++ l) (take-append-drop 1 spare))

leaving-none : {M : Type 0} (meters spare : List M) → leaving 0 meters spare ≡ []
leaving-none [] spare = let same : 0 - 1 ≡ 0 = omega arith in ap (λ n. take n spare) same
leaving-none (m ∷ meters) spare = refl

pub leaving-empty : {M : Type 0} (n : ℕ) (meters spare : List M) → length meters ≡ 0 → leaving n meters spare ≡ take (n - 1) (meters ++ spare)
leaving-empty n [] spare none = refl
leaving-empty n (m ∷ meters) spare none = absurd (omega (arith, none))

pub leaving-some : {M : Type 0} (n : ℕ) (meters spare : List M) → length meters ≢ 0 → leaving n meters spare ≡ take n (meters ++ spare)
leaving-some n [] spare some = absurd (some refl)
leaving-some n (m ∷ meters) spare some = refl

module _ {M : Type 0} (text : M → List CallRecord → List ℕ) where
  -- what some meters say, one after another
  abbrev pub texts : List M → List ℕ
  texts ms = concat (map (λ m. text m []) ms)

  texts-append : (xs ys : List M) → texts (xs ++ ys) ≡ texts xs ++ texts ys
  texts-append [] ys = refl
  texts-append (x ∷ xs) ys = ap (λ (t : List ℕ). text x [] ++ t) (texts-append xs ys) ∙ sym (append_assoc (text x []) (texts xs) (texts ys))

  -- the first few of meters and of spare ones, which are in two parts
  pub said_first : (n left last : ℕ) (meters front back spare : List M) (said one two all : List ℕ) → front ++ back ≡ spare → one ≡ said ++ texts (take n meters) → left ≡ n - length meters
      → two ≡ one ++ texts (take left front) → last ≡ left - length front → all ≡ two ++ texts (take last back) → all ≡ said ++ texts (take n (meters ++ spare))
  said_first n left last meters front back spare said one two all parts first left_is second last_is third =
      let rest : take left spare ≡ take left front ++ take last back =
      ap (take left) (sym parts) ∙ (take-both left front back ∙ ap (λ k. take left front ++ take k back) (sym last_is)) in
      let whole : take n (meters ++ spare) ≡ take n meters ++ (take left front ++ take last back) =
      take-both n meters spare ∙ ap (λ l. take n meters ++ l) (ap (λ k. take k spare) (sym left_is) ∙ rest) in
      third
      ∙ (ap (λ (t : List ℕ). t ++ texts (take last back)) (second ∙ ap (λ (t : List ℕ). t ++ texts (take left front)) first)
      ∙ (append_assoc (said ++ texts (take n meters)) (texts (take left front)) (texts (take last back))
      ∙ (append_assoc said (texts (take n meters)) (texts (take left front) ++ texts (take last back))
      ∙ ap (λ (t : List ℕ). said ++ t)
      (ap (λ (t : List ℕ). texts (take n meters) ++ t) (sym (texts-append (take left front) (take last back)))
      ∙ (sym (texts-append (take n meters) (take left front ++ take last back)) ∙ ap texts (sym whole))))))

  -- so they are those that changes take out
  pub says_leaving : (count n left last : ℕ) (slice meters front back spare : List M) (said one two all : List ℕ) → slice ≡ meters
      → ((length meters ≡ 0) × (n ≡ count - 1)) ⊎ ((length meters ≢ 0) × (n ≡ count)) → front ++ back ≡ spare → one ≡ said ++ texts (take n slice) → left ≡ n - length slice
      → two ≡ one ++ texts (take left front) → last ≡ left - length front → all ≡ two ++ texts (take last back) → all ≡ said ++ texts (leaving count meters spare)
  says_leaving count n left last slice meters front back spare said one two all same which parts first left_is second last_is third =
      let these : take n (slice ++ spare) ≡ leaving count meters spare =
      ap (λ (l : List M). take n (l ++ spare)) same
      ∙ elim which [
        | inl none ↦ ap (λ k. take k (meters ++ spare)) none.1 ∙ sym (leaving-empty count meters spare none.0)
        | inr some ↦ ap (λ k. take k (meters ++ spare)) some.1 ∙ sym (leaving-some count meters spare some.0)
      ] in
      said_first n left last slice front back spare said one two all parts first left_is second last_is third ∙ ap (λ (l : List M). said ++ texts l) these

-- a test of a length
pub zero_length : (n : ℕ) → (n == 0) ≡ true → n ≡ 0
zero_length n is = elim (cases_eq n 0) [
  | inl same ↦ same
  | inr other ↦ let not = ne_eqb n 0 other in absurd (cc)
]

pub some_length : (n : ℕ) → (n == 0) ≡ false → n ≢ 0
some_length n is = λ none. let yes = eq-eqb n 0 none in cc

module _ {M : Type 0} (stands : M → List CallRecord → Type 0) (text : M → List CallRecord → List ℕ) where
  -- n changes write the texts of the meters that they remove
  said_leaving : (n : ℕ) (s : Metering M) (meters spare : List M) → AreMetered stands text s meters spare → steps_text text (replicate n Meters_changed) s ≡ texts text (leaving n meters spare)
  said_leaving zero s meters spare a = ap (texts text) (sym (leaving-none meters spare))
  said_leaving (suc n) s meters spare a =
      let then = drop 1 meters ++ take 1 spare in
      (λ i. sym (says-change stands text s meters spare a) i ++ said_leaving n (after_step Meters_changed s) then (drop 1 spare) (metered-change stands text s meters spare a) i)
      ∙ (sym (texts-append text (take 1 meters) (leaving n then (drop 1 spare))) ∙ ap (texts text) (leaving-more n meters spare))

  -- ---- one change

  pub changed_once : (meters spare between now now_spare : List M) (cleared said out all : List ℕ) → cleared ≡ [] → said ≡ cleared ++ texts text (leaving 1 meters spare) → between ≡ meters
      → AreMoved stands text 1 between spare now now_spare → all ≡ out ++ said → AreChangedBy stands text 1 meters spare out now now_spare all
  changed_once meters spare between now now_spare cleared said out all none says same moved is = record {
    left = subst (λ (ms : List M). AreMoved stands text 1 ms spare now now_spare) same moved;
    said_is = λ s a. is ∙ ap (λ (t : List ℕ). out ++ t) (says ∙ (ap (λ (t : List ℕ). t ++ texts text (leaving 1 meters spare)) none ∙ sym (said_leaving 1 s meters spare a)));
  }

  -- ---- what is left

  after_last : (n : ℕ) (s : Metering M) → after_steps (replicate (suc n) Meters_changed) s ≡ after_step Meters_changed (after_steps (replicate n Meters_changed) s)
  after_last zero s = refl
  after_last (suc n) s = after_last n (after_step Meters_changed s)

  pub moved_none : (meters spare : List M) → AreMoved stands text 0 meters spare meters spare
  moved_none meters spare = λ s a. a

  -- one change more
  pub moved_more : (n : ℕ) (meters spare between left then now : List M) → AreMoved stands text n meters spare between left → then ≡ drop 1 between ++ take 1 left → now ≡ drop 1 left
      → AreMoved stands text (n + 1) meters spare then now
  moved_more n meters spare between left then now moved is spares = rw (add-one n) (λ s a.
      subst (λ (t : Metering M). AreMetered stands text t then now) (sym (after_last n s))
      (rw (is, spares) (metered-change stands text (after_steps (replicate n Meters_changed) s) between left (moved s a))))

  -- ---- the changes of a place

  module _ (changes : List ℕ) (start place end : ℕ) (rising : AllPairs (λ m n. m ≤ n) changes) (at : IsAt changes start place) (row : IsRow changes start place end) where
    up_to : start + (end - start) ≡ end
    up_to = let from = row.from in omega (arith, from)

    row_past : IsPast changes end place
    row_past = subst (λ (n : ℕ). IsPast changes n place) up_to
        (past_these changes start (end - start) place rising at (rw up_to row.within) (λ k above below. row.same k above (rw up_to at below)) (rw up_to row.last))

    row_are : changes_at changes place ≡ replicate (end - start) Meters_changed
    row_are = changes_at_all_done changes start (end - start) place (rw up_to row.within) at.early (λ k above below. row.same k above (rw up_to at below))
        (λ k above inside. row_past.late k (rw up_to at above) inside)

    module _ (meters spare : List M) (said : List ℕ) where
      -- they were made
      pub changes_done : (now now_spare : List M) (all : List ℕ) → all ≡ said ++ texts text (leaving (end - start) meters spare) → AreMoved stands text (end - start) meters spare now now_spare
          → AreChangesDone stands text changes place meters spare said now now_spare all end
      changes_done now now_spare all says moved = record {
        count = end - start;
        made = record { left = moved; said_is = λ s a. says ∙ ap (λ (t : List ℕ). said ++ t) (sym (said_leaving (end - start) s meters spare a)) };
        are = row_are;
        past = row_past;
      }

      -- there are none
      pub changes_none : end ≤ start → AreChangesDone stands text changes place meters spare said meters spare said end
      changes_none few =
          let none : end - start ≡ 0 = omega (arith, few) in
          changes_done meters spare said (sym (ap (λ (l : List M). said ++ texts text l) (ap (λ n. leaving n meters spare) none ∙ leaving-none meters spare) ∙ append-nil said))
          (subst (λ n. AreMoved stands text n meters spare meters spare) (sym none) (moved_none meters spare))
