-- Where as many numbers are kept as seats were made, each number that was made is kept.
use Rattle.std.proofs.Common.{◌≡◌, ◌≢◌, ℕ, eqb, ◌+◌, ◌≤◌, ◌||◌, Bool, true, false, true≢false, IsTrue, List, [], ◌∷◌, map, length, refl, sym, ap, ◌∙◌, suc, arith, ne_eqb, eq-eqb}
use mathlib.Core.Logic.{dite}
use native.Mathlib.Decide.{ℕ_discrete}
use Rattle.std.proofs.lemmas.Map.Steps.{length-le_from_distinct_below}
use Rattle.std.specs.List.{list_any, IsDistinct, AllByRecursion as Every}
use Rattle.std.specs.Prelude.{AllPairs}
use Rattle.std.proofs.lemmas.List.Elements.{All-from_recursion}
use Rattle.std.proofs.lemmas.List.Kept.{AllPairs-cons}
use Rattle.seat_history.specs.declared.seat_knowledge.JoinedSeat.{JoinedSeat}
use Rattle.turn_lock.specs.Entries.{Once}

abbrev numbers : List JoinedSeat → List ℕ
numbers ks = map (λ (k : JoinedSeat). k.number) ks

others_differ : (n : ℕ) (ks : List JoinedSeat) → Every (λ (m : JoinedSeat). m.number ≢ n) ks → Every (λ y. eqb n y ≡ false) (numbers ks)
others_differ n [] a = tt
others_differ n (k ∷ ks) a = let d = a.0 in (ne_eqb n k.number (λ e. d (sym e)), others_differ n ks a.1)

distinct : (ks : List JoinedSeat) → Once ks → IsDistinct eqb (numbers ks)
unfolding IsDistinct
distinct [] o = tt
distinct (k ∷ ks) o = (others_differ k.number ks o.0, distinct ks o.1)

left_false : (a b : Bool) → (a || b) ≡ false → (a ≡ false) × (b ≡ false)
left_false true b h = absurd (true≢false h)
left_false false b h = (refl, h)

none_any : (n : ℕ) (xs : List ℕ) → list_any (eqb n) xs ≡ false → Every (λ y. eqb n y ≡ false) xs
none_any n [] h = tt
none_any n (x ∷ xs) h = let s = left_false (eqb n x) (list_any (eqb n) xs) h in (s.0, none_any n xs s.1)

any_within : (q m : ℕ) (xs : List ℕ) → Every (λ (x : ℕ). x ≤ m) xs → list_any (eqb q) xs ≡ true → q ≤ m
any_within q m [] e h = absurd (true≢false (sym h))
any_within q m (x ∷ xs) e h = dite (ℕ_discrete q x)
    (λ same. let b = e.0 in omega arith)
    (λ other. any_within q m xs e.1 (ap (λ (b : Bool). b || list_any (eqb q) xs) (sym (ne_eqb q x other)) ∙ h))

abbrev Others : ℕ → ℕ → List JoinedSeat → Type 0
Others number made ks = Every (λ (k : JoinedSeat). (k.number ≢ number) × (k.number ≤ made)) ks

made_within : (number made : ℕ) (ks : List JoinedSeat) → Others number made ks → Every (λ (x : ℕ). x ≤ made) (numbers ks)
made_within number made [] e = tt
made_within number made (k ∷ ks) e = (e.0.1, made_within number made ks e.1)

not_mine : (number made : ℕ) (ks : List JoinedSeat) → Others number made ks → Every (λ y. eqb number y ≡ false) (numbers ks)
not_mine number made [] e = tt
not_mine number made (k ∷ ks) e = let o = e.0.0 in (ne_eqb number k.number (λ z. o (sym z)), not_mine number made ks e.1)

length_numbers : (ks : List JoinedSeat) → length (numbers ks) ≡ length ks
length_numbers [] = refl
length_numbers (k ∷ ks) = ap suc (length_numbers ks)

two_more : (m n : ℕ) (xs : List ℕ) → Every (λ y. eqb m y ≡ false) (n ∷ xs) → Every (λ y. eqb n y ≡ false) xs → IsDistinct eqb xs → IsDistinct eqb (m ∷ n ∷ xs)
unfolding IsDistinct
two_more m n xs a b d = (a, (b, d))

-- seat 0's own number is 0, so it and the kept ones are all
pub all_kept : (number made : ℕ) (ks : List JoinedSeat) → number ≡ 0 → made ≡ length ks → Others number made ks → Once ks → (n : ℕ) → n ≤ made → IsTrue (eqb n number || list_any (eqb n) (map (λ (k : JoinedSeat). k.number) ks))
all_kept number made ks first all others once n low = dite (ℕ_discrete n number)
    (λ same. ap (λ (b : Bool). b || list_any (eqb n) (numbers ks)) (eq-eqb n number same))
    (λ other. ap (λ (b : Bool). b || list_any (eqb n) (numbers ks)) (ne_eqb n number other) ∙ go other (list_any (eqb n) (numbers ks)) refl)
  where
    go : n ≢ number → (b : Bool) → list_any (eqb n) (numbers ks) ≡ b → b ≡ true
    go other true h = refl
    go other false h =
        let long = length-le_from_distinct_below (number ∷ n ∷ numbers ks) (made + 1)
        (two_more number n (numbers ks) (ne_eqb number n (λ e. other (sym e)), not_mine number made ks others) (none_any n (numbers ks) h) (distinct ks once))
        (λ q any. let k = any_within q made (number ∷ n ∷ numbers ks) (omega arith, (low, made_within number made ks others)) any in omega arith) in
        absurd (omega (arith, length_numbers ks))

-- the same in the words of callers
pub all_once : (ks : List JoinedSeat) → Once ks → AllPairs (λ (k m : JoinedSeat). m.number ≢ k.number) ks
all_once [] a = λ i j d lt within. absurd (omega arith)
all_once (k ∷ ks) a = AllPairs-cons (λ (i j : JoinedSeat). j.number ≢ i.number) k ks (All-from_recursion (λ (m : JoinedSeat). m.number ≢ k.number) ks a.0) (all_once ks a.1)
