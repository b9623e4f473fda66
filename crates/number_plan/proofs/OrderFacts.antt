-- Plans in order: a search, and one more number.
use Rattle.std.proofs.Common.{◌≡◌, ℕ, zero, suc, ◌<◌, ◌≤◌, Bool, true, false, List, [], ◌∷◌, length, get_or, Result, Ok, Err, Some, refl, sym, ap, subst, ◌∙◌, arith, inl, inr}
use Rattle.std.specs.Prelude.{IfOk, IfErr, ◌||◌}
use Rattle.std.specs.List.{list_all, slice_get, insert}
use Rattle.std.specs.List.Sorted.{IsSearchInRange, IsBinarySearchResult}
use Rattle.std.specs.Ordering.{is_lt, ordering_index, ordering_reverse}
use Rattle.std.specs.declared.cmp.Ordering.{Ordering}
use Rattle.std.specs.declared.cmp.Ordering.TheVariants.{Less, Equal, Greater}
use Rattle.std.proofs.lemmas.Bool.{and_parts, and_from, or_parts, cond-true, cond-false, cond_both, cases_Bool}
use Rattle.std.proofs.lemmas.Option.{same_Some}
use Rattle.number_plan.specs.declared.plan.Number.{Number}
use Rattle.number_plan.specs.Plan.{begins, side_by_side, precedes, in_order, with_number, is_number_taken, AreApart}
use Rattle.number_plan.specs.Search.{IsBesideAt, IsPlaceFor}
use Rattle.number_plan.proofs.Side.{side_by_side_reversed, side_by_side_begins_equal, side_by_side_begun_equal, one_begins, not_both, side_by_side_rising, side_by_side_precedes_on, is_less}

pub all_get : (p : Number → Bool) (xs : List Number) → list_all p xs ≡ true → (k : ℕ) (x : Number) → k < length xs → p (get_or xs k x) ≡ true
all_get p [] all k x lt = absurd (omega arith)
all_get p (n ∷ ns) all zero x lt = (and_parts (p n) (list_all p ns) all).0
all_get p (n ∷ ns) all (suc k) x lt = all_get p ns (and_parts (p n) (list_all p ns) all).1 k x (omega arith)

-- ---- a search

ascending : (xs : List Number) (d : List ℕ) → in_order xs ≡ true → (i j : ℕ) (x : Number) → i ≤ j → j < length xs → ordering_index (side_by_side (get_or xs i x).digits d) ≤ ordering_index (side_by_side (get_or xs j x).digits d)
ascending [] d order i j x le lt = absurd (omega arith)
ascending (n ∷ ns) d order zero zero x le lt = omega arith
ascending (n ∷ ns) d order zero (suc j) x le lt =
    let parts = and_parts (list_all (precedes n) ns) (in_order ns) order in
    side_by_side_rising n.digits (get_or ns j x).digits d (is_less _ (all_get (precedes n) ns parts.0 j x (omega arith)))
ascending (n ∷ ns) d order (suc i) zero x le lt = absurd (omega arith)
ascending (n ∷ ns) d order (suc i) (suc j) x le lt = ascending ns d (and_parts (list_all (precedes n) ns) (in_order ns) order).1 i j x (omega arith) (omega arith)

pub searched : (xs : List Number) (d : List ℕ) (r : Result ℕ ℕ) → in_order xs ≡ true → IsSearchInRange r (length xs) → IsBinarySearchResult (λ n. side_by_side n.digits d) xs r → IfOk r (IsBesideAt xs d) × IfErr r (IsPlaceFor xs d)
searched xs d (Ok i) order range is = (record { in_range = range; beside = is }, tt)
searched xs d (Err i) order range is =
    let parts = is (ascending xs d order) in
    (tt, record { in_range = range; before = parts.0; after = parts.1 })

-- ---- one more number

pub insert_in_place : (xs : List Number) (y : Number) (i : ℕ) → IsPlaceFor xs y.digits i → insert xs i y ≡ with_number xs y
insert_in_place [] y zero p = refl
insert_in_place [] y (suc i) p = absurd (omega (arith, p.in_range))
insert_in_place (n ∷ ns) y zero p =
    let above : side_by_side n.digits y.digits ≡ Greater = p.after zero n (omega arith) (omega arith) in
    sym (cond-true (precedes y n) (y ∷ n ∷ ns) (n ∷ with_number ns y) (ap is_lt (side_by_side_reversed n.digits y.digits ∙ ap ordering_reverse above)))
insert_in_place (n ∷ ns) y (suc i) p =
    let below : side_by_side n.digits y.digits ≡ Less = p.before zero n (omega arith) (omega arith) in
    ap (λ (w : List Number). n ∷ w) (insert_in_place ns y i (record {
      in_range = omega (arith, p.in_range);
      before = λ k x le lt. p.before (suc k) x (omega arith) (omega arith);
      after = λ k x le lt. p.after (suc k) x (omega arith) (omega arith);
    }))
    ∙ sym (cond-false (precedes y n) (y ∷ n ∷ ns) (n ∷ with_number ns y) (ap is_lt (side_by_side_reversed n.digits y.digits ∙ ap ordering_reverse below)))

pub length-with_number : (xs : List Number) (y : Number) → length (with_number xs y) ≡ suc (length xs)
length-with_number [] y = refl
length-with_number (n ∷ ns) y =
    cond_both (precedes y n) (y ∷ n ∷ ns) (n ∷ with_number ns y) (λ w. length w ≡ suc (suc (length ns))) (λ e. refl) (λ e. ap suc (length-with_number ns y))

all_more : (p q : Number → Bool) (xs : List Number) → ((x : Number) → p x ≡ true → q x ≡ true) → list_all p xs ≡ true → list_all q xs ≡ true
all_more p q [] more all = refl
all_more p q (n ∷ ns) more all =
    let parts = and_parts (p n) (list_all p ns) all in
    and_from (q n) (list_all q ns) (more n parts.0) (all_more p q ns more parts.1)

pub all_with : (p : Number → Bool) (xs : List Number) (y : Number) → list_all p xs ≡ true → p y ≡ true → list_all p (with_number xs y) ≡ true
all_with p [] y all one = and_from (p y) true one refl
all_with p (n ∷ ns) y all one =
    let parts = and_parts (p n) (list_all p ns) all in
    elim (cases_Bool (precedes y n)) [
      | inl before ↦ ap (list_all p) (cond-true (precedes y n) (y ∷ n ∷ ns) (n ∷ with_number ns y) before) ∙ and_from (p y) (list_all p (n ∷ ns)) one all
      | inr after ↦ ap (list_all p) (cond-false (precedes y n) (y ∷ n ∷ ns) (n ∷ with_number ns y) after) ∙ and_from (p n) (list_all p (with_number ns y)) parts.0 (all_with p ns y parts.1 one)
    ]

-- where neither of two begins the other, the one that doesn't come after comes before
before_unless : (m d : List ℕ) → begins m d ≡ false → begins d m ≡ false → is_lt (side_by_side d m) ≡ false → side_by_side m d ≡ Less
before_unless m d p q after = by_order (side_by_side m d) refl
  where
    by_order : (o : Ordering) → side_by_side m d ≡ o → o ≡ Less
    by_order Less e = refl
    by_order Equal e = absurd (one_begins m d p q e)
    by_order Greater e = absurd (clash (is_lt (side_by_side d m)) after (ap is_lt (side_by_side_reversed m d ∙ ap ordering_reverse e)))
      where
        clash : (b : Bool) → b ≡ false → b ≡ true → ⊥
        clash b p q = cc

pub order_with : (xs : List Number) (y : Number) → in_order xs ≡ true → is_number_taken xs y.digits ≡ false → in_order (with_number xs y) ≡ true
order_with [] y order free = refl
order_with (n ∷ ns) y order free =
    let parts = and_parts (list_all (precedes n) ns) (in_order ns) order in
    let apart = or_parts (begins n.digits y.digits || begins y.digits n.digits) (is_number_taken ns y.digits) free in
    let ways = or_parts (begins n.digits y.digits) (begins y.digits n.digits) apart.0 in
    elim (cases_Bool (precedes y n)) [
      | inl before ↦
          ap in_order (cond-true (precedes y n) (y ∷ n ∷ ns) (n ∷ with_number ns y) before)
          ∙ and_from (list_all (precedes y) (n ∷ ns)) (in_order (n ∷ ns)) (and_from (precedes y n) (list_all (precedes y) ns) before (all_more (precedes n) (precedes y) ns (λ z later. ap is_lt (side_by_side_precedes_on y.digits n.digits z.digits (is_less _ before) (is_less _ later))) parts.0)) order
      | inr after ↦
          ap in_order (cond-false (precedes y n) (y ∷ n ∷ ns) (n ∷ with_number ns y) after)
          ∙ and_from (list_all (precedes n) (with_number ns y)) (in_order (with_number ns y)) (all_with (precedes n) ns y parts.0 (ap is_lt (before_unless n.digits y.digits ways.0 ways.1 after))) (order_with ns y parts.1 apart.1)
    ]

-- ---- no number begins another

pub all_at : (p : Number → Bool) (xs : List Number) → list_all p xs ≡ true → (k : ℕ) (n : Number) → slice_get xs k ≡ Some n → p n ≡ true
all_at p [] all k n is = absurd cc
all_at p (m ∷ ms) all zero n is = subst (λ w. p w ≡ true) (same_Some m n is) (and_parts (p m) (list_all p ms) all).0
all_at p (m ∷ ms) all (suc k) n is = all_at p ms (and_parts (p m) (list_all p ms) all).1 k n is

pub order_apart : (xs : List Number) → in_order xs ≡ true → AreApart xs
order_apart [] order j k m n jm kn b = absurd cc
order_apart (x ∷ xs) order zero zero m n jm kn b = refl
order_apart (x ∷ xs) order zero (suc k) m n jm kn b =
    let parts = and_parts (list_all (precedes x) xs) (in_order xs) order in
    let is : side_by_side m.digits n.digits ≡ Less = is_less _ (subst (λ w. precedes w n ≡ true) (same_Some x m jm) (all_at (precedes x) xs parts.0 k n kn)) in
    absurd (not_both (side_by_side m.digits n.digits) is (side_by_side_begins_equal m.digits n.digits b))
order_apart (x ∷ xs) order (suc j) zero m n jm kn b =
    let parts = and_parts (list_all (precedes x) xs) (in_order xs) order in
    let is : side_by_side n.digits m.digits ≡ Less = is_less _ (subst (λ w. precedes w m ≡ true) (same_Some x n kn) (all_at (precedes x) xs parts.0 j m jm)) in
    absurd (not_both (side_by_side n.digits m.digits) is (side_by_side_begun_equal n.digits m.digits b))
order_apart (x ∷ xs) order (suc j) (suc k) m n jm kn b = ap suc (order_apart xs (and_parts (list_all (precedes x) xs) (in_order xs) order).1 j k m n jm kn b)
