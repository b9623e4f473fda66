-- What a look finds.
use Rattle.std.proofs.Common.{◌≡◌, ℕ, zero, suc, ◌<◌, ◌≤◌, Bool, true, false, cond, leb, List, [], ◌∷◌, length, get_or, refl, sym, ap, ◌∙◌, arith, inl, inr}
use Rattle.std.specs.Prelude.{◌||◌}
use Rattle.std.specs.List.{list_all}
use Rattle.std.specs.Ordering.{ordering_index}
use Rattle.std.specs.declared.cmp.Ordering.{Ordering}
use Rattle.std.specs.declared.cmp.Ordering.TheVariants.{Less, Equal, Greater}
use Rattle.std.proofs.lemmas.Bool.{and_parts, cond-true, cond-false, cases_lt, le-leb, lt-leb, false_from_ne_true}
use Rattle.number_plan.specs.declared.plan.Number.{Number}
use Rattle.number_plan.specs.declared.target.Target.{Target}
use Rattle.number_plan.specs.declared.target.Target.TheVariants as target
use Rattle.number_plan.specs.declared.target.Found.{Found}
use Rattle.number_plan.specs.declared.target.Found.TheVariants as answer
use Rattle.number_plan.specs.Plan.{begins, side_by_side, precedes, in_order, is_number_taken, found_for, found_at}
use Rattle.number_plan.specs.Search.{IsBesideAt, IsPlaceFor}
use Rattle.number_plan.proofs.Side.{side_by_side_begins_equal, side_by_side_begun_equal, equal_begins, equal_begun, begins_begins, side_by_side_both_begin, begins_shorter, not_begins, not_begun, not_both, side_by_side_rising, is_less}
use Rattle.number_plan.proofs.OrderFacts.{all_get}

-- what a number beside the digits says
abbrev pub outcome : Number → List ℕ → Found
outcome n d = cond (leb (length n.digits) (length d)) (found_at n.target) answer.More

clash : (b : Bool) → b ≡ false → b ≡ true → ⊥
clash b p q = cc

longer : (n : Number) (d : List ℕ) → begins n.digits d ≡ false → side_by_side n.digits d ≡ Equal → length d < length n.digits
longer n d isnt e =
    elim (cases_lt (length d) (length n.digits)) [
      | inl lt ↦ lt
      | inr le ↦ absurd (clash (begins n.digits d) isnt (equal_begins n.digits d e le))
    ]

found_for_says_more : (n : Number) (ns : List Number) (d : List ℕ) → begins n.digits d ≡ false → side_by_side n.digits d ≡ Equal → found_for (n ∷ ns) d ≡ answer.More
found_for_says_more n ns d isnt e =
    cond-false (begins n.digits d) (found_at n.target) (cond (begins d n.digits) answer.More (found_for ns d)) isnt
    ∙ cond-true (begins d n.digits) answer.More (found_for ns d) (equal_begun n.digits d e (omega (arith, longer n d isnt e)))

more_is : (n : Number) (d : List ℕ) → begins n.digits d ≡ false → side_by_side n.digits d ≡ Equal → outcome n d ≡ answer.More
more_is n d isnt e = cond-false (leb (length n.digits) (length d)) (found_at n.target) answer.More (lt-leb (length n.digits) (length d) (longer n d isnt e))

found_for_at_front : (n : Number) (ns : List Number) (d : List ℕ) (b : Bool) → begins n.digits d ≡ b → side_by_side n.digits d ≡ Equal → found_for (n ∷ ns) d ≡ outcome n d
found_for_at_front n ns d true does e =
    cond-true (begins n.digits d) (found_at n.target) (cond (begins d n.digits) answer.More (found_for ns d)) does
    ∙ sym (cond-true (leb (length n.digits) (length d)) (found_at n.target) answer.More (le-leb (length n.digits) (length d) (begins_shorter n.digits d does)))
found_for_at_front n ns d false isnt e = found_for_says_more n ns d isnt e ∙ sym (more_is n d isnt e)

found_for_passed : (n : Number) (ns : List Number) (d : List ℕ) → begins n.digits d ≡ false → begins d n.digits ≡ false → found_for (n ∷ ns) d ≡ found_for ns d
found_for_passed n ns d isnt un =
    cond-false (begins n.digits d) (found_at n.target) (cond (begins d n.digits) answer.More (found_for ns d)) isnt
    ∙ cond-false (begins d n.digits) answer.More (found_for ns d) un

-- if of two numbers beside the digits one comes before the other, both begin with the digits
first_not : (n m : Number) (d : List ℕ) → side_by_side n.digits m.digits ≡ Less → side_by_side m.digits d ≡ Equal → begins n.digits d ≡ false
first_not n m d before e = false_from_ne_true _ (λ b. not_both (side_by_side n.digits m.digits) before (elim (cases_lt (length d) (length m.digits)) [
  | inl lt ↦ side_by_side_begins_equal n.digits m.digits (begins_begins n.digits d m.digits b (equal_begun m.digits d e (omega arith)))
  | inr le ↦ side_by_side_both_begin n.digits m.digits d b (equal_begins m.digits d e le)
]))

second_not : (n m : Number) (d : List ℕ) → side_by_side n.digits m.digits ≡ Less → side_by_side n.digits d ≡ Equal → begins m.digits d ≡ false
second_not n m d before e = false_from_ne_true _ (λ b. not_both (side_by_side n.digits m.digits) before (elim (cases_lt (length d) (length n.digits)) [
  | inl lt ↦ side_by_side_begun_equal n.digits m.digits (begins_begins m.digits d n.digits b (equal_begun n.digits d e (omega arith)))
  | inr le ↦ side_by_side_both_begin n.digits m.digits d (equal_begins n.digits d e le) b
]))

-- what comes before a number beside the digits changes nothing
found_for_later : (n : Number) (ns : List Number) (m : Number) (d : List ℕ) → side_by_side n.digits m.digits ≡ Less → side_by_side m.digits d ≡ Equal → found_for ns d ≡ outcome m d → (o : Ordering) → side_by_side n.digits d ≡ o → found_for (n ∷ ns) d ≡ outcome m d
found_for_later n ns m d before e rest Less is = found_for_passed n ns d (not_begins n.digits d is) (not_begun n.digits d is) ∙ rest
found_for_later n ns m d before e rest Equal is = found_for_says_more n ns d (first_not n m d before e) is ∙ sym (more_is m d (second_not n m d before is) e)
found_for_later n ns m d before e rest Greater is = absurd (omega (arith, side_by_side_rising n.digits m.digits d before, ap ordering_index is, ap ordering_index e))

pub found_beside : (xs : List Number) (d : List ℕ) (i : ℕ) (x : Number) → in_order xs ≡ true → i < length xs → side_by_side (get_or xs i x).digits d ≡ Equal → found_for xs d ≡ outcome (get_or xs i x) d
found_beside [] d i x order lt e = absurd (omega arith)
found_beside (n ∷ ns) d zero x order lt e = found_for_at_front n ns d (begins n.digits d) refl e
found_beside (n ∷ ns) d (suc i) x order lt e =
    let parts = and_parts (list_all (precedes n) ns) (in_order ns) order in
    found_for_later n ns (get_or ns i x) d (is_less _ (all_get (precedes n) ns parts.0 i x (omega arith))) e (found_beside ns d i x parts.1 (omega arith) e) (side_by_side n.digits d) refl

pub found_nothing : (xs : List Number) (d : List ℕ) → ((k : ℕ) (x : Number) → k < length xs → side_by_side (get_or xs k x).digits d ≡ Equal → ⊥) → found_for xs d ≡ answer.Nothing
found_nothing [] d apart = refl
found_nothing (n ∷ ns) d apart =
    found_for_passed n ns d (false_from_ne_true _ (λ b. apart zero n (omega arith) (side_by_side_begins_equal n.digits d b))) (false_from_ne_true _ (λ b. apart zero n (omega arith) (side_by_side_begun_equal n.digits d b)))
    ∙ found_nothing ns d (λ k x lt. apart (suc k) x (omega arith))

pub found_at_place : (xs : List Number) (d : List ℕ) (i : ℕ) → IsPlaceFor xs d i → found_for xs d ≡ answer.Nothing
found_at_place xs d i p =
    found_nothing xs d (λ k x lt e. elim (cases_lt k i) [
      | inl below ↦ not_both (side_by_side (get_or xs k x).digits d) (p.before k x (omega arith) below) e
      | inr above ↦ not_equal (side_by_side (get_or xs k x).digits d) (p.after k x above lt) e
    ])
  where
    not_equal : (o : Ordering) → o ≡ Greater → o ≡ Equal → ⊥
    not_equal o p q = cc

-- ---- taken numbers

abbrev pub is_known : Found → Bool
is_known (answer.Line line) = true
is_known (answer.Room room) = true
is_known (answer.Lines lines) = true
is_known answer.More = true
is_known answer.Nothing = false

known_step : (b c : Bool) (t : Target) (r : Bool) (f : Found) → r ≡ is_known f → ((b || c) || r) ≡ is_known (cond b (found_at t) (cond c answer.More f))
known_step true c (target.Line l) r f e = refl
known_step true c (target.Room q) r f e = refl
known_step true c (target.Lines ls) r f e = refl
known_step false true t r f e = refl
known_step false false t r f e = e

pub taken_known : (xs : List Number) (d : List ℕ) → is_number_taken xs d ≡ is_known (found_for xs d)
taken_known [] d = refl
taken_known (n ∷ ns) d = known_step (begins n.digits d) (begins d n.digits) n.target (is_number_taken ns d) (found_for ns d) (taken_known ns d)

outcome_known : (b : Bool) (t : Target) → is_known (cond b (found_at t) answer.More) ≡ true
outcome_known true (target.Line l) = refl
outcome_known true (target.Room q) = refl
outcome_known true (target.Lines ls) = refl
outcome_known false t = refl

pub taken_beside : (xs : List Number) (d : List ℕ) (i : ℕ) → in_order xs ≡ true → IsBesideAt xs d i → is_number_taken xs d ≡ true
taken_beside [] d i order is = absurd (omega (arith, is.in_range))
taken_beside (x ∷ xs) d i order is =
    taken_known (x ∷ xs) d
    ∙ ap is_known (found_beside (x ∷ xs) d i x order is.in_range (is.beside x))
    ∙ outcome_known (leb (length (get_or (x ∷ xs) i x).digits) (length d)) (get_or (x ∷ xs) i x).target

pub free_at_place : (xs : List Number) (d : List ℕ) (i : ℕ) → IsPlaceFor xs d i → is_number_taken xs d ≡ false
free_at_place xs d i p = taken_known xs d ∙ ap is_known (found_at_place xs d i p)

-- ---- the number beside the digits, as it is read

pub found_number : (xs : List Number) (d : List ℕ) (i : ℕ) (n : Number) → in_order xs ≡ true → IsBesideAt xs d i → n ≡ get_or xs i n → length n.digits ≤ length d → found_for xs d ≡ found_at n.target
found_number xs d i n order is read short =
    found_beside xs d i n order is.in_range (is.beside n)
    ∙ ap (λ m. outcome m d) (sym read)
    ∙ cond-true (leb (length n.digits) (length d)) (found_at n.target) answer.More (le-leb (length n.digits) (length d) short)

pub found_more : (xs : List Number) (d : List ℕ) (i : ℕ) (n : Number) → in_order xs ≡ true → IsBesideAt xs d i → n ≡ get_or xs i n → length d < length n.digits → found_for xs d ≡ answer.More
found_more xs d i n order is read long =
    found_beside xs d i n order is.in_range (is.beside n)
    ∙ ap (λ m. outcome m d) (sym read)
    ∙ cond-false (leb (length n.digits) (length d)) (found_at n.target) answer.More (lt-leb (length n.digits) (length d) long)
