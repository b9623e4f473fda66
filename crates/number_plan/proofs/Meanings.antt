-- What each answer of a look means.
use Rattle.std.proofs.Common.{◌≡◌, ◌↔◌, ◌⊎◌, ℕ, zero, suc, Bool, true, false, cond, List, [], ◌∷◌, Some, refl, sym, ap, subst, ◌∙◌, inl, inr}
use Rattle.std.specs.Prelude.{◌||◌}
use Rattle.std.specs.List.{list_all, list_any, slice_get}
use Rattle.std.proofs.lemmas.Bool.{cond_both, or_left, or_right, not_from_false, not-true, both_ways}
use Rattle.std.proofs.lemmas.Option.{same_Some}
use Rattle.number_plan.specs.declared.plan.Number.{Number}
use Rattle.number_plan.specs.declared.target.Target.{Target}
use Rattle.number_plan.specs.declared.target.Target.TheVariants as target
use Rattle.number_plan.specs.declared.target.Found.{Found}
use Rattle.number_plan.specs.declared.target.Found.TheVariants as answer
use Rattle.number_plan.specs.Plan.{begins, found_for, found_at, is_number_taken, precedes, with_number, AreApart, LeadsTo, IsUnfinishedNumber, IsHeld, PassesTest}
use Rattle.number_plan.proofs.OrderFacts.{all_at}
use Rattle.number_plan.proofs.Side.{begins_begins, begins_one}

-- what is found, as a fact
abbrev pub IsFound : List Number → List ℕ → Found → Type 0
IsFound plan d (answer.Line l) = LeadsTo plan d (target.Line l)
IsFound plan d (answer.Room r) = LeadsTo plan d (target.Room r)
IsFound plan d (answer.Lines ls) = LeadsTo plan d (target.Lines ls)
IsFound plan d answer.More = IsUnfinishedNumber plan d
IsFound plan d answer.Nothing = is_number_taken plan d ≡ false

-- a number further on
leads_on : (n : Number) (ns : List Number) (d : List ℕ) (t : Target) → LeadsTo ns d t → LeadsTo (n ∷ ns) d t
leads_on n ns d t l = record { place = suc l.place; number = l.number; is_held = l.is_held; is_begun = l.is_begun; target_is = l.target_is }

more_on : (n : Number) (ns : List Number) (d : List ℕ) → IsUnfinishedNumber ns d → IsUnfinishedNumber (n ∷ ns) d
more_on n ns d l = record { place = suc l.place; number = l.number; is_held = l.is_held; is_begun = l.is_begun; is_longer = l.is_longer }

at_target : (n : Number) (ns : List Number) (d : List ℕ) → begins n.digits d ≡ true → (t : Target) → n.target ≡ t → IsFound (n ∷ ns) d (found_at t)
at_target n ns d b (target.Line l) is = record { place = zero; number = n; is_held = refl; is_begun = b; target_is = is }
at_target n ns d b (target.Room r) is = record { place = zero; number = n; is_held = refl; is_begun = b; target_is = is }
at_target n ns d b (target.Lines ls) is = record { place = zero; number = n; is_held = refl; is_begun = b; target_is = is }

later_found : (n : Number) (ns : List Number) (d : List ℕ) → begins n.digits d ≡ false → begins d n.digits ≡ false → (f : Found) → IsFound ns d f → IsFound (n ∷ ns) d f
later_found n ns d p q (answer.Line l) is = leads_on n ns d (target.Line l) is
later_found n ns d p q (answer.Room r) is = leads_on n ns d (target.Room r) is
later_found n ns d p q (answer.Lines ls) is = leads_on n ns d (target.Lines ls) is
later_found n ns d p q answer.More is = more_on n ns d is
later_found n ns d p q answer.Nothing is = rw (p, q) is

by_tests : (n : Number) (ns : List Number) (d : List ℕ) (b c : Bool) → begins n.digits d ≡ b → begins d n.digits ≡ c → IsFound ns d (found_for ns d) → IsFound (n ∷ ns) d (cond b (found_at n.target) (cond c answer.More (found_for ns d)))
by_tests n ns d true c p q rest = at_target n ns d p n.target refl
by_tests n ns d false true p q rest = record { place = zero; number = n; is_held = refl; is_begun = q; is_longer = not_from_false _ p }
by_tests n ns d false false p q rest = later_found n ns d p q (found_for ns d) rest

pub is_found : (plan : List Number) (d : List ℕ) → IsFound plan d (found_for plan d)
is_found [] d = refl
is_found (n ∷ ns) d = by_tests n ns d (begins n.digits d) (begins d n.digits) refl refl (is_found ns d)

-- ---- each answer alone

-- two numbers of a plan of which one begins the other are one
same_number : (plan : List Number) → AreApart plan → (j k : ℕ) (m n : Number) → slice_get plan j ≡ Some m → slice_get plan k ≡ Some n → begins m.digits n.digits ≡ true → m ≡ n
same_number plan apart j k m n jm kn b = same_Some m n (sym jm ∙ ap (slice_get plan) (apart j k m n jm kn b) ∙ kn)

one_target : (plan : List Number) (d : List ℕ) (s t : Target) → AreApart plan → LeadsTo plan d s → LeadsTo plan d t → s ≡ t
one_target plan d s t apart p q =
    sym p.target_is ∙ ap (λ n. n.target) (either_way (begins_one p.number.digits q.number.digits d p.is_begun q.is_begun)) ∙ q.target_is
  where
    either_way : (begins p.number.digits q.number.digits ≡ true) ⊎ (begins q.number.digits p.number.digits ≡ true) → p.number ≡ q.number
    either_way (inl b) = same_number plan apart p.place q.place p.number q.number p.is_held q.is_held b
    either_way (inr b) = sym (same_number plan apart q.place p.place q.number p.number q.is_held p.is_held b)

not_both : (plan : List Number) (d : List ℕ) (t : Target) → AreApart plan → LeadsTo plan d t → IsUnfinishedNumber plan d → ⊥
not_both plan d t apart p q =
    let same = same_number plan apart p.place q.place p.number q.number p.is_held q.is_held (begins_begins p.number.digits d q.number.digits p.is_begun q.is_begun) in
    both_ways (begins q.number.digits d) (not-true _ q.is_longer) (subst (λ n. begins n.digits d ≡ true) same p.is_begun)

any_at : (test : Number → Bool) (plan : List Number) (k : ℕ) (n : Number) → slice_get plan k ≡ Some n → test n ≡ true → list_any test plan ≡ true
any_at test [] k n is one = absurd cc
any_at test (m ∷ ms) zero n is one = or_left (test m) (list_any test ms) (subst (λ w. test w ≡ true) (sym (same_Some m n is)) one)
any_at test (m ∷ ms) (suc k) n is one = or_right (test m) (list_any test ms) (any_at test ms k n is one)

lead_taken : (plan : List Number) (d : List ℕ) (t : Target) → LeadsTo plan d t → is_number_taken plan d ≡ true
lead_taken plan d t p = any_at (λ n. begins n.digits d || begins d n.digits) plan p.place p.number p.is_held (or_left _ _ p.is_begun)

more_taken : (plan : List Number) (d : List ℕ) → IsUnfinishedNumber plan d → is_number_taken plan d ≡ true
more_taken plan d p = any_at (λ n. begins n.digits d || begins d n.digits) plan p.place p.number p.is_held (or_right _ _ p.is_begun)

exact : (plan : List Number) (d : List ℕ) → AreApart plan → (f g : Found) → IsFound plan d f → IsFound plan d g → f ≡ g
exact plan d apart (answer.Line l) (answer.Line m) p q = ap found_at (one_target plan d (target.Line l) (target.Line m) apart p q)
exact plan d apart (answer.Line l) (answer.Room r) p q = ap found_at (one_target plan d (target.Line l) (target.Room r) apart p q)
exact plan d apart (answer.Line l) (answer.Lines ls) p q = ap found_at (one_target plan d (target.Line l) (target.Lines ls) apart p q)
exact plan d apart (answer.Line l) answer.More p q = absurd (not_both plan d (target.Line l) apart p q)
exact plan d apart (answer.Line l) answer.Nothing p q = absurd (both_ways (is_number_taken plan d) q (lead_taken plan d (target.Line l) p))
exact plan d apart (answer.Room r) (answer.Line l) p q = ap found_at (one_target plan d (target.Room r) (target.Line l) apart p q)
exact plan d apart (answer.Room r) (answer.Room s) p q = ap found_at (one_target plan d (target.Room r) (target.Room s) apart p q)
exact plan d apart (answer.Room r) (answer.Lines ls) p q = ap found_at (one_target plan d (target.Room r) (target.Lines ls) apart p q)
exact plan d apart (answer.Room r) answer.More p q = absurd (not_both plan d (target.Room r) apart p q)
exact plan d apart (answer.Room r) answer.Nothing p q = absurd (both_ways (is_number_taken plan d) q (lead_taken plan d (target.Room r) p))
exact plan d apart (answer.Lines ls) (answer.Line l) p q = ap found_at (one_target plan d (target.Lines ls) (target.Line l) apart p q)
exact plan d apart (answer.Lines ls) (answer.Room r) p q = ap found_at (one_target plan d (target.Lines ls) (target.Room r) apart p q)
exact plan d apart (answer.Lines ls) (answer.Lines ms) p q = ap found_at (one_target plan d (target.Lines ls) (target.Lines ms) apart p q)
exact plan d apart (answer.Lines ls) answer.More p q = absurd (not_both plan d (target.Lines ls) apart p q)
exact plan d apart (answer.Lines ls) answer.Nothing p q = absurd (both_ways (is_number_taken plan d) q (lead_taken plan d (target.Lines ls) p))
exact plan d apart answer.More (answer.Line l) p q = absurd (not_both plan d (target.Line l) apart q p)
exact plan d apart answer.More (answer.Room r) p q = absurd (not_both plan d (target.Room r) apart q p)
exact plan d apart answer.More (answer.Lines ls) p q = absurd (not_both plan d (target.Lines ls) apart q p)
exact plan d apart answer.More answer.More p q = refl
exact plan d apart answer.More answer.Nothing p q = absurd (both_ways (is_number_taken plan d) q (more_taken plan d p))
exact plan d apart answer.Nothing (answer.Line l) p q = absurd (both_ways (is_number_taken plan d) p (lead_taken plan d (target.Line l) q))
exact plan d apart answer.Nothing (answer.Room r) p q = absurd (both_ways (is_number_taken plan d) p (lead_taken plan d (target.Room r) q))
exact plan d apart answer.Nothing (answer.Lines ls) p q = absurd (both_ways (is_number_taken plan d) p (lead_taken plan d (target.Lines ls) q))
exact plan d apart answer.Nothing answer.More p q = absurd (both_ways (is_number_taken plan d) p (more_taken plan d q))
exact plan d apart answer.Nothing answer.Nothing p q = refl

-- a look answers so exactly where it is so
pub IsFound_means : (plan : List Number) (d : List ℕ) (r f : Found) → r ≡ found_for plan d → AreApart plan → (r ≡ f) ↔ IsFound plan d f
IsFound_means plan d r f e apart = (λ is. subst (IsFound plan d) (sym e ∙ is) (is_found plan d), λ fact. e ∙ exact plan d apart (found_for plan d) f (is_found plan d) fact)

-- ---- targets

at_lead : (plan : List Number) (d : List ℕ) (t : Target) → found_for plan d ≡ found_at t → LeadsTo plan d t
at_lead plan d (target.Line l) is = subst (IsFound plan d) is (is_found plan d)
at_lead plan d (target.Room r) is = subst (IsFound plan d) is (is_found plan d)
at_lead plan d (target.Lines ls) is = subst (IsFound plan d) is (is_found plan d)

pub found_passes : (test : Target → Bool) (plan : List Number) (d : List ℕ) (t : Target) → list_all (λ m. test m.target) plan ≡ true → found_for plan d ≡ found_at t → test t ≡ true
found_passes test plan d t all is =
    let lead = at_lead plan d t is in
    subst (λ w. test w ≡ true) lead.target_is (all_at (λ m. test m.target) plan all lead.place lead.number lead.is_held)

pub answer_passes : (test : Target → Bool) (plan : List Number) (d : List ℕ) (found : Found) → list_all (λ m. test m.target) plan ≡ true → found_for plan d ≡ found → PassesTest test found
answer_passes test plan d (answer.Line line) all is = found_passes test plan d (target.Line line) all is
answer_passes test plan d (answer.Room room) all is = found_passes test plan d (target.Room room) all is
answer_passes test plan d (answer.Lines lines) all is = found_passes test plan d (target.Lines lines) all is
answer_passes test plan d answer.More all is = tt
answer_passes test plan d answer.Nothing all is = tt

-- ---- what a plan has with one more number

at_front : (n : Number) (ns : List Number) (y m : Number) (k : ℕ) → slice_get (y ∷ n ∷ ns) k ≡ Some m → IsHeld (n ∷ ns) m ⊎ (m ≡ y)
at_front n ns y m zero is = inr (sym (same_Some y m is))
at_front n ns y m (suc k) is = inl (k, is)

behind : (n : Number) (ns ms : List Number) (y m : Number) (k : ℕ) → slice_get (n ∷ ms) k ≡ Some m → ((j : ℕ) → slice_get ms j ≡ Some m → IsHeld ns m ⊎ (m ≡ y)) → IsHeld (n ∷ ns) m ⊎ (m ≡ y)
behind n ns ms y m zero is rest = inl (zero, is)
behind n ns ms y m (suc k) is rest = elim (rest k is) [ inl held ↦ inl (suc held.0, held.1) | inr new ↦ inr new ]

held_to : (plan : List Number) (y m : Number) (k : ℕ) → slice_get (with_number plan y) k ≡ Some m → IsHeld plan m ⊎ (m ≡ y)
held_to [] y m zero is = inr (sym (same_Some y m is))
held_to [] y m (suc k) is = absurd cc
held_to (n ∷ ns) y m k is =
    cond_both (precedes y n) (y ∷ n ∷ ns) (n ∷ with_number ns y) (λ w. slice_get w k ≡ Some m → IsHeld (n ∷ ns) m ⊎ (m ≡ y)) (λ e. at_front n ns y m k) (λ e at. behind n ns (with_number ns y) y m k at (held_to ns y m)) is

held_from : (plan : List Number) (y m : Number) (k : ℕ) → slice_get plan k ≡ Some m → IsHeld (with_number plan y) m
held_from [] y m k is = absurd cc
held_from (n ∷ ns) y m zero is = cond_both (precedes y n) (y ∷ n ∷ ns) (n ∷ with_number ns y) (λ w. IsHeld w m) (λ e. (suc zero, is)) (λ e. (zero, is))
held_from (n ∷ ns) y m (suc k) is =
    let rest = held_from ns y m k is in
    cond_both (precedes y n) (y ∷ n ∷ ns) (n ∷ with_number ns y) (λ w. IsHeld w m) (λ e. (suc (suc k), is)) (λ e. (suc rest.0, rest.1))

held_new : (plan : List Number) (y : Number) → IsHeld (with_number plan y) y
held_new [] y = (zero, refl)
held_new (n ∷ ns) y =
    let rest = held_new ns y in
    cond_both (precedes y n) (y ∷ n ∷ ns) (n ∷ with_number ns y) (λ w. IsHeld w y) (λ e. (zero, refl)) (λ e. (suc rest.0, rest.1))

pub held_with : (plan : List Number) (y m : Number) → IsHeld (with_number plan y) m ↔ (IsHeld plan m ⊎ (m ≡ y))
held_with plan y m = (λ held. held_to plan y m held.0 held.1, λ either. elim either [ inl held ↦ held_from plan y m held.0 held.1 | inr new ↦ subst (IsHeld (with_number plan y)) (sym new) (held_new plan y) ])
