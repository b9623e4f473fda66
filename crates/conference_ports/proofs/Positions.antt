-- The first element of a list that passes a test, after one element is written; and the lists of owners after one port changes hands.
use Rattle.std.proofs.Common.{◌≡◌, ◌≢◌, ℕ, zero, suc, ◌<◌, ◌≤◌, Bool, true, false, cond, ltb, eqb, List, [], ◌∷◌, length, Option, Some, None, refl, ◌∙◌, ap, ⊎_elim, arith, set, get_or, length-set, get_or-set_other, get_or-set_same}
use Rattle.std.specs.Prelude.{is_none, position}
use Rattle.std.specs.List.{position_or_len}
use Rattle.std.proofs.lemmas.List.Folds.{position_or_len-set}
use Rattle.std.proofs.lemmas.List.Quantifiers.{position-Some}
use Rattle.std.proofs.lemmas.List.Sums.{position_or_len_is, fails_before_first}
use Rattle.std.proofs.lemmas.Bool.Decides.{eqb_tells, nat_tests}
use Rattle.circuit_model.specs.declared.channel.Slot.{Slot}
use Rattle.circuit_model.specs.Ports.{has, ports_with, ports_without}
use Rattle.conference_ports.specs.declared.occupant.Occupant.{Occupant}
use Rattle.conference_ports.specs.Owners.{members, member_of, owners_with, owners_without}

within_some : (i n : ℕ) → i < n → cond (ltb i n) (Some i) None ≡ Some i
within_some i n inside = grind (arith, nat_tests)

far_none : (n : ℕ) → cond (ltb n n) (Some n) None ≡ None
far_none n = grind (arith, nat_tests)

none_far : (i n : ℕ) → cond (ltb i n) (Some i) None ≡ None → n ≤ i
none_far i n e = grind (arith, nat_tests)

-- a write that the test doesn't notice moves nothing
pub position-set_other : {X : Type 0} (p : X → Bool) (xs : List X) (i : ℕ) (y d : X) → p y ≡ p (get_or xs i d) → position p (set xs i y) ≡ position p xs
position-set_other p xs i y d same = ap (λ n. cond (ltb n (length (set xs i y))) (Some n) None) (position_or_len-set p xs i y d same) ∙ ap (λ n. cond (ltb (position_or_len p xs) n) (Some (position_or_len p xs)) None) (length-set xs i y)

-- the place is the first one exactly where its element passes and none before it does
pub position_is : {X : Type 0} (p : X → Bool) (xs : List X) (i : ℕ) (d : X) → i < length xs → p (get_or xs i d) ≡ true → ((k : ℕ) → k < i → p (get_or xs k d) ≡ false) → position p xs ≡ Some i
position_is p xs i d inside passes before =
    ap (λ n. cond (ltb n (length xs)) (Some n) None) (position_or_len_is p xs i d (omega (arith, inside)) before (λ _. passes)) ∙ within_some i (length xs) inside

-- no element passes
pub none_passes : {X : Type 0} (p : X → Bool) (xs : List X) (d : X) → position p xs ≡ None → (k : ℕ) → k < length xs → p (get_or xs k d) ≡ false
none_passes p xs d none k inside = fails_before_first p xs k d (let far = none_far (position_or_len p xs) (length xs) none in omega (arith, far, inside))

pub position_none : {X : Type 0} (p : X → Bool) (xs : List X) (d : X) → ((k : ℕ) → k < length xs → p (get_or xs k d) ≡ false) → position p xs ≡ None
position_none p xs d fails =
    ap (λ n. cond (ltb n (length xs)) (Some n) None) (position_or_len_is p xs (length xs) d (omega arith) fails (λ l. absurd (omega (arith, l)))) ∙ far_none (length xs)

-- the one element that passes is written, or the one that did is written over
pub position-set_here : {X : Type 0} (p : X → Bool) (xs : List X) (i : ℕ) (y d : X) → i < length xs → position p xs ≡ None → p y ≡ true → position p (set xs i y) ≡ Some i
position-set_here p xs i y d inside none passes =
    position_is p (set xs i y) i d (let n = length-set xs i y in omega (arith, n, inside)) (ap p (get_or-set_same xs i y d inside) ∙ passes)
    (λ k before. ap p (get_or-set_other xs i k y d (λ e. omega (arith, e, before))) ∙ none_passes p xs d none k (omega (arith, before, inside)))

pub position-set_gone : {X : Type 0} (p : X → Bool) (xs : List X) (i : ℕ) (y d : X) → i < length xs → p y ≡ false → ((k : ℕ) → k < length xs → k ≢ i → p (get_or xs k d) ≡ false) → position p (set xs i y) ≡ None
position-set_gone p xs i y d inside fails alone =
    position_none p (set xs i y) d (λ k below.
    ⊎_elim (λ (e : (eqb k i ≡ true) × (k ≡ i)). ap (λ n. p (get_or (set xs i y) n d)) e.1 ∙ ap p (get_or-set_same xs i y d inside) ∙ fails)
    (λ (e : (eqb k i ≡ false) × (k ≢ i)). ap p (get_or-set_other xs i k y d e.1) ∙ alone k (let n = length-set xs i y in omega (arith, n, below)) e.1)
    (eqb_tells k i))

-- ---- owners
pub owners_with_owned_set : (owner : Occupant) (owners : List (Option Occupant)) (k : ℕ) → k < length owners → is_none (get_or owners k None) ≡ true → ((i : ℕ) → i < k → is_none (get_or owners i None) ≡ false) → owners_with owner owners ≡ set owners k (Some owner)
owners_with_owned_set owner [] k inside free before = absurd (omega (arith, inside))
owners_with_owned_set owner (None ∷ owners) zero inside free before = refl
owners_with_owned_set owner (None ∷ owners) (suc k) inside free before = let wrong = before 0 (omega arith) in absurd (cc)
owners_with_owned_set owner (Some other ∷ owners) zero inside free before = absurd (cc)
owners_with_owned_set owner (Some other ∷ owners) (suc k) inside free before = ap (λ os. Some other ∷ os) (owners_with_owned_set owner owners k (omega (arith, inside)) free (λ i l. before (suc i) (omega (arith, l))))

pub members_owned : (owner : Occupant) (owners : List (Option Occupant)) → members (owners_with owner owners) ≡ ports_with owner.member (members owners)
members_owned owner [] = refl
members_owned owner (None ∷ owners) = refl
members_owned owner (Some other ∷ owners) = ap (λ os. Some other.member ∷ os) (members_owned owner owners)

one_returned : (x : Slot) (port : Option Occupant) (b : Bool) → member_of (cond b None port) ≡ cond b None (member_of port)
one_returned x port true = refl
one_returned x port false = refl

pub members_disowned : (x : Slot) (owners : List (Option Occupant)) → members (owners_without x owners) ≡ ports_without x (members owners)
members_disowned x [] = refl
members_disowned x (port ∷ owners) = λ i. one_returned x port (has x (member_of port)) i ∷ members_disowned x owners i

one_disowned : (x : Slot) (port : Option Occupant) → has x (member_of port) ≡ false → cond (has x (member_of port)) None port ≡ port
one_disowned x port e = ap (λ b. cond b None port) e

owners_without_all_kept : (x : Slot) (owners : List (Option Occupant)) → ((i : ℕ) → i < length owners → has x (member_of (get_or owners i None)) ≡ false) → owners_without x owners ≡ owners
owners_without_all_kept x [] others = refl
owners_without_all_kept x (port ∷ owners) others = λ i. one_disowned x port (others 0 (omega arith)) i ∷ owners_without_all_kept x owners (λ k l. others (suc k) (omega (arith, l))) i

pub owners_without_disowned_set : (x : Slot) (owners : List (Option Occupant)) (k : ℕ) → k < length owners → has x (member_of (get_or owners k None)) ≡ true → ((i : ℕ) → i < length owners → i ≢ k → has x (member_of (get_or owners i None)) ≡ false) → owners_without x owners ≡ set owners k None
owners_without_disowned_set x [] k inside mine others = absurd (omega (arith, inside))
owners_without_disowned_set x (port ∷ owners) zero inside mine others =
    λ i. ap (λ b. cond b None port) mine i ∷ owners_without_all_kept x owners (λ k l. others (suc k) (omega (arith, l)) (λ e. omega (arith, e))) i
owners_without_disowned_set x (port ∷ owners) (suc k) inside mine others =
    λ i. one_disowned x port (others 0 (omega arith) (λ e. omega (arith, e))) i ∷ owners_without_disowned_set x owners k (omega (arith, inside)) mine (λ m l apart. others (suc m) (omega (arith, l)) (λ e. apart (omega (arith, e)))) i

-- no port is left to own
pub owners_with_owned_full : (owner : Occupant) (owners : List (Option Occupant)) → ((k : ℕ) → k < length owners → is_none (get_or owners k None) ≡ false) → owners_with owner owners ≡ owners
owners_with_owned_full owner [] full = refl
owners_with_owned_full owner (None ∷ owners) full = let wrong = full 0 (omega arith) in absurd (cc)
owners_with_owned_full owner (Some other ∷ owners) full = ap (λ os. Some other ∷ os) (owners_with_owned_full owner owners (λ k l. full (suc k) (omega (arith, l))))

-- by the words of `position`
pub owners_with_owned_at : (owner : Occupant) (owners : List (Option Occupant)) (k : ℕ) → position is_none owners ≡ Some k → owners_with owner owners ≡ set owners k (Some owner)
owners_with_owned_at owner owners k at = let p = position-Some is_none owners k None at in owners_with_owned_set owner owners k p.0 p.1 p.2

pub owners_with_owned_none : (owner : Occupant) (owners : List (Option Occupant)) → position is_none owners ≡ None → owners_with owner owners ≡ owners
owners_with_owned_none owner owners none = owners_with_owned_full owner owners (none_passes is_none owners None none)
