-- The ports of members: where each is, and what a port given or returned changes.
use Rattle.std.proofs.Common.{◌≡◌, ◌≢◌, ℕ, zero, suc, ◌+◌, ◌<◌, ◌≤◌, Bool, true, false, List, [], ◌∷◌, length, get_or, set, Option, Some, None, refl, sym, ◌∙◌, ap, subst, arith, cond, ltb}
use Rattle.std.specs.Prelude.{is_none, is_some, position, option_map}
use Rattle.std.specs.List.{count_by, position_or_len}
use Rattle.std.proofs.lemmas.Grind.{common_steps}
use Rattle.std.proofs.lemmas.List.{length-map}
use Rattle.std.proofs.lemmas.List.Quantifiers.{position-Some}
use Rattle.circuit_model.specs.declared.channel.Slot.{Slot}
use Rattle.circuit_model.specs.Circuits.{same_slot}
use Rattle.circuit_model.specs.Ports.{Ports, has, ports_with, ports_without, port_of, port_numbered}
use Rattle.circuit_model.proofs.Slots.{same_slot-true, same_slot-refl, same_slot-false}
use Rattle.conference_ports.proofs.Positions.{none_passes, position_none, position-set_other, position-set_here}

-- ---- where a port is
pub port_found : (external : ℕ) (ports : Ports) (x p : Slot) → port_of external ports x ≡ Some p → (k : ℕ) × (position (has x) ports ≡ Some k) × (p ≡ port_numbered external k)
port_found external ports x p e = go external x p (position (has x) ports) refl e
  where
    go : (external : ℕ) (x p : Slot) (o : Option ℕ) → o ≡ o → option_map (port_numbered external) o ≡ Some p → (k : ℕ) × (o ≡ Some k) × (p ≡ port_numbered external k)
    go external x p None same e = absurd (cc)
    go external x p (Some k) same e = (k, refl, cc)

pub port_line : (external : ℕ) (ports : Ports) (x p : Slot) → port_of external ports x ≡ Some p → external ≤ p.line
port_line external ports x p e = let f = port_found external ports x p e in let line = ap (λ (s : Slot). s.line) f.2 in omega (arith, line)

pub one_number : (external j k : ℕ) → port_numbered external j ≡ port_numbered external k → j ≡ k
one_number external j k e = let line = ap (λ (s : Slot). s.line) e in let place = ap (λ (s : Slot). s.place) e in omega (arith, line, place)

has_one : (x y : Slot) (port : Option Slot) → has x port ≡ true → has y port ≡ true → x ≡ y
has_one x y None a b = absurd (cc)
has_one x y (Some z) a b = same_slot-true x z a ∙ sym (same_slot-true y z b)

-- two members have two ports
pub one_member : (external : ℕ) (ports : Ports) (x y p : Slot) → port_of external ports x ≡ Some p → port_of external ports y ≡ Some p → x ≡ y
one_member external ports x y p a b =
    let f = port_found external ports x p a in
    let g = port_found external ports y p b in
    let same = one_number external f.0 g.0 (sym f.2 ∙ g.2) in
    let at_x = position-Some (has x) ports f.0 None f.1 in
    let at_y = position-Some (has y) ports f.0 None (g.1 ∙ ap (λ n. Some n) (sym same)) in
    has_one x y (get_or ports f.0 None) at_x.1 at_y.1

-- ---- counts
count_step : {X : Type 0} (p : X → Bool) (x d : X) (xs : List X) → (count_by p xs ≡ 0 → (k : ℕ) → k < length xs → p (get_or xs k d) ≡ false) → count_by p (x ∷ xs) ≡ 0 → (k : ℕ) → k < length (x ∷ xs) → p (get_or (x ∷ xs) k d) ≡ false
count_step p x d xs rest none zero inside = grind (arith, common_steps)
count_step p x d xs rest none (suc k) inside = rest (grind (arith, common_steps)) k (omega (arith, inside))

pub none_counted : {X : Type 0} (p : X → Bool) (d : X) (xs : List X) → count_by p xs ≡ 0 → (k : ℕ) → k < length xs → p (get_or xs k d) ≡ false
none_counted p d [] none k inside = absurd (omega (arith, inside))
none_counted p d (x ∷ xs) none k inside = count_step p x d xs (none_counted p d xs) none k inside

all_fail : {X : Type 0} (p : X → Bool) (d : X) (xs : List X) → ((k : ℕ) → k < length xs → p (get_or xs k d) ≡ false) → count_by p xs ≡ 0
all_fail p d [] fails = refl
all_fail p d (x ∷ xs) fails = let rest = all_fail p d xs (λ k inside. fails (suc k) (omega (arith, inside))) in let first = fails 0 (omega arith) in grind (arith, common_steps)

pub no_position : {X : Type 0} (p : X → Bool) (d : X) (xs : List X) → count_by p xs ≡ 0 → position p xs ≡ None
no_position p d xs none = position_none p xs d (none_counted p d xs none)

pub not_counted : {X : Type 0} (p : X → Bool) (d : X) (xs : List X) → position p xs ≡ None → count_by p xs ≡ 0
not_counted p d xs none = all_fail p d xs (none_passes p xs d none)

pub portless : (external : ℕ) (ports : Ports) (x : Slot) → count_by (has x) ports ≡ 0 → port_of external ports x ≡ None
portless external ports x none = ap (option_map (port_numbered external)) (no_position (has x) None ports none)

pub ported : (external : ℕ) (ports : Ports) (x : Slot) (n : ℕ) → count_by (has x) ports ≡ n → 0 < n → port_of external ports x ≡ None → ⊥
ported external ports x n counted some none = go external (position (has x) ports) refl none
  where
    go : (external : ℕ) (o : Option ℕ) → position (has x) ports ≡ o → option_map (port_numbered external) o ≡ None → ⊥
    go external None at none = let zero_of = not_counted (has x) None ports at in omega (arith, counted, some, zero_of)
    go external (Some k) at none = cc

-- ---- a port given
ports_with_given_set : (x : Slot) (ports : Ports) (k : ℕ) → k < length ports → is_none (get_or ports k None) ≡ true → ((i : ℕ) → i < k → is_none (get_or ports i None) ≡ false) → ports_with x ports ≡ set ports k (Some x)
ports_with_given_set x [] k inside free before = absurd (omega (arith, inside))
ports_with_given_set x (None ∷ ports) zero inside free before = refl
ports_with_given_set x (None ∷ ports) (suc k) inside free before = let wrong = before 0 (omega arith) in absurd (cc)
ports_with_given_set x (Some other ∷ ports) zero inside free before = absurd (cc)
ports_with_given_set x (Some other ∷ ports) (suc k) inside free before = ap (λ ps. Some other ∷ ps) (ports_with_given_set x ports k (omega (arith, inside)) free (λ i l. before (suc i) (omega (arith, l))))

pub ports_with_given_at : (x : Slot) (ports : Ports) (k : ℕ) → position is_none ports ≡ Some k → ports_with x ports ≡ set ports k (Some x)
ports_with_given_at x ports k at = let p = position-Some is_none ports k None at in ports_with_given_set x ports k p.0 p.1 p.2

free_is : (o : Option Slot) → is_none o ≡ true → o ≡ None
free_is None e = refl
free_is (Some y) e = absurd (cc)

-- the others' ports stay
pub port_of_given_other : (external : ℕ) (x z : Slot) (ports : Ports) (k : ℕ) → position is_none ports ≡ Some k → (z ≡ x → ⊥) → port_of external (ports_with x ports) z ≡ port_of external ports z
port_of_given_other external x z ports k at apart =
    let p = position-Some is_none ports k None at in
    ap (λ ps. port_of external ps z) (ports_with_given_at x ports k at)
    ∙ ap (option_map (port_numbered external)) (position-set_other (has z) ports k (Some x) None (same_slot-false z x apart ∙ sym (ap (has z) (free_is (get_or ports k None) p.1))))

pub port_of_given_here : (external : ℕ) (x : Slot) (ports : Ports) (k : ℕ) → position is_none ports ≡ Some k → count_by (has x) ports ≡ 0 → port_of external (ports_with x ports) x ≡ Some (port_numbered external k)
port_of_given_here external x ports k at none =
    let p = position-Some is_none ports k None at in
    ap (λ ps. port_of external ps x) (ports_with_given_at x ports k at)
    ∙ ap (option_map (port_numbered external)) (position-set_here (has x) ports k (Some x) None p.0 (no_position (has x) None ports none) (same_slot-refl x))

is_free : (ports : Ports) → position is_none ports ≢ None → 0 < count_by is_none ports
is_free ports some = elim (count_by is_none ports) as (λ n. count_by is_none ports ≡ n → 0 < n) [ zero ↦ λ e. absurd (some (no_position is_none None ports e)) | suc n ↦ λ e. omega arith ] refl

pub length-given : (x : Slot) (ports : Ports) → length (ports_with x ports) ≡ length ports
length-given x [] = refl
length-given x (None ∷ ports) = refl
length-given x (Some other ∷ ports) = let rest = length-given x ports in omega (arith, rest)

-- one port more is had, where one is free
given_step : (p : Option Slot → Bool) (x other : Slot) (ports : Ports) → (0 < count_by is_none ports → count_by p (ports_with x ports) ≡ count_by p ports + count_by p (Some x ∷ [])) → 0 < count_by is_none (Some other ∷ ports) → count_by p (ports_with x (Some other ∷ ports)) ≡ count_by p (Some other ∷ ports) + count_by p (Some x ∷ [])
given_step p x other ports rest free = let more = rest free in grind (arith, common_steps)

counted_given : (p : Option Slot → Bool) (x : Slot) (ports : Ports) → p None ≡ false → 0 < count_by is_none ports → count_by p (ports_with x ports) ≡ count_by p ports + count_by p (Some x ∷ [])
counted_given p x [] none free = absurd (omega (arith, free))
counted_given p x (None ∷ ports) none free = grind (arith, common_steps)
counted_given p x (Some other ∷ ports) none free = given_step p x other ports (counted_given p x ports none) free

pub count-given : (p : Option Slot → Bool) (x : Slot) (ports : Ports) (k : ℕ) → p None ≡ false → position is_none ports ≡ Some k → count_by p (ports_with x ports) ≡ count_by p ports + count_by p (Some x ∷ [])
count-given p x ports k none at = counted_given p x ports none (is_free ports (λ e. let wrong = sym at ∙ e in cc))

-- ports are taken or free
pub taken_or_free : (ports : Ports) → count_by is_some ports + count_by is_none ports ≡ length ports
taken_or_free [] = refl
taken_or_free (None ∷ ports) = let rest = taken_or_free ports in grind (arith, common_steps)
taken_or_free (Some x ∷ ports) = let rest = taken_or_free ports in grind (arith, common_steps)

pub count_by-is_some_one_free : (ports : Ports) (k : ℕ) → position is_none ports ≡ Some k → count_by is_some ports < length ports
count_by-is_some_one_free ports k at = let free = is_free ports (λ e. let wrong = sym at ∙ e in cc) in let all = taken_or_free ports in omega (arith, free, all)

pub count_by-is_some_none_free : (ports : Ports) → position is_none ports ≡ None → count_by is_some ports ≡ length ports
count_by-is_some_none_free ports none = let zero_of = not_counted is_none None ports none in let all = taken_or_free ports in omega (arith, zero_of, all)

-- ---- a port returned
pub length-returned : (x : Slot) (ports : Ports) → length (ports_without x ports) ≡ length ports
length-returned x ports = length-map ports _

same_found : (x z : Slot) (port : Option Slot) (ports : Ports) → same_slot z x ≡ false → position_or_len (has z) (ports_without x ports) ≡ position_or_len (has z) ports → position_or_len (has z) (ports_without x (port ∷ ports)) ≡ position_or_len (has z) (port ∷ ports)
same_found x z None ports apart rest = grind (arith, common_steps)
same_found x z (Some y) ports apart rest = go (has x (Some y)) refl
  where
    go : (b : Bool) → has x (Some y) ≡ b → position_or_len (has z) (ports_without x (Some y ∷ ports)) ≡ position_or_len (has z) (Some y ∷ ports)
    go true mine = let is = same_slot-true x y mine in let off : has z (Some y) ≡ false = subst (λ t. same_slot z t ≡ false) is apart in grind (arith, common_steps)
    go false other = grind (arith, common_steps)

still_found : (x z : Slot) (ports : Ports) → same_slot z x ≡ false → position_or_len (has z) (ports_without x ports) ≡ position_or_len (has z) ports
still_found x z [] apart = refl
still_found x z (port ∷ ports) apart = same_found x z port ports apart (still_found x z ports apart)

pub port_of_returned_other : (external : ℕ) (x z : Slot) (ports : Ports) → (z ≡ x → ⊥) → port_of external (ports_without x ports) z ≡ port_of external ports z
port_of_returned_other external x z ports apart =
    ap (option_map (port_numbered external))
    (ap (λ n. cond (ltb n (length (ports_without x ports))) (Some n) None) (still_found x z ports (same_slot-false z x apart)) ∙ ap (λ n. cond (ltb (position_or_len (has z) ports) n) (Some (position_or_len (has z) ports)) None) (length-returned x ports))

-- what a port is counted for stays, or was the member's
pub count-returned : (x : Slot) (ports : Ports) → count_by is_some (ports_without x ports) + count_by (has x) ports ≡ count_by is_some ports
count-returned x [] = refl
count-returned x (None ∷ ports) = let rest = count-returned x ports in grind (arith, common_steps)
count-returned x (Some y ∷ ports) = let rest = count-returned x ports in grind (arith, common_steps)

pub count-returned_mine : (x : Slot) (ports : Ports) → count_by (has x) (ports_without x ports) ≡ 0
count-returned_mine x [] = refl
count-returned_mine x (None ∷ ports) = let rest = count-returned_mine x ports in grind (arith, common_steps)
count-returned_mine x (Some y ∷ ports) = let rest = count-returned_mine x ports in grind (arith, common_steps)

returned_step : (x z y : Slot) (ports : Ports) → same_slot z x ≡ false → count_by (has z) (ports_without x ports) ≡ count_by (has z) ports → (b : Bool) → same_slot x y ≡ b → count_by (has z) (ports_without x (Some y ∷ ports)) ≡ count_by (has z) (Some y ∷ ports)
returned_step x z y ports apart rest true mine = let is = same_slot-true x y mine in let off : same_slot z y ≡ false = subst (λ t. same_slot z t ≡ false) is apart in grind (arith, common_steps)
returned_step x z y ports apart rest false other = grind (arith, common_steps)

pub count-returned_other : (x z : Slot) (ports : Ports) → same_slot z x ≡ false → count_by (has z) (ports_without x ports) ≡ count_by (has z) ports
count-returned_other x z [] apart = refl
count-returned_other x z (None ∷ ports) apart = let rest = count-returned_other x z ports apart in grind (arith, common_steps)
count-returned_other x z (Some y ∷ ports) apart = returned_step x z y ports apart (count-returned_other x z ports apart) (same_slot x y) refl

-- who has no port returns none
pub ports_without_returned_none : (x : Slot) (ports : Ports) → count_by (has x) ports ≡ 0 → ports_without x ports ≡ ports
ports_without_returned_none x [] none = refl
ports_without_returned_none x (None ∷ ports) none = ap (λ ps. None ∷ ps) (ports_without_returned_none x ports (grind (arith, common_steps)))
ports_without_returned_none x (Some y ∷ ports) none =
    let off : same_slot x y ≡ false = grind (arith, common_steps) in
    let rest = ports_without_returned_none x ports (grind (arith, common_steps)) in
    grind (arith, common_steps)
