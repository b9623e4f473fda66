-- The elements, by what is at the beginning: the bound on the pieces doesn't matter.
use Rattle.std.proofs.Common.{◌≡◌, ℕ, zero, suc, ◌≤◌, List, [], ◌∷◌, length, Bool, true, false, cond, ltb, refl, sym, ap, ◌∙◌, arith, length-drop}
use Rattle.q931_elements.specs.InformationElement.{InformationElement}
use Rattle.q931_elements.specs.Reading.{Front, Whole, LockingShift, NonLockingShift, Unfinished, front_in, variable_front, after_contents, after_item, elements_at, elements_within, elements_of}

-- what is left is at most n long
abbrev pub IsWithin : ℕ → Front → Type 0
IsWithin n (Whole element rest) = length rest ≤ n
IsWithin n LockingShift = Unit {0}
IsWithin n (NonLockingShift rest) = length rest ≤ n
IsWithin n Unfinished = Unit {0}

either : {A : Type 0} (P : A → Type 0) (b : Bool) (x y : A) → P x → P y → P (cond b x y)
either P true x y p q = p
either P false x y p q = q

variable_within : (code : ℕ) (octets : List ℕ) → IsWithin (length octets) (variable_front code octets)
variable_within code [] = tt
variable_within code (len ∷ rest) = either (IsWithin (suc (length rest))) (ltb (length rest) len) _ _ tt (omega (arith, length-drop len rest))

pub front_within : (octet : ℕ) (rest : List ℕ) → IsWithin (length rest) (front_in (octet ∷ rest))
front_within octet rest =
    let P : Front → Type 0 = IsWithin (length rest) in
    let same : length rest ≤ length rest = omega arith in
    either P (ltb octet 0x80) _ _ (variable_within octet rest) (either P (ltb octet 0x90) _ _ same (either P (ltb octet 0x98) _ _ tt (either P (ltb octet 0xA0) _ _ same same)))

contents_shorter : (octets : List ℕ) → length (after_contents octets) ≤ length octets
contents_shorter [] = omega arith
contents_shorter (len ∷ rest) = omega (arith, length-drop len rest)

pub length-after_item-le : (octets : List ℕ) → length (after_item octets) ≤ length octets
length-after_item-le [] = omega arith
length-after_item-le (octet ∷ rest) =
    either (λ (left : List ℕ). length left ≤ suc (length rest)) (ltb octet 0x80) (after_contents rest) rest (omega (arith, contents_shorter rest)) (omega arith)

same_at : (f g : List ℕ → List InformationElement) (n : ℕ) → ((octets : List ℕ) → length octets ≤ n → f octets ≡ g octets) → (at : Front) → IsWithin n at → elements_at f at ≡ elements_at g at
same_at f g n same (Whole element rest) within = ap (λ es. element ∷ es) (same rest within)
same_at f g n same LockingShift within = refl
same_at f g n same (NonLockingShift rest) within = same (after_item rest) (omega (arith, length-after_item-le rest))
same_at f g n same Unfinished within = refl

same_bound : (m n : ℕ) (octets : List ℕ) → length octets ≤ m → length octets ≤ n → elements_within m octets ≡ elements_within n octets
unfolding elements_within
same_bound zero zero octets p q = refl
same_bound zero (suc n) [] p q = refl
same_bound zero (suc n) (x ∷ xs) p q = absurd (omega arith)
same_bound (suc m) zero [] p q = refl
same_bound (suc m) zero (x ∷ xs) p q = absurd (omega arith)
same_bound (suc m) (suc n) [] p q = refl
same_bound (suc m) (suc n) (x ∷ xs) p q =
    same_at (elements_within m) (elements_within n) (length xs) (λ octets le. same_bound m n octets (omega arith) (omega arith)) (front_in (x ∷ xs)) (front_within x xs)

pub elements_step : (octets : List ℕ) → elements_of octets ≡ elements_at elements_of (front_in octets)
unfolding elements_of elements_within
elements_step [] = refl
elements_step (x ∷ xs) =
    same_at (elements_within (length xs)) elements_of (length xs) (λ octets le. same_bound (length xs) (length octets) octets le (omega arith)) (front_in (x ∷ xs)) (front_within x xs)

-- the same, where what is at the beginning is known
pub elements_from : (octets : List ℕ) (at : Front) → at ≡ front_in octets → elements_of octets ≡ elements_at elements_of at
elements_from octets at is = elements_step octets ∙ ap (elements_at elements_of) (sym is)

count_at : (others : List ℕ → List InformationElement) (n : ℕ) → ((octets : List ℕ) → length (others octets) ≤ length octets) → (at : Front) → IsWithin n at → length (elements_at others at) ≤ suc n
count_at others n few (Whole element rest) within = omega (arith, few rest)
count_at others n few LockingShift within = omega arith
count_at others n few (NonLockingShift rest) within = omega (arith, few (after_item rest), length-after_item-le rest)
count_at others n few Unfinished within = omega arith

count_within : (n : ℕ) (octets : List ℕ) → length (elements_within n octets) ≤ length octets
unfolding elements_within
count_within zero octets = omega arith
count_within (suc n) [] = omega arith
count_within (suc n) (x ∷ xs) = count_at (elements_within n) (length xs) (count_within n) (front_in (x ∷ xs)) (front_within x xs)

-- there are no more elements than octets
pub length-elements_of-le : (octets : List ℕ) → length (elements_of octets) ≤ length octets
unfolding elements_of
length-elements_of-le octets = count_within (length octets) octets
