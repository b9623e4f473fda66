-- Strings whose numbers are apart differ in the same way.
use Rattle.std.proofs.Common.{◌≡◌, ◌⊎◌, ℕ, zero, suc, ◌+◌, ◌*◌, ◌^◌, ◌<◌, ◌≤◌, List, [], ◌∷◌, length, get_or, refl, sym, ap, ◌∙◌, arith, inl, inr}
use Rattle.std.specs.Ordering.{ordering_reverse}
use Rattle.std.specs.declared.cmp.Ordering.TheVariants.{Less, Equal, Greater}
use Rattle.std.proofs.lemmas.Bool.{cases_order}
use Rattle.std.proofs.Math.Nat.{mul-le-mul_right, mul_assoc, suc-mul, pow-suc, pow-le-pow_right}
use Rattle.number_plan.specs.declared.digits.Bounds.{Bounds}
use Rattle.number_plan.specs.Bounds.{AreBounds, leading}
use Rattle.number_plan.specs.Plan.{side_by_side}
use Rattle.number_plan.proofs.Side.{side_by_side_reversed, side_by_side_first_lower, side_by_side_first_same}

abbrev pub AreOctets : List ℕ → Type 0
AreOctets octets = (i : ℕ) → get_or octets i 0 < 256

after : (x : ℕ) (xs : List ℕ) → AreOctets (x ∷ xs) → AreOctets xs
after x xs small i = small (suc i)

octet_below : (other : ℕ) (xs : List ℕ) → other < 256 → AreOctets xs → (i : ℕ) → get_or xs i other < 256
octet_below other [] few small i = few
octet_below other (x ∷ xs) few small zero = small zero
octet_below other (x ∷ xs) few small (suc i) = octet_below other xs few (after x xs small) i

-- ---- the number of the first octets

pub leading_none : (other : ℕ) (octets : List ℕ) → leading other 0 octets ≡ 0
unfolding leading
leading_none other octets = refl

leading_more : (other n : ℕ) (octets : List ℕ) → leading other (suc n) octets ≡ leading other n octets * 256 + get_or octets n other
unfolding leading
leading_more other n octets = refl

pub leading_next : (other n : ℕ) (octets : List ℕ) → leading other (n + 1) octets ≡ leading other n octets * 256 + get_or octets n other
leading_next other n octets = let on : n + 1 ≡ suc n = omega arith in ap (λ m. leading other m octets) on ∙ leading_more other n octets

leading_below : (other n : ℕ) (xs : List ℕ) → other < 256 → AreOctets xs → leading other n xs < 256 ^ n
leading_below other zero xs few small = let none = leading_none other xs in omega (arith, none)
leading_below other (suc n) xs few small =
    let more = leading_more other n xs in
    let below = leading_below other n xs few small in
    let octet = octet_below other xs few small n in
    let grown = pow-suc 256 n in
    omega (arith, more, below, octet, grown)

-- a word has room for eight octets
pub one_more_fits : (other n : ℕ) (xs : List ℕ) → other < 256 → AreOctets xs → n < 8 → leading other n xs * 256 + 256 ≤ 2 ^ 64
one_more_fits other n xs few small lt =
    let below = leading_below other n xs few small in
    let least : 0 < 256 = omega arith in
    let most : n ≤ 7 = omega (arith, lt) in
    let bound : 256 ^ n ≤ 256 ^ 7 = pow-le-pow_right least most in
    omega (arith, below, bound)

cons_step : (a b c g part grown m : ℕ) → a ≡ b * 256 + g → b ≡ part + c → m ≡ c * 256 + g → grown ≡ part * 256 → a ≡ grown + m
cons_step a b c g part grown m p q r s = omega (arith, p, q, r, s)

-- the first octet has the greatest weight
leading_cons : (other n x : ℕ) (xs : List ℕ) → leading other (suc n) (x ∷ xs) ≡ x * 256 ^ n + leading other n xs
leading_cons other zero x xs =
    let more = leading_more other 0 (x ∷ xs) in
    let none = leading_none other (x ∷ xs) in
    let nothing = leading_none other xs in
    omega (arith, more, none, nothing)
leading_cons other (suc n) x xs =
    cons_step _ _ _ _ _ _ _ (leading_more other (suc n) (x ∷ xs)) (leading_cons other n x xs) (leading_more other n xs)
    (ap (λ p. x * p) (pow-suc 256 n) ∙ sym (mul_assoc x (256 ^ n) 256))

least_of_none : (n : ℕ) → leading 0 n [] ≡ 0
least_of_none zero = leading_none 0 []
least_of_none (suc n) = let more = leading_more 0 n [] in let none = least_of_none n in omega (arith, more, none)

greatest_of_none : (n : ℕ) → leading 255 n [] + 1 ≡ 256 ^ n
greatest_of_none zero = let none = leading_none 255 [] in omega (arith, none)
greatest_of_none (suc n) =
    let more = leading_more 255 n [] in
    let most = greatest_of_none n in
    let grown = pow-suc 256 n in
    omega (arith, more, most, grown)

-- ---- bounds of two strings

apart : (high low one other next h l p : ℕ) → high ≡ one + h → low ≡ other + l → h < p → next ≡ one + p → next ≤ other → high < low
apart high low one other next h l p a b c d e = omega (arith, a, b, c, d, e)

-- a lower first octet makes a lower number
first_lower : (n x y : ℕ) (xs ys : List ℕ) → AreOctets xs → x < y → leading 255 (suc n) (x ∷ xs) < leading 0 (suc n) (y ∷ ys)
first_lower n x y xs ys small lt =
    let le : suc x ≤ y = omega (arith, lt) in
    apart _ _ _ _ _ _ _ _ (leading_cons 255 n x xs) (leading_cons 0 n y ys) (leading_below 255 n xs (omega arith) small) (suc-mul x (256 ^ n)) (mul-le-mul_right (256 ^ n) le)

lower_rest : (high low one other h l : ℕ) → high ≡ one + h → low ≡ other + l → one ≡ other → high < low → h < l
lower_rest high low one other h l a b e lt = omega (arith, a, b, e, lt)

level_rest : (high low one other h l : ℕ) → high ≡ one + h → low ≡ other + l → one ≡ other → low ≤ high → l ≤ h
level_rest high low one other h l a b e le = omega (arith, a, b, e, le)

least_le_greatest : (n : ℕ) (xs : List ℕ) → leading 0 n xs ≤ leading 255 n xs
least_le_greatest n [] = let none = least_of_none n in omega (arith, none)
least_le_greatest zero (x ∷ xs) = let none = leading_none 0 (x ∷ xs) in omega (arith, none)
least_le_greatest (suc n) (x ∷ xs) = in_order _ _ _ _ _ (leading_cons 0 n x xs) (leading_cons 255 n x xs) (least_le_greatest n xs)
  where
    in_order : (low high part l h : ℕ) → low ≡ part + l → high ≡ part + h → l ≤ h → low ≤ high
    in_order low high part l h a b le = omega (arith, a, b, le)

circular : (a b c d : ℕ) → a ≤ b → c ≤ d → b < c → d < a → ⊥
circular a b c d p q r s = absurd (omega (arith, p, q, r, s))

-- a string is lower if its greatest number is below the least number of the other
pub lower_by_bounds : (n : ℕ) (xs ys : List ℕ) → AreOctets xs → AreOctets ys → leading 255 n xs < leading 0 n ys → side_by_side xs ys ≡ Less
lower_by_bounds zero xs ys small smalls lt = let none = leading_none 0 ys in absurd (omega (arith, lt, none))
lower_by_bounds (suc n) [] ys small smalls lt =
    let most = greatest_of_none (suc n) in
    let below = leading_below 0 (suc n) ys (omega arith) smalls in
    absurd (omega (arith, lt, most, below))
lower_by_bounds (suc n) (x ∷ xs) [] small smalls lt = let none = least_of_none (suc n) in absurd (omega (arith, lt, none))
lower_by_bounds (suc n) (x ∷ xs) (y ∷ ys) small smalls lt =
    elim (cases_order x y) [
      | inl e ↦
          side_by_side_first_same x y xs ys e
          ∙ lower_by_bounds n xs ys (after x xs small) (after y ys smalls)
          (lower_rest _ _ _ _ _ _ (leading_cons 255 n x xs) (leading_cons 0 n y ys) (ap (λ z. z * 256 ^ n) e) lt)
      | inr (inl below) ↦ side_by_side_first_lower x y xs ys below
      | inr (inr above) ↦
          absurd (circular _ _ _ _ (least_le_greatest (suc n) (x ∷ xs)) (least_le_greatest (suc n) (y ∷ ys)) lt (first_lower n y x ys xs (after y ys smalls) above))
    ]

pub higher_by_bounds : (n : ℕ) (xs ys : List ℕ) → AreOctets xs → AreOctets ys → leading 255 n ys < leading 0 n xs → side_by_side xs ys ≡ Greater
higher_by_bounds n xs ys small smalls lt = side_by_side_reversed ys xs ∙ ap ordering_reverse (lower_by_bounds n ys xs smalls small lt)

not_both_ways : (a b : ℕ) → a ≤ b → b < a → ⊥
not_both_ways a b le lt = absurd (omega (arith, le, lt))

-- strings are level if neither is below the other, and one has no octet after the first
pub equal_by_bounds : (n : ℕ) (xs ys : List ℕ) → AreOctets xs → AreOctets ys → (length xs ≤ n) ⊎ (length ys ≤ n)
    → leading 0 n ys ≤ leading 255 n xs → leading 0 n xs ≤ leading 255 n ys → side_by_side xs ys ≡ Equal
equal_by_bounds n [] ys small smalls few up down = refl
equal_by_bounds n (x ∷ xs) [] small smalls few up down = refl
equal_by_bounds zero (x ∷ xs) (y ∷ ys) small smalls few up down = elim few [ inl e ↦ absurd (omega (arith, e)) | inr e ↦ absurd (omega (arith, e)) ]
equal_by_bounds (suc n) (x ∷ xs) (y ∷ ys) small smalls few up down =
    elim (cases_order x y) [
      | inl e ↦
          let same = ap (λ z. z * 256 ^ n) e in
          side_by_side_first_same x y xs ys e
          ∙ equal_by_bounds n xs ys (after x xs small) (after y ys smalls) (elim few [ inl le ↦ inl (omega (arith, le)) | inr le ↦ inr (omega (arith, le)) ])
          (level_rest _ _ _ _ _ _ (leading_cons 255 n x xs) (leading_cons 0 n y ys) same up)
          (level_rest _ _ _ _ _ _ (leading_cons 255 n y ys) (leading_cons 0 n x xs) (sym same) down)
      | inr (inl below) ↦ absurd (not_both_ways _ _ up (first_lower n x y xs ys (after x xs small) below))
      | inr (inr above) ↦ absurd (not_both_ways _ _ down (first_lower n y x ys xs (after y ys smalls) above))
    ]

-- ---- bounds

pub bounds_at : (digits : List ℕ) (bounds : Bounds) (n : ℕ) → n ≡ 8 → AreOctets digits → bounds.least ≡ leading 0 n digits → bounds.greatest ≡ leading 255 n digits → AreBounds digits bounds
bounds_at digits bounds n all small least greatest = record {
  octets = small;
  least = least ∙ ap (λ m. leading 0 m digits) all;
  greatest = greatest ∙ ap (λ m. leading 255 m digits) all;
}
