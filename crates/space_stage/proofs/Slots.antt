-- Octets of thirty-two lines that are looked up in two halves, all of a slot at once.
use Rattle.std.proofs.Common.{◌≡◌, ℕ, zero, suc, ◌+◌, ◌-◌, ◌%◌, ◌^◌, ◌<◌, ◌≤◌, ◌++◌, Bool, true, false, cond, eqb, leb, ltb, List, [], ◌∷◌, length, get_or, map, replicate, bit_and, bit_or, Fits, refl, sym, ap, subst, ◌∙◌, arith, w8, inl, inr, length-append}
use Rattle.std.specs.Int.Bits.{or_zero_l, or_zero_r}
use Rattle.std.specs.Simd.Lanes.{Each1, zip2}
use Rattle.std.proofs.lemmas.Bool.{cases_lt, agree_below_at, lt-ltb, ltb-true, eqb-true, leb-true}
use Rattle.std.proofs.lemmas.List.{get_or_past, get_or_default, get_or_append_left, get_or-append_right, length-map}
use Rattle.std.proofs.lemmas.Simd.{zip2_splat, zip2_of_maps, splat_is_map, map-map, length-zip2, get_or-zip2, get_or-replicate}
use Rattle.space_stage.proofs.Shuffles.{IsPlace}

abbrev pub sum : ℕ → ℕ → ℕ
sum a b = (a + b) % 2 ^ 8

abbrev pub less : ℕ → ℕ → ℕ
less a b = (a + (2 ^ 8 - b)) % 2 ^ 8

abbrev pub in_low : ℕ → ℕ
in_low number = bit_and (bit_or (sum number 112) number) 143

abbrev pub in_high : ℕ → ℕ
in_high number = less number 16

abbrev pub IsNumber : ℕ → Type 0
IsNumber number = (number < 256) × (32 ≤ number → number ≡ 255)

abbrev low_test : ℕ → Bool
low_test number = cond (ltb number 16) (eqb (in_low number) number) (leb 128 (in_low number))

low_holds : (number : ℕ) → number < 256 → low_test number ≡ true
low_holds number small = agree_below_at low_test (λ _. true) 256 number refl small

at_low : (number : ℕ) → number < 16 → in_low number ≡ number
at_low number low = eqb-true (in_low number) number (subst (λ b. cond b (eqb (in_low number) number) (leb 128 (in_low number)) ≡ true) (lt-ltb number 16 low) (low_holds number (omega (arith, low))))

past_low : (number : ℕ) → 16 ≤ number → number < 256 → 128 ≤ in_low number
past_low number past small = leb-true 128 (in_low number) (subst (λ b. cond b (eqb (in_low number) number) (leb 128 (in_low number)) ≡ true) (go (ltb number 16) refl) (low_holds number small))
  where
    go : (t : Bool) → ltb number 16 ≡ t → ltb number 16 ≡ false
    go true e = absurd (omega (arith, ltb-true number 16 e))
    go false e = e

is_low_place : (number : ℕ) → IsNumber number → IsPlace (in_low number)
is_low_place number is = elim (cases_lt number 16) [
  | inl low ↦ λ past. absurd (omega (arith, at_low number low, low))
  | inr past ↦ λ _. past_low number past is.0
]

is_high_place : (number : ℕ) → IsNumber number → IsPlace (in_high number)
is_high_place number is past = elim (cases_lt number 32) [
  | inl low ↦ omega (arith, low, past)
  | inr high ↦ omega (arith, is.1 high)
]

-- ---- one number, in two halves whose octets are kept as their difference from the idle octet

again : (octet : ℕ) → octet < 256 → sum (less octet 213) 213 ≡ octet
again octet small = omega (arith, small)

module _ (low high : List ℕ) (ll : length low ≡ 16) (lh : length high ≡ 16) (low_bytes : (k : ℕ) → get_or low k 0 < 256) (high_bytes : (k : ℕ) → get_or high k 0 < 256) where
  abbrev low_part : List ℕ
  low_part = zip2 less low (replicate 16 213)

  abbrev high_part : List ℕ
  high_part = zip2 less high (replicate 16 213)

  inside : (half : List ℕ) → length half ≡ 16 → (k : ℕ) → k < 16 → get_or (zip2 less half (replicate 16 213)) k 0 ≡ less (get_or half k 0) 213
  inside half full k lt = get_or-zip2 less half (replicate 16 213) k 0 0 0 (omega (arith, full, lt)) lt ∙ ap (less (get_or half k 0)) (get_or-replicate 16 k 213 0 lt)

  outside : (half : List ℕ) → length half ≡ 16 → (k : ℕ) → 16 ≤ k → get_or (zip2 less half (replicate 16 213)) k 0 ≡ 0
  outside half full k ge = get_or_past (zip2 less half (replicate 16 213)) k 0 (omega (arith, length-zip2 less half (replicate 16 213) full, full, ge))

  abbrev found : ℕ → ℕ
  found number = sum (bit_or (get_or low_part (in_low number) 0) (get_or high_part (in_high number) 0)) 213

  at_early : (number : ℕ) → number < 16 → found number ≡ get_or (low ++ high) number 213
  at_early number early =
      let one : get_or low_part (in_low number) 0 ≡ less (get_or low number 0) 213 = ap (λ k. get_or low_part k 0) (at_low number early) ∙ inside low ll number early in
      let none : get_or high_part (in_high number) 0 ≡ 0 = outside high lh (in_high number) (omega (arith, early)) in
      (λ i. sum (bit_or (one i) (none i)) 213) ∙ ap (λ o. sum o 213) (or_zero_r (less (get_or low number 0) 213)) ∙ again (get_or low number 0) (low_bytes number)
      ∙ get_or_default low number 0 213 (omega (arith, ll, early)) ∙ sym (get_or_append_left low high 213 number (omega (arith, ll, early)))

  at_late : (number : ℕ) → 16 ≤ number → number < 32 → found number ≡ get_or (low ++ high) number 213
  at_late number past within =
      let none : get_or low_part (in_low number) 0 ≡ 0 = outside low ll (in_low number) (omega (arith, past_low number past (omega (arith, within)))) in
      let there : in_high number ≡ number - 16 = omega (arith, past, within) in
      let near : number - 16 < 16 = omega (arith, past, within) in
      let one : get_or high_part (in_high number) 0 ≡ less (get_or high (number - 16) 0) 213 = ap (λ k. get_or high_part k 0) there ∙ inside high lh (number - 16) near in
      (λ i. sum (bit_or (none i) (one i)) 213) ∙ ap (λ o. sum o 213) (or_zero_l (less (get_or high (number - 16) 0) 213)) ∙ again (get_or high (number - 16) 0) (high_bytes (number - 16))
      ∙ get_or_default high (number - 16) 0 213 (omega (arith, lh, near)) ∙ sym (get_or-append_right low high 16 number 213 ll past)

  at_none : (number : ℕ) → 32 ≤ number → number ≡ 255 → found number ≡ get_or (low ++ high) number 213
  at_none number over e =
      let none : get_or low_part (in_low number) 0 ≡ 0 = outside low ll (in_low number) (omega (arith, past_low number (omega (arith, e)) (omega (arith, e)))) in
      let neither : get_or high_part (in_high number) 0 ≡ 0 = outside high lh (in_high number) (omega (arith, e)) in
      (λ i. sum (bit_or (none i) (neither i)) 213) ∙ ap (λ o. sum o 213) (or_zero_l 0) ∙ sym (get_or_past (low ++ high) number 213 (omega (arith, length-append low high, ll, lh, over)))

  found_is : (number : ℕ) → IsNumber number → found number ≡ get_or (low ++ high) number 213
  found_is number is = elim (cases_lt number 16) [
    | inl early ↦ at_early number early
    | inr past ↦ elim (cases_lt number 32) [
      | inl within ↦ at_late number past within
      | inr over ↦ at_none number over (is.1 over)
    ]
  ]

-- ---- sixteen numbers

map_on : (P : ℕ → Type 0) (f g : ℕ → ℕ) → ((x : ℕ) → P x → f x ≡ g x) → (xs : List ℕ) → Each1 P xs → map f xs ≡ map g xs
map_on P f g same [] all = refl
map_on P f g same (x ∷ xs) all = λ i. same x all.0 i ∷ map_on P f g same xs all.1 i

pub are_numbers : (numbers : List ℕ) → Each1 (Fits w8) numbers → Each1 (λ number. 32 ≤ number → number ≡ 255) numbers → Each1 IsNumber numbers
are_numbers [] fits are = tt
are_numbers (p ∷ ps) fits are = ((fits.0.fits, are.0), are_numbers ps fits.1 are.1)

pub bytes : (octets : List ℕ) → Each1 (Fits w8) octets → (k : ℕ) → get_or octets k 0 < 256
bytes [] fits k = omega arith
bytes (o ∷ os) fits zero = fits.0.fits
bytes (o ∷ os) fits (suc k) = bytes os fits.1 k

each_map : (f : ℕ → ℕ) → ((p : ℕ) → IsNumber p → IsPlace (f p)) → (ps : List ℕ) → Each1 IsNumber ps → Each1 IsPlace (map f ps)
each_map f is [] are = tt
each_map f is (p ∷ ps) are = (is p are.0, each_map f is ps are.1)

itself : (ps : List ℕ) → zip2 bit_or (map (λ p. sum p 112) ps) ps ≡ map (λ p. bit_or (sum p 112) p) ps
itself [] = refl
itself (p ∷ ps) = ap (λ rest. bit_or (sum p 112) p ∷ rest) (itself ps)

module _ (numbers : List ℕ) (long : length numbers ≡ 16) where
  lows : zip2 bit_and (zip2 bit_or (zip2 sum numbers (replicate 16 112)) numbers) (replicate 16 143) ≡ map in_low numbers
  lows =
      ap (λ l. zip2 bit_and (zip2 bit_or l numbers) (replicate 16 143)) (zip2_splat sum numbers 16 112 long)
      ∙ ap (λ l. zip2 bit_and l (replicate 16 143)) (itself numbers)
      ∙ zip2_splat bit_and (map (λ p. bit_or (sum p 112) p) numbers) 16 143 (length-map numbers (λ p. bit_or (sum p 112) p) ∙ long)
      ∙ map-map (λ o. bit_and o 143) (λ p. bit_or (sum p 112) p) numbers

  highs : zip2 less numbers (replicate 16 16) ≡ map in_high numbers
  highs = zip2_splat less numbers 16 16 long

  module _ (are : Each1 IsNumber numbers) where
    pub low_places : Each1 IsPlace (zip2 bit_and (zip2 bit_or (zip2 sum numbers (replicate 16 112)) numbers) (replicate 16 143))
    low_places = subst (Each1 IsPlace) (sym lows) (each_map in_low is_low_place numbers are)

    pub high_places : Each1 IsPlace (zip2 less numbers (replicate 16 16))
    high_places = subst (Each1 IsPlace) (sym highs) (each_map in_high is_high_place numbers are)

    pub looked_up_all : (low high one other : List ℕ) (ll : length low ≡ 16) (lh : length high ≡ 16) → ((k : ℕ) → get_or low k 0 < 256) → ((k : ℕ) → get_or high k 0 < 256)
        → one ≡ map (λ place. get_or (zip2 less low (replicate 16 213)) place 0) (zip2 bit_and (zip2 bit_or (zip2 sum numbers (replicate 16 112)) numbers) (replicate 16 143))
        → other ≡ map (λ place. get_or (zip2 less high (replicate 16 213)) place 0) (zip2 less numbers (replicate 16 16))
        → zip2 sum (zip2 bit_or one other) (replicate 16 213) ≡ map (λ number. get_or (low ++ high) number 213) numbers
    looked_up_all low high one other ll lh bl bh e f =
        let front : List ℕ = zip2 less low (replicate 16 213) in
        let back : List ℕ = zip2 less high (replicate 16 213) in
        let a : one ≡ map (λ p. get_or front (in_low p) 0) numbers = e ∙ ap (map (λ place. get_or front place 0)) lows ∙ map-map (λ place. get_or front place 0) in_low numbers in
        let b : other ≡ map (λ p. get_or back (in_high p) 0) numbers = f ∙ ap (map (λ place. get_or back place 0)) highs ∙ map-map (λ place. get_or back place 0) in_high numbers in
        let both : zip2 bit_or one other ≡ map (λ p. bit_or (get_or front (in_low p) 0) (get_or back (in_high p) 0)) numbers =
        zip2_of_maps bit_or (λ p. get_or front (in_low p) 0) (λ p. get_or back (in_high p) 0) numbers a b in
        zip2_of_maps sum (λ p. bit_or (get_or front (in_low p) 0) (get_or back (in_high p) 0)) (λ _. 213) numbers both (splat_is_map numbers 16 213 long)
        ∙ map_on IsNumber _ (λ number. get_or (low ++ high) number 213) (found_is low high ll lh bl bh) numbers are
