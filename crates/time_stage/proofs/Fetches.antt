-- Octets that are fetched by places: the first 16 and the last 16 of 30 octets are looked up.
use Rattle.std.proofs.Common.{◌≡◌, ℕ, ◌+◌, ◌-◌, ◌%◌, ◌^◌, ◌<◌, ◌≤◌, Bool, true, false, cond, eqb, leb, ltb, List, [], ◌∷◌, length, get_or, map, replicate, take, drop, bit_and, bit_or, Fits, refl, sym, ap, subst, ◌∙◌, arith, w8, inl, inr, ◌++◌, length-drop, length-append}
use Rattle.std.specs.Int.Bits.{or_zero_l, or_zero_r, or_self}
use Rattle.std.specs.Simd.Lanes.{Each1, zip2, chunk, put_chunk}
use Rattle.std.proofs.lemmas.Bool.{cases_lt, agree_below_at, lt-ltb, eqb-true, leb-true, le-leb, ltb-false}
use Rattle.std.proofs.lemmas.List.{get_or_past, get_or_default, get_or-take, get_or-drop, get_or-map, get_or_append_left, length-map, length-take-le}
use Rattle.std.proofs.lemmas.Simd.{Each1-from_get_or, put_chunk_whole, get_or-put_chunk_below, get_or-put_chunk_at, zip2_splat, zip2_of_maps, splat_is_map, map-map, length-zip2, get_or-zip2, get_or-replicate, length-chunk, get_or-chunk}
use Rattle.time_stage.proofs.Shuffles.{IsPlace}

abbrev pub sum : ℕ → ℕ → ℕ
sum a b = (a + b) % 2 ^ 8

abbrev pub less : ℕ → ℕ → ℕ
less a b = (a + (2 ^ 8 - b)) % 2 ^ 8

-- the place among the first 16, and among the last 16
abbrev pub in_front : ℕ → ℕ
in_front place = bit_and (bit_or (sum place 112) place) 143

abbrev pub in_back : ℕ → ℕ
in_back place = less place 14

-- a number of an octet, or 255
abbrev pub IsNumber : ℕ → Type 0
IsNumber place = (place < 256) × (30 ≤ place → place ≡ 255)

-- ---- one place

abbrev front_test : ℕ → Bool
front_test place = cond (ltb place 16) (eqb (in_front place) place) (leb 128 (in_front place))

front_holds : (place : ℕ) → place < 256 → front_test place ≡ true
front_holds place small = agree_below_at front_test (λ _. true) 256 place refl small

low_front : (place : ℕ) → place < 16 → in_front place ≡ place
low_front place low = eqb-true (in_front place) place (subst (λ b. cond b (eqb (in_front place) place) (leb 128 (in_front place)) ≡ true) (lt-ltb place 16 low) (front_holds place (omega (arith, low))))

past_front : (place : ℕ) → 16 ≤ place → place < 256 → 128 ≤ in_front place
past_front place past small =
    let no : ltb place 16 ≡ false = ge_ltb place 16 past in
    leb-true 128 (in_front place) (subst (λ b. cond b (eqb (in_front place) place) (leb 128 (in_front place)) ≡ true) no (front_holds place small))
  where
    ge_ltb : (a b : ℕ) → b ≤ a → ltb a b ≡ false
    ge_ltb a b ge = go (ltb a b) refl
      where
        go : (t : Bool) → ltb a b ≡ t → t ≡ false
        go true e = absurd (omega (arith, Rattle.std.proofs.lemmas.Bool.ltb-true a b e))
        go false e = refl

pub IsPlace-front : (place : ℕ) → IsNumber place → IsPlace (in_front place)
IsPlace-front place is = elim (cases_lt place 16) [
  | inl low ↦ λ past. absurd (omega (arith, low_front place low, low))
  | inr past ↦ λ _. past_front place past is.0
]

pub IsPlace-back : (place : ℕ) → IsNumber place → IsPlace (in_back place)
IsPlace-back place is past = elim (cases_lt place 30) [
  | inl low ↦ omega (arith, low, past)
  | inr high ↦ omega (arith, is.1 high)
]

module _ (octets front back : List ℕ) (bytes : (k : ℕ) → get_or octets k 0 < 256) (whole : length octets ≡ 30)
    (front_in : (k : ℕ) → k < 16 → get_or front k 0 ≡ less (get_or octets k 0) 213) (front_out : (k : ℕ) → 16 ≤ k → get_or front k 0 ≡ 0)
    (back_in : (k : ℕ) → k < 16 → get_or back k 0 ≡ less (get_or octets (14 + k) 0) 213) (back_out : (k : ℕ) → 16 ≤ k → get_or back k 0 ≡ 0) where
  abbrev found : ℕ → ℕ
  found place = sum (bit_or (get_or front (in_front place) 0) (get_or back (in_back place) 0)) 213

  again : (octet : ℕ) → octet < 256 → sum (less octet 213) 213 ≡ octet
  again octet small = omega (arith, small)

  at_low : (place : ℕ) → place < 14 → found place ≡ get_or octets place 0
  at_low place low =
      let one : get_or front (in_front place) 0 ≡ less (get_or octets place 0) 213 = ap (λ k. get_or front k 0) (low_front place (omega (arith, low))) ∙ front_in place (omega (arith, low)) in
      let none : get_or back (in_back place) 0 ≡ 0 = back_out (in_back place) (omega (arith, low)) in
      (λ i. sum (bit_or (one i) (none i)) 213) ∙ ap (λ o. sum o 213) (or_zero_r (less (get_or octets place 0) 213)) ∙ again (get_or octets place 0) (bytes place)

  at_both : (place : ℕ) → 14 ≤ place → place < 16 → found place ≡ get_or octets place 0
  at_both place ge lt =
      let one : get_or front (in_front place) 0 ≡ less (get_or octets place 0) 213 = ap (λ k. get_or front k 0) (low_front place lt) ∙ front_in place lt in
      let there : 14 + in_back place ≡ place = omega (arith, ge, lt) in
      let same : get_or back (in_back place) 0 ≡ less (get_or octets place 0) 213 = back_in (in_back place) (omega (arith, ge, lt)) ∙ ap (λ k. less (get_or octets k 0) 213) there in
      (λ i. sum (bit_or (one i) (same i)) 213) ∙ ap (λ o. sum o 213) (or_self (less (get_or octets place 0) 213)) ∙ again (get_or octets place 0) (bytes place)

  at_high : (place : ℕ) → 16 ≤ place → place < 30 → found place ≡ get_or octets place 0
  at_high place ge lt =
      let none : get_or front (in_front place) 0 ≡ 0 = front_out (in_front place) (omega (arith, past_front place ge (omega (arith, lt)))) in
      let there : 14 + in_back place ≡ place = omega (arith, ge, lt) in
      let one : get_or back (in_back place) 0 ≡ less (get_or octets place 0) 213 = back_in (in_back place) (omega (arith, ge, lt)) ∙ ap (λ k. less (get_or octets k 0) 213) there in
      (λ i. sum (bit_or (none i) (one i)) 213) ∙ ap (λ o. sum o 213) (or_zero_l (less (get_or octets place 0) 213)) ∙ again (get_or octets place 0) (bytes place)

  at_none : (place : ℕ) → place ≡ 255 → found place ≡ 213
  at_none place e =
      let none : get_or front (in_front place) 0 ≡ 0 = front_out (in_front place) (omega (arith, past_front place (omega (arith, e)) (omega (arith, e)))) in
      let neither : get_or back (in_back place) 0 ≡ 0 = back_out (in_back place) (omega (arith, e)) in
      (λ i. sum (bit_or (none i) (neither i)) 213) ∙ ap (λ o. sum o 213) (or_zero_l 0)

  pub found_is : (place : ℕ) → IsNumber place → found place ≡ get_or octets place 213
  found_is place is = elim (cases_lt place 30) [
    | inr high ↦ at_none place (is.1 high) ∙ sym (get_or_past octets place 213 (omega (arith, whole, high)))
    | inl within ↦
        (elim (cases_lt place 14) [
          | inl low ↦ at_low place low
          | inr ge ↦ elim (cases_lt place 16) [
            | inl lt ↦ at_both place ge lt
            | inr past ↦ at_high place past within
          ]
        ])
        ∙ get_or_default octets place 0 213 (omega (arith, whole, within))
  ]

-- ---- all places

map_on : (P : ℕ → Type 0) (f g : ℕ → ℕ) → ((x : ℕ) → P x → f x ≡ g x) → (xs : List ℕ) → Each1 P xs → map f xs ≡ map g xs
map_on P f g same [] all = refl
map_on P f g same (x ∷ xs) all = λ i. same x all.0 i ∷ map_on P f g same xs all.1 i

pub are_numbers : (places : List ℕ) → Each1 (Fits w8) places → Each1 (λ place. 30 ≤ place → place ≡ 255) places → Each1 IsNumber places
are_numbers [] fits are = tt
are_numbers (p ∷ ps) fits are = ((fits.0.fits, are.0), are_numbers ps fits.1 are.1)

module _ (places : List ℕ) (long : length places ≡ 16) where
  itself : zip2 bit_or (map (λ p. sum p 112) places) places ≡ map (λ p. bit_or (sum p 112) p) places
  itself = go places
    where
      go : (ps : List ℕ) → zip2 bit_or (map (λ p. sum p 112) ps) ps ≡ map (λ p. bit_or (sum p 112) p) ps
      go [] = refl
      go (p ∷ ps) = ap (λ rest. bit_or (sum p 112) p ∷ rest) (go ps)

  pub fronts : zip2 bit_and (zip2 bit_or (zip2 sum places (replicate 16 112)) places) (replicate 16 143) ≡ map in_front places
  fronts =
      ap (λ l. zip2 bit_and (zip2 bit_or l places) (replicate 16 143)) (zip2_splat sum places 16 112 long)
      ∙ ap (λ l. zip2 bit_and l (replicate 16 143)) itself
      ∙ zip2_splat bit_and (map (λ p. bit_or (sum p 112) p) places) 16 143 (length-map places (λ p. bit_or (sum p 112) p) ∙ long)
      ∙ map-map (λ o. bit_and o 143) (λ p. bit_or (sum p 112) p) places

  pub backs : zip2 less places (replicate 16 14) ≡ map in_back places
  backs = zip2_splat less places 16 14 long

  module _ (numbers : Each1 IsNumber places) where
    pub front_places : Each1 IsPlace (zip2 bit_and (zip2 bit_or (zip2 sum places (replicate 16 112)) places) (replicate 16 143))
    front_places = subst (Each1 IsPlace) (sym fronts) (each_map places numbers)
      where
        each_map : (ps : List ℕ) → Each1 IsNumber ps → Each1 IsPlace (map in_front ps)
        each_map [] are = tt
        each_map (p ∷ ps) are = (IsPlace-front p are.0, each_map ps are.1)

    pub back_places : Each1 IsPlace (zip2 less places (replicate 16 14))
    back_places = subst (Each1 IsPlace) (sym backs) (each_map places numbers)
      where
        each_map : (ps : List ℕ) → Each1 IsNumber ps → Each1 IsPlace (map in_back ps)
        each_map [] are = tt
        each_map (p ∷ ps) are = (IsPlace-back p are.0, each_map ps are.1)

    module _ (octets : List ℕ) (bytes : (k : ℕ) → get_or octets k 0 < 256) (whole : length octets ≡ 30) where
      at_octets : (part : List ℕ) (k : ℕ) → length part ≡ 16 → k < 16 → get_or (zip2 less part (replicate 16 213)) k 0 ≡ less (get_or part k 0) 213
      at_octets part k full lt =
          get_or-zip2 less part (replicate 16 213) k 0 0 0 (omega (arith, full, lt)) lt ∙ ap (less (get_or part k 0)) (get_or-replicate 16 k 213 0 lt)

      past_octets : (part : List ℕ) (k : ℕ) → length part ≡ 16 → 16 ≤ k → get_or (zip2 less part (replicate 16 213)) k 0 ≡ 0
      past_octets part k full ge = get_or_past (zip2 less part (replicate 16 213)) k 0 (omega (arith, length-zip2 less part (replicate 16 213) full, full, ge))

      one_long : length (take 16 (take 16 octets)) ≡ 16
      one_long = length-take-le 16 (take 16 octets) (omega (arith, length-take-le 16 octets (omega (arith, whole))))

      other_long : length (take 16 (drop 14 octets)) ≡ 16
      other_long = length-take-le 16 (drop 14 octets) (omega (arith, length-drop 14 octets, whole))

      -- what is looked up is the octet of each place
      pub fetched_all : (one other : List ℕ)
          → one ≡ map (λ place. get_or (zip2 less (take 16 (take 16 octets)) (replicate 16 213)) place 0) (zip2 bit_and (zip2 bit_or (zip2 sum places (replicate 16 112)) places) (replicate 16 143))
          → other ≡ map (λ place. get_or (zip2 less (take 16 (drop 14 octets)) (replicate 16 213)) place 0) (zip2 less places (replicate 16 14))
          → zip2 sum (zip2 bit_or one other) (replicate 16 213) ≡ map (λ place. get_or octets place 213) places
      fetched_all one other e f =
          let front : List ℕ = zip2 less (take 16 (take 16 octets)) (replicate 16 213) in
          let back : List ℕ = zip2 less (take 16 (drop 14 octets)) (replicate 16 213) in
          let a : one ≡ map (λ p. get_or front (in_front p) 0) places = e ∙ ap (map (λ place. get_or front place 0)) fronts ∙ map-map (λ place. get_or front place 0) in_front places in
          let b : other ≡ map (λ p. get_or back (in_back p) 0) places = f ∙ ap (map (λ place. get_or back place 0)) backs ∙ map-map (λ place. get_or back place 0) in_back places in
          let both : zip2 bit_or one other ≡ map (λ p. bit_or (get_or front (in_front p) 0) (get_or back (in_back p) 0)) places =
          zip2_of_maps bit_or (λ p. get_or front (in_front p) 0) (λ p. get_or back (in_back p) 0) places a b in
          zip2_of_maps sum (λ p. bit_or (get_or front (in_front p) 0) (get_or back (in_back p) 0)) (λ _. 213) places both (splat_is_map places 16 213 long)
          ∙ map_on IsNumber _ (λ place. get_or octets place 213)
          (found_is octets front back bytes whole
          (λ k lt. at_octets (take 16 (take 16 octets)) k one_long lt ∙ ap (λ o. less o 213) (get_or-take 16 (take 16 octets) k 0 lt ∙ get_or-take 16 octets k 0 lt))
          (λ k ge. past_octets (take 16 (take 16 octets)) k one_long ge)
          (λ k lt. at_octets (take 16 (drop 14 octets)) k other_long lt ∙ ap (λ o. less o 213) (get_or-take 16 (drop 14 octets) k 0 lt ∙ get_or-drop 14 octets k 0))
          (λ k ge. past_octets (take 16 (drop 14 octets)) k other_long ge))
          places numbers

-- ---- a row of thirty, in two parts that overlap

front_of : (table : List ℕ) (k : ℕ) → k < 16 → get_or (chunk 0 16 (take 16 table)) k 0 ≡ get_or table k 0
front_of table k lt = get_or-take 16 (take 16 table) k 0 lt ∙ get_or-take 16 table k 0 lt

back_of : (table : List ℕ) (k : ℕ) → k < 16 → get_or (chunk 14 16 table) k 0 ≡ get_or table (14 + k) 0
back_of table k lt = get_or-chunk 14 16 table k 0 lt

front_long : (table : List ℕ) → length table ≡ 30 → length (chunk 0 16 (take 16 table)) ≡ 16
front_long table long = length-chunk 0 16 (take 16 table) (omega (arith, length-take-le 16 table (omega (arith, long))))

back_long : (table : List ℕ) → length table ≡ 30 → length (chunk 14 16 table) ≡ 16
back_long table long = length-chunk 14 16 table (omega (arith, long))

module _ (P : ℕ → Type 0) (table : List ℕ) (long : length table ≡ 30) (each : (at : ℕ) → at < 30 → P (get_or table at 0)) where
  pub Each1-front : Each1 P (chunk 0 16 (take 16 table))
  Each1-front = Each1-from_get_or P _ 0 (λ k h. let lt : k < 16 = omega (arith, h, front_long table long) in subst P (sym (front_of table k lt)) (each k (omega (arith, lt))))

  pub Each1-back : Each1 P (chunk 14 16 table)
  Each1-back = Each1-from_get_or P _ 0 (λ k h. let lt : k < 16 = omega (arith, h, back_long table long) in subst P (sym (back_of table k lt)) (each (14 + k) (omega (arith, lt))))

module _ (h : ℕ → ℕ) (table row front back : List ℕ) (long : length table ≡ 30) (room : length row ≡ 30)
    (one : front ≡ map h (chunk 0 16 (take 16 table))) (other : back ≡ map h (chunk 14 16 table)) where
  first_long : length front ≡ 16
  first_long = ap length one ∙ length-map (chunk 0 16 (take 16 table)) h ∙ front_long table long

  last_long : length back ≡ 16
  last_long = ap length other ∙ length-map (chunk 14 16 table) h ∙ back_long table long

  half : length (take 16 row) ≡ 16
  half = length-take-le 16 row (omega (arith, room))

  abbrev begun : List ℕ
  begun = put_chunk 0 (take 16 row) front ++ drop 16 row

  begun_is : begun ≡ front ++ drop 16 row
  begun_is = ap (λ l. l ++ drop 16 row) (put_chunk_whole (take 16 row) front (half ∙ sym first_long))

  begun_long : length begun ≡ 30
  begun_long = ap length begun_is ∙ omega (arith, length-append front (drop 16 row), first_long, length-drop 16 row, room)

  pub row_fetched : (at : ℕ) → at < 30 → get_or (put_chunk 14 begun back) at 0 ≡ h (get_or table at 0)
  row_fetched at within = elim (cases_lt at 14) [
    | inl low ↦
        get_or-put_chunk_below 14 begun back at 0 low ∙ ap (λ l. get_or l at 0) begun_is ∙ get_or_append_left front (drop 16 row) 0 at (omega (arith, first_long, low))
        ∙ ap (λ l. get_or l at 0) one ∙ get_or-map h (chunk 0 16 (take 16 table)) at 0 0 (omega (arith, front_long table long, low)) ∙ ap h (front_of table at (omega (arith, low)))
    | inr high ↦
        let j : ℕ = at - 14 in
        let there : 14 + j ≡ at = omega (arith, high) in
        ap (λ k. get_or (put_chunk 14 begun back) k 0) (sym there) ∙ get_or-put_chunk_at 14 begun back j 0 (omega (arith, last_long, within)) (omega (arith, last_long, begun_long))
        ∙ ap (λ l. get_or l j 0) other ∙ get_or-map h (chunk 14 16 table) j 0 0 (omega (arith, back_long table long, within)) ∙ ap h (back_of table j (omega (arith, within)) ∙ ap (λ k. get_or table k 0) there)
  ]
