-- Sixteen digits at once.
use Rattle.std.proofs.Common.{◌≡◌, ℕ, zero, suc, ◌+◌, ◌*◌, ◌/◌, ◌%◌, ◌^◌, ◌<◌, ◌≤◌, ◌++◌, Bool, true, false, not, ◌&&◌, cond, eqb, leb, List, [], ◌∷◌, length, map, replicate, take, drop, bit_and, bit_or, Option, Some, None, Fits, w8, refl, sym, ap, subst, ◌∙◌, arith, is_some, ◌-◌, Ok, Err, length-append}
use Rattle.std.specs.Prelude.{IfSome, option_and_then, ok_or}
use Rattle.std.specs.List.{list_all}
use Rattle.std.specs.Simd.Lanes.{Each1, zip2, pick_l, put_chunk, sel_l, mask_l, top}
use Rattle.std.proofs.lemmas.Bool.{and_parts, agree_below_at, eqb-true, ne_eqb, leb-false, lt-leb}
use Rattle.std.proofs.lemmas.List.{length-drop, length-map, map-append, take-take, drop-take, drop-drop, take-append-drop, take-append-le, take_all, length-take-le, length-replicate}
use Rattle.std.proofs.lemmas.List.Folds.{list_all-append}
use Rattle.std.proofs.lemmas.Slice.{take-put_mid}
use borrow.Rule.Slice.PartMut.{put_mid, same_len_mid}
use borrow.Rule.Simd.Lanes.{act2}
use borrow.Table.Row.{s_int}
use mir.Syntax.{wrap_add, lt, le, unsigned, mask}
use Rattle.std.proofs.lemmas.Nat.{le_or_l, le_or_r, or_shifted}
use Rattle.std.proofs.lemmas.Simd.{pick_l_whole, put_chunk_whole, mask_l-mod}
use Rattle.trace_text.specs.declared.fault.Reason.TheVariants.{Hex}
use Rattle.trace_text.specs.TraceFields.{digit_value, below_sixteen, is_digit, octets_written, thirty}
use Rattle.trace_text.proofs.TraceOctets.{AreValues, behind, digit_small, octets_written_pair_then, as_many, all_digits, written_length, written_both, front_written, widened, wide_lost, wide_written, is_thirty}

-- ---- the values of digits, lane by lane

abbrev sum : ℕ → ℕ → ℕ
sum = act2 wrap_add (s_int w8) (s_int w8) (s_int w8)

abbrev below : ℕ → ℕ → ℕ
below = act2 (mask (lt unsigned)) (s_int w8) (s_int w8) (s_int w8)

abbrev reaches : ℕ → ℕ → ℕ
reaches = act2 (mask (le unsigned)) (s_int w8) (s_int w8) (s_int w8)

abbrev lesser_l : List ℕ → List ℕ → List Bool
lesser_l xs ys = map (top 7) (zip2 below xs ys)

abbrev lower_l : List ℕ → List ℕ → List ℕ
lower_l xs ys = sel_l (lesser_l xs ys) xs ys

abbrev higher_l : List ℕ → List ℕ → List ℕ
higher_l xs ys = sel_l (lesser_l xs ys) ys xs

abbrev numerals_l : ℕ → List ℕ → List ℕ
numerals_l n ds = zip2 sum (higher_l (zip2 sum ds (replicate n 198)) (replicate n 6)) (replicate n 10)

abbrev letters_l : ℕ → List ℕ → List ℕ
letters_l n ds = zip2 sum (lower_l (zip2 sum (zip2 bit_and ds (replicate n 223)) (replicate n 191)) (replicate n 245)) (replicate n 10)

abbrev pub values_l : ℕ → List ℕ → List ℕ
values_l n ds = lower_l (numerals_l n ds) (letters_l n ds)

abbrev lower : ℕ → ℕ → ℕ
lower a b = cond (top 7 (below a b)) a b

abbrev higher : ℕ → ℕ → ℕ
higher a b = cond (top 7 (below a b)) b a

abbrev lane_value : ℕ → ℕ
lane_value d = lower (sum (higher (sum d 198) 6) 10) (sum (lower (sum (bit_and d 223) 191) 245) 10)

abbrev same : Option ℕ → Option ℕ → Bool
same None None = true
same None (Some b) = false
same (Some a) None = false
same (Some a) (Some b) = eqb a b

same_is : (o p : Option ℕ) → same o p ≡ true → o ≡ p
same_is None None e = refl
same_is None (Some b) e = absurd cc
same_is (Some a) None e = absurd cc
same_is (Some a) (Some b) e = ap (λ v. Some v) (eqb-true a b e)

lane_read : (d : ℕ) → d < 256 → digit_value d ≡ below_sixteen (lane_value d)
lane_read d small = same_is (digit_value d) (below_sixteen (lane_value d)) (agree_below_at (λ d. same (digit_value d) (below_sixteen (lane_value d))) (λ d. true) 256 d refl small)

pub values_are : (n : ℕ) (ds : List ℕ) → length ds ≡ n → Each1 (Fits w8) ds → map digit_value ds ≡ map below_sixteen (values_l n ds)
values_are zero [] long fits = refl
values_are zero (d ∷ ds) long fits = absurd (omega (arith, long))
values_are (suc n) [] long fits = absurd (omega (arith, long))
values_are (suc n) (d ∷ ds) long fits = λ i. lane_read d fits.0.fits i ∷ values_are n ds (omega (arith, long)) fits.1 i

-- ---- whether all are values of digits

abbrev pub is_small : ℕ → Bool
is_small v = not (leb 16 v)

abbrev pub beyond_l : ℕ → List ℕ → List ℕ → List Bool
beyond_l n xs ys = map (top 7) (zip2 bit_or (zip2 reaches (replicate n 16) xs) (zip2 reaches (replicate n 16) ys))

none_beyond : (a b : Bool) → not (top 7 (bit_or (cond a 255 0) (cond b 255 0))) ≡ (not a && not b)
none_beyond true true = refl
none_beyond true false = refl
none_beyond false true = refl
none_beyond false false = refl

crossed : (a b c d : Bool) → ((a && b) && (c && d)) ≡ ((a && c) && (b && d))
crossed false b c d = refl
crossed true true c d = refl
crossed true false true d = refl
crossed true false false d = refl

small_both : (n : ℕ) (xs ys : List ℕ) → length xs ≡ n → length ys ≡ n → list_all not (beyond_l n xs ys) ≡ (list_all is_small xs && list_all is_small ys)
small_both zero [] [] long alike = refl
small_both zero [] (y ∷ ys) long alike = absurd (omega (arith, alike))
small_both zero (x ∷ xs) ys long alike = absurd (omega (arith, long))
small_both (suc n) [] ys long alike = absurd (omega (arith, long))
small_both (suc n) (x ∷ xs) [] long alike = absurd (omega (arith, alike))
small_both (suc n) (x ∷ xs) (y ∷ ys) long alike =
    (λ i. none_beyond (leb 16 x) (leb 16 y) i && small_both n xs ys (omega (arith, long)) (omega (arith, alike)) i)
    ∙ crossed (is_small x) (is_small y) (list_all is_small xs) (list_all is_small ys)

beyond_long : (n : ℕ) (xs ys : List ℕ) → length xs ≡ n → length ys ≡ n → length (beyond_l n xs ys) ≡ n
beyond_long zero [] [] long alike = refl
beyond_long zero [] (y ∷ ys) long alike = absurd (omega (arith, alike))
beyond_long zero (x ∷ xs) ys long alike = absurd (omega (arith, long))
beyond_long (suc n) [] ys long alike = absurd (omega (arith, long))
beyond_long (suc n) (x ∷ xs) [] long alike = absurd (omega (arith, alike))
beyond_long (suc n) (x ∷ xs) (y ∷ ys) long alike = ap (λ k. suc k) (beyond_long n xs ys (omega (arith, long)) (omega (arith, alike)))

no_bit : (b : Bool) (m : ℕ) → eqb (cond b 1 zero + 2 * m) 0 ≡ (not b && eqb m 0)
no_bit true m = ne_eqb (1 + 2 * m) 0 (λ e. omega (arith, e))
no_bit false zero = refl
no_bit false (suc m) = ne_eqb (0 + 2 * suc m) 0 (λ e. omega (arith, e)) ∙ sym (ne_eqb (suc m) 0 (λ e. omega (arith, e)))

no_bits : (bs : List Bool) → eqb (mask_l bs) 0 ≡ list_all not bs
no_bits [] = refl
no_bits (b ∷ bs) = no_bit b (mask_l bs) ∙ ap (λ t. not b && t) (no_bits bs)

pub small_masked : (xs ys : List ℕ) → length xs ≡ 16 → length ys ≡ 16 → eqb (mask_l (beyond_l 16 xs ys) % 2 ^ 64) 0 ≡ list_all is_small (xs ++ ys)
small_masked xs ys long alike =
    ap (λ m. eqb m 0) (mask_l-mod (beyond_l 16 xs ys) 64 (omega (arith, beyond_long 16 xs ys long alike)))
    ∙ no_bits (beyond_l 16 xs ys) ∙ small_both 16 xs ys long alike ∙ sym (list_all-append is_small xs ys)

not_false : (b : Bool) → not b ≡ true → b ≡ false
not_false true e = absurd cc
not_false false e = refl

some_small : (b : Bool) (v : ℕ) → is_some (cond b None (Some v)) ≡ not b
some_small true v = refl
some_small false v = refl

small_some : (b : Bool) (v : ℕ) → not b ≡ true → cond b None (Some v) ≡ Some v
small_some true v e = absurd cc
small_some false v e = refl

digits_some : (ds : List ℕ) → list_all is_digit ds ≡ list_all (λ o. is_some o) (map digit_value ds)
digits_some [] = refl
digits_some (d ∷ ds) = ap (λ b. is_digit d && b) (digits_some ds)

smalls_some : (vs : List ℕ) → list_all (λ o. is_some o) (map below_sixteen vs) ≡ list_all is_small vs
smalls_some [] = refl
smalls_some (v ∷ vs) = λ i. some_small (leb 16 v) v i && smalls_some vs i

all_small : (vs : List ℕ) → list_all is_small vs ≡ true → map below_sixteen vs ≡ map (λ v. Some v) vs
all_small [] all = refl
all_small (v ∷ vs) all =
    let both = and_parts (is_small v) (list_all is_small vs) all in
    λ i. small_some (leb 16 v) v both.0 i ∷ all_small vs both.1 i

small_below : (v : ℕ) → is_small v ≡ true → v < 16
small_below v e = leb-false 16 v (not_false (leb 16 v) e)

none_is : (o : Option (List ℕ)) → is_some o ≡ false → None ≡ o
none_is None e = refl
none_is (Some octets) e = absurd cc

-- some digits, from the values of two parts
module _ (digits a b first second : List ℕ) (parts : a ++ b ≡ digits) (one : map digit_value a ≡ map below_sixteen first) (other : map digit_value b ≡ map below_sixteen second) where
  both_values : map digit_value digits ≡ map below_sixteen (first ++ second)
  both_values = ap (map digit_value) (sym parts) ∙ map-append digit_value a b ∙ (λ i. one i ++ other i) ∙ sym (map-append below_sixteen first second)

  pub digits_valued : list_all is_small (first ++ second) ≡ true → AreValues (first ++ second) digits
  digits_valued all = both_values ∙ all_small (first ++ second) all

  pub digits_none : length digits % 2 ≡ 0 → list_all is_small (first ++ second) ≡ false → None ≡ octets_written digits
  digits_none even lost =
      none_is (octets_written digits) (all_digits digits even ∙ digits_some digits ∙ ap (list_all (λ o. is_some o)) both_values ∙ smalls_some (first ++ second) ∙ lost)

-- a lane of two rows is below 16 only if both values are
small_from : (x v : ℕ) → x ≤ v → is_small v ≡ true → is_small x ≡ true
small_from x v below e = ap not (lt-leb 16 x (omega (arith, below, small_below v e)))

pub or_small : (xs ys : List ℕ) → length xs ≡ length ys → list_all is_small (zip2 bit_or xs ys) ≡ true → (list_all is_small xs ≡ true) × (list_all is_small ys ≡ true)
or_small [] [] alike e = (refl, refl)
or_small [] (y ∷ ys) alike e = absurd (omega (arith, alike))
or_small (x ∷ xs) [] alike e = absurd (omega (arith, alike))
or_small (x ∷ xs) (y ∷ ys) alike e =
    let here = and_parts (is_small (bit_or x y)) (list_all is_small (zip2 bit_or xs ys)) e in
    let rest = or_small xs ys (omega (arith, alike)) here.1 in (
      (λ i. small_from x (bit_or x y) (le_or_l x y) here.0 i && rest.0 i),
      (λ i. small_from y (bit_or x y) (le_or_r x y) here.0 i && rest.1 i),
    )

pub four_small : (a b c d : List ℕ) → length a ≡ length b → length c ≡ length d → list_all is_small (zip2 bit_or a b ++ zip2 bit_or c d) ≡ true
    → (list_all is_small (a ++ b) ≡ true) × (list_all is_small (c ++ d) ≡ true)
four_small a b c d one other all =
    let both = and_parts _ _ (sym (list_all-append is_small (zip2 bit_or a b) (zip2 bit_or c d)) ∙ all) in
    let front = or_small a b one both.0 in
    let back = or_small c d other both.1 in (
      list_all-append is_small a b ∙ (λ i. front.0 i && front.1 i),
      list_all-append is_small c d ∙ (λ i. back.0 i && back.1 i),
    )

pub sixteen_values : (digits values : List ℕ) (start : ℕ) → start + 16 ≤ length digits → map digit_value (take 16 (drop start digits)) ≡ map below_sixteen values → length values ≡ 16
sixteen_values digits values start within same =
    sym (length-map values below_sixteen) ∙ sym (ap length same) ∙ length-map (take 16 (drop start digits)) digit_value ∙ length-take-le 16 (drop start digits) (omega (arith, length-drop start digits, within))

-- ---- the octets of pairs of values, as a lane has them

abbrev up : ℕ → ℕ → ℕ
up a b = (a * 2 ^ b) % 2 ^ 8

abbrev lane : ℕ → ℕ → ℕ
lane h l = bit_or (up h 4) l

abbrev lanes : List ℕ → List ℕ
lanes [] = []
lanes (h ∷ []) = []
lanes (h ∷ l ∷ vs) = lane h l ∷ lanes vs

lane_is : (h l : ℕ) → h < 16 → l < 16 → h * 16 + l ≡ lane h l
lane_is h l high low = let whole : up h 4 ≡ h * 2 ^ 4 = omega (arith, high) in sym (ap (λ u. bit_or u l) whole ∙ or_shifted h 4 l low)

first_is : (d v : ℕ) (ds vs : List ℕ) → AreValues (v ∷ vs) (d ∷ ds) → (digit_value d ≡ Some v) × AreValues vs ds
first_is d v ds vs same = (cc, cc)

pub written_lanes : (values digits : List ℕ) → AreValues values digits → length digits % 2 ≡ 0 → octets_written digits ≡ Some (lanes values)
written_lanes [] [] same even = refl
written_lanes [] (d ∷ ds) same even = absurd (omega (arith, as_many [] (d ∷ ds) same))
written_lanes (h ∷ vs) [] same even = absurd (omega (arith, as_many (h ∷ vs) [] same))
written_lanes (h ∷ []) (d ∷ []) same even = absurd (omega arith)
written_lanes (h ∷ []) (d ∷ e ∷ ds) same even = absurd (omega (arith, as_many (h ∷ []) (d ∷ e ∷ ds) same))
written_lanes (h ∷ l ∷ vs) (d ∷ []) same even = absurd (omega arith)
written_lanes (h ∷ l ∷ vs) (d ∷ e ∷ ds) same even =
    let one = first_is d h (e ∷ ds) (l ∷ vs) same in
    let two = first_is e l ds vs one.1 in
    octets_written_pair_then d e ds h l one.0 two.0 ∙ ap (behind ((h * 16 + l) ∷ [])) (written_lanes vs ds two.1 (omega (arith, even)))
    ∙ ap (λ o. Some (o ∷ lanes vs)) (lane_is h l (digit_small d h one.0) (digit_small e l two.0))

abbrev evens : List ℕ
evens = 0 ∷ 2 ∷ 4 ∷ 6 ∷ 8 ∷ 10 ∷ 12 ∷ 14 ∷ 16 ∷ 18 ∷ 20 ∷ 22 ∷ 24 ∷ 26 ∷ 28 ∷ 30 ∷ []

abbrev odds : List ℕ
odds = 1 ∷ 3 ∷ 5 ∷ 7 ∷ 9 ∷ 11 ∷ 13 ∷ 15 ∷ 17 ∷ 19 ∷ 21 ∷ 23 ∷ 25 ∷ 27 ∷ 29 ∷ 31 ∷ []

-- the lanes of thirty-two values, at which both sides compute
parted : (values : List ℕ) → length values ≡ 32 → zip2 bit_or (zip2 up (pick_l 0 values evens) (replicate 16 4)) (pick_l 0 values odds) ≡ lanes values
parted values long = subst (λ l. zip2 bit_or (zip2 up (pick_l 0 l evens) (replicate 16 4)) (pick_l 0 l odds) ≡ lanes l) (pick_l_whole 0 values 32 long) refl

pub joined_written : (first second digits : List ℕ) → length first ≡ 16 → length second ≡ 16 → AreValues (first ++ second) digits
    → octets_written digits ≡ Some (zip2 bit_or (zip2 up (pick_l 0 (first ++ second) evens) (replicate 16 4)) (pick_l 0 (first ++ second) odds))
joined_written first second digits la lb valued =
    let long : length (first ++ second) ≡ 32 = omega (arith, length-append first second, la, lb) in
    written_lanes (first ++ second) digits valued (omega (arith, as_many (first ++ second) digits valued, long)) ∙ ap (λ l. Some l) (sym (parted (first ++ second) long))

-- ---- parts of some digits

take_parts : (n m : ℕ) (l : List ℕ) → take n l ++ take m (drop n l) ≡ take (n + m) l
take_parts n m l = (λ i. sym (take-take n (n + m) l (omega arith)) i ++ sym (drop-take n m l) i) ∙ take-append-drop n (take (n + m) l)

module _ (text : List ℕ) (start : ℕ) (within : start + 32 ≤ length text) where
  pub parts_are : take 16 (drop start text) ++ take 16 (drop (start + 16) text) ≡ take 32 (drop start text)
  parts_are = ap (λ l. take 16 (drop start text) ++ take 16 l) (sym (drop-drop 16 start text)) ∙ take_parts 16 16 (drop start text)

  pub part_long : length (take 32 (drop start text)) ≡ 32
  part_long = length-take-le 32 (drop start text) (omega (arith, length-drop start text))

-- ---- sixty digits

half_long : (digits octets : List ℕ) → octets_written digits ≡ Some octets → length digits ≡ 2 * length octets
half_long digits octets e = subst (λ o. IfSome o (λ os. length digits ≡ 2 * length os)) e (written_length digits)

none_behind : (o : Option (List ℕ)) → option_and_then (λ octets. behind octets None) o ≡ None
none_behind None = refl
none_behind (Some octets) = refl

module _ (digits : List ℕ) (long : length digits ≡ 60) where
  front_long : length (take 28 digits) ≡ 2 * 14
  front_long = length-take-le 28 digits (omega (arith, long))

  whole : take 28 digits ++ take 32 (drop 28 digits) ≡ digits
  whole = take_parts 28 32 digits ∙ take_all 60 digits (omega (arith, long))

  both_parts : octets_written digits ≡ option_and_then (λ octets. behind octets (octets_written (take 32 (drop 28 digits)))) (octets_written (take 28 digits))
  both_parts = ap octets_written (sym whole) ∙ written_both (take 28 digits) (take 32 (drop 28 digits)) (omega (arith, front_long))

  pub sixty_read : (first last : List ℕ) → octets_written (take 32 (drop 0 digits)) ≡ Some first → octets_written (take 32 (drop 28 digits)) ≡ Some last → thirty (octets_written digits) ≡ Ok (take 14 first ++ last)
  sixty_read first last one other =
      let begins : take 28 digits ++ take 4 (drop 28 digits) ≡ take 32 digits = take_parts 28 4 digits in
      let front : octets_written (take 28 digits) ≡ Some (take 14 first) = front_written 14 (take 28 digits) (take 4 (drop 28 digits)) first front_long (ap octets_written begins ∙ one) in
      is_thirty digits (take 14 first ++ last) (octets_written digits) (both_parts ∙ (λ i. option_and_then (λ octets. behind octets (other i)) (front i))) long (written_length digits)

  pub first_lost : octets_written (take 32 (drop 0 digits)) ≡ None → thirty (octets_written digits) ≡ Err Hex
  first_lost none =
      let even : length (take 32 digits) % 2 ≡ 0 = omega (arith, length-take-le 32 digits (omega (arith, long))) in
      ap thirty (ap octets_written (sym (take-append-drop 32 digits)) ∙ written_both (take 32 digits) (drop 32 digits) even
      ∙ ap (option_and_then (λ octets. behind octets (octets_written (drop 32 digits)))) none)

  pub last_lost : octets_written (take 32 (drop 28 digits)) ≡ None → thirty (octets_written digits) ≡ Err Hex
  last_lost none = ap thirty (both_parts ∙ (λ i. option_and_then (λ octets. behind octets (none i)) (octets_written (take 28 digits))) ∙ none_behind (octets_written (take 28 digits)))

pub thirty_put : (first last : List ℕ) → length first ≡ 16 → length last ≡ 16
    → put_mid 14 16 (put_chunk 0 (replicate 16 0) first ++ replicate 14 0) (put_chunk 0 (take 16 (drop 14 (put_chunk 0 (replicate 16 0) first ++ replicate 14 0))) last) ≡ take 14 first ++ last
thirty_put first last first_long last_long =
    let begun : List ℕ = put_chunk 0 (replicate 16 0) first ++ replicate 14 0 in
    let is : begun ≡ first ++ replicate 14 0 = ap (λ l. l ++ replicate 14 0) (put_chunk_whole (replicate 16 0) first (sym first_long)) in
    let whole : length begun ≡ 30 = ap length is ∙ omega (arith, length-append first (replicate 14 0), first_long) in
    let part : length (take 16 (drop 14 begun)) ≡ 16 = length-take-le 16 (drop 14 begun) (omega (arith, length-drop 14 begun, whole)) in
    let put_last : put_chunk 0 (take 16 (drop 14 begun)) last ≡ last = put_chunk_whole (take 16 (drop 14 begun)) last (part ∙ sym last_long) in
    let put : put_mid 14 16 begun last ≡ take 14 begun ++ last =
    sym (take_all 30 (put_mid 14 16 begun last) (omega (arith, same_len_mid 14 16 begun last (last_long ∙ sym part), whole))) ∙ take-put_mid 14 16 begun last 30 (omega (arith, last_long)) (omega (arith, whole)) in
    let early : take 14 begun ≡ take 14 first = ap (take 14) is ∙ take-append-le 14 first (replicate 14 0) (omega (arith, first_long)) in
    ap (put_mid 14 16 begun) put_last ∙ put ∙ ap (λ l. l ++ last) early

-- ---- at most thirty-two digits, with zeros behind them

pub whole_part : (text : List ℕ) → length text ≡ 32 → take 32 (drop 0 text) ≡ text
whole_part text long = take_all 32 text (omega (arith, long))

text_long : (digits text : List ℕ) → length digits ≤ 32 → text ≡ widened digits → length text ≡ 32
text_long digits text few wide = ap length wide ∙ omega (arith, few, length-append digits (replicate (32 - length digits) 48), length-replicate {A = ℕ} (32 - length digits) 48)

pub few_lost : (digits text : List ℕ) → length digits ≤ 32 → length digits % 2 ≡ 0 → text ≡ widened digits → None ≡ octets_written (take 32 (drop 0 text)) → ok_or (octets_written digits) Hex ≡ Err Hex
few_lost digits text few even wide none =
    let long = text_long digits text few wide in
    wide_lost digits text even wide (sym (all_digits text (omega (arith, long))) ∙ ap (λ o. is_some o) (ap octets_written (sym (whole_part text long)) ∙ sym none))

pub few_read : (digits text read : List ℕ) → length digits ≤ 32 → length digits % 2 ≡ 0 → text ≡ widened digits → Some read ≡ octets_written (take 32 (drop 0 text)) → octets_written digits ≡ Some (take (length digits / 2) read)
few_read digits text read few even wide some =
    let long = text_long digits text few wide in
    wide_written digits text read even wide (ap octets_written (sym (whole_part text long)) ∙ sym some)

pub sixteen_read : (digits read : List ℕ) → length digits ≡ 32 → Some read ≡ octets_written (take 32 (drop 0 digits)) → octets_written digits ≡ Some read
sixteen_read digits read long some = ap octets_written (sym (whole_part digits long)) ∙ sym some

pub sixteen_lost : (digits : List ℕ) → length digits ≡ 32 → None ≡ octets_written (take 32 (drop 0 digits)) → ok_or (octets_written digits) Hex ≡ Err Hex
sixteen_lost digits long none = ap (λ o. ok_or o Hex) (ap octets_written (sym (whole_part digits long)) ∙ sym none)
