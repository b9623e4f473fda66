-- The sum of the values of a list: over two lists, over one place more, and over all places but one.
use Rattle.std.proofs.Common.{◌≡◌, ℕ, suc, ◌+◌, ◌<◌, List, [], ◌∷◌, ◌++◌, length, take, drop, get_or, map, slice_set, sum_by, Option, Some, None, ℤ, pos, negsuc, ◌+ℤ◌, ◌-ℤ◌, refl, sym, ap, ◌∙◌, arith}
use Rattle.std.proofs.lemmas.Int.{ints}
use Rattle.std.proofs.lemmas.List.{take_more, take_more_set, take-append-drop, map-append}
use Rattle.std.proofs.lemmas.List.Elements.{filter_map-append}
use Rattle.std.proofs.lemmas.List.Sums.{sum_by-cons}
use Rattle.std.proofs.lemmas.List.Sorted.{sum_by-IsPermutation}
use Rattle.std.specs.List.Sorted.{IsPermutation}
use Rattle.std.proofs.Math.Seq.{drop-cons}
use Rattle.std.proofs.Math.ListN.{get_or-map}
use Rattle.circuit_model.specs.ALaw.{decision_values, expand, compress}
use Rattle.circuit_model.specs.FrameInput.{idle_octet}
use Rattle.circuit_model.specs.Hears.{sum_of_values}
use Rattle.alaw_codec.proofs.Tables.{compress_round_trip}
use Rattle.conference_mix.specs.Bridge.{present_octets, others, value_of, mixed_for}

plus_zero : (x : ℤ) → x ≡ pos 0 +ℤ x
plus_zero x = omega (arith, ints)

plus_zero_right : (x : ℤ) → x ≡ x +ℤ pos 0
plus_zero_right x = omega (arith, ints)

associates : (x y z : ℤ) → x +ℤ (y +ℤ z) ≡ (x +ℤ y) +ℤ z
associates x y z = omega (arith, ints)

pub sum_of_values-append : (xs ys : List ℕ) → sum_of_values (xs ++ ys) ≡ sum_of_values xs +ℤ sum_of_values ys
sum_of_values-append [] ys = plus_zero _
sum_of_values-append (x ∷ xs) ys = ap (λ (z : ℤ). expand x +ℤ z) (sum_of_values-append xs ys) ∙ associates (expand x) (sum_of_values xs) (sum_of_values ys)

-- what one place adds
sum_of_values-present : (member : Option ℕ) → sum_of_values (present_octets (member ∷ [])) ≡ value_of member
sum_of_values-present (Some octet) = omega (arith, ints)
sum_of_values-present None = refl

abbrev pub sum_of : List (Option ℕ) → ℤ
sum_of members = sum_of_values (present_octets members)

pub sum_of-append : (ms ns : List (Option ℕ)) → sum_of (ms ++ ns) ≡ sum_of ms +ℤ sum_of ns
sum_of-append ms ns = ap sum_of_values (filter_map-append (λ (octet : Option ℕ). octet) ms ns) ∙ sum_of_values-append (present_octets ms) (present_octets ns)

pub sum_of-cons : (m : Option ℕ) (ms : List (Option ℕ)) → sum_of (m ∷ ms) ≡ value_of m +ℤ sum_of ms
sum_of-cons m ms = sum_of-append (m ∷ []) ms ∙ ap (λ (z : ℤ). z +ℤ sum_of ms) (sum_of_values-present m)

pub sum_of-more : (ms : List (Option ℕ)) (i : ℕ) (d : Option ℕ) → i < length ms → sum_of (take (i + 1) ms) ≡ sum_of (take i ms) +ℤ value_of (get_or ms i d)
sum_of-more ms i d h =
    ap sum_of (take_more ms i d h)
    ∙ sum_of-append (take i ms) (get_or ms i d ∷ [])
    ∙ ap (λ (z : ℤ). sum_of (take i ms) +ℤ z) (sum_of_values-present (get_or ms i d))

taken_out : (x y z : ℤ) → (x +ℤ (y +ℤ z)) -ℤ y ≡ x +ℤ z
taken_out x y z = omega (arith, ints)

-- the total without a place's own value is the sum over the other places
pub sum_of_values-others : (ms : List (Option ℕ)) (k : ℕ) (d : Option ℕ) → k < length ms → sum_of ms -ℤ value_of (get_or ms k d) ≡ sum_of_values (others k ms)
sum_of_values-others ms k d h =
    let before = sum_of (take k ms) in
    let own = value_of (get_or ms k d) in
    let after = sum_of (drop (suc k) ms) in
    let whole : sum_of ms ≡ before +ℤ (own +ℤ after) =
    ap sum_of (sym (take-append-drop k ms))
    ∙ sum_of-append (take k ms) (drop k ms)
    ∙ ap (λ (rest : List (Option ℕ)). before +ℤ sum_of rest) (drop-cons ms k d h)
    ∙ ap (λ (z : ℤ). before +ℤ z) (sum_of-cons (get_or ms k d) (drop (suc k) ms)) in
    ap (λ (z : ℤ). z -ℤ own) whole ∙ taken_out before own after ∙ sym (sum_of-append (take k ms) (drop (suc k) ms))

-- the same where the total and each place's value are at hand
pub sum_of_values-left : (ms : List (Option ℕ)) (values : List ℤ) (total : ℤ) (k : ℕ) → k < length ms → values ≡ map value_of ms → total ≡ sum_of ms → total -ℤ get_or values k (pos 0) ≡ sum_of_values (others k ms)
sum_of_values-left ms values total k h each whole =
    ap (λ (z : ℤ). z -ℤ get_or values k (pos 0)) whole
    ∙ ap (λ (vs : List ℤ). sum_of ms -ℤ get_or vs k (pos 0)) each
    ∙ ap (λ (z : ℤ). sum_of ms -ℤ z) (get_or-map value_of ms k None)
    ∙ sum_of_values-others ms k None h

-- a loop that writes f x for each x
pub wrote_more : (f : Option ℕ → ℤ) (xs : List (Option ℕ)) (ys : List ℤ) (k : ℕ) (y : ℤ) (d : Option ℕ) → k < length xs → k < length ys → take k ys ≡ map f (take k xs) → y ≡ f (get_or xs k d) → take (k + 1) (slice_set ys k y) ≡ map f (take (k + 1) xs)
wrote_more f xs ys k y d in_xs in_ys so_far is =
    take_more_set ys k y in_ys
    ∙ ap (λ (zs : List ℤ). zs ++ y ∷ []) so_far
    ∙ ap (λ (z : ℤ). map f (take k xs) ++ z ∷ []) is
    ∙ sym (ap (λ (zs : List (Option ℕ)). map f zs) (take_more xs k d in_xs) ∙ map-append f (take k xs) (get_or xs k d ∷ []))

-- ---- the order of the octets does not matter

above_zero : ℤ → ℕ
above_zero (pos n) = n
above_zero (negsuc n) = 0

below_zero : ℤ → ℕ
below_zero (pos n) = 0
below_zero (negsuc n) = suc n

parts : (z : ℤ) → z ≡ pos (above_zero z) -ℤ pos (below_zero z)
unfolding above_zero below_zero
parts (pos n) = omega (arith, ints)
parts (negsuc n) = omega (arith, ints)

abbrev sum_above : List ℕ → ℕ
sum_above xs = sum_by (λ octet. above_zero (expand octet)) xs

abbrev sum_below : List ℕ → ℕ
sum_below xs = sum_by (λ octet. below_zero (expand octet)) xs

join_parts : (z w : ℤ) (a b c d : ℕ) → z ≡ pos a -ℤ pos b → w ≡ pos c -ℤ pos d → z +ℤ w ≡ pos (a + c) -ℤ pos (b + d)
join_parts z w a b c d e f = omega (arith, ints)

sum_parts : (xs : List ℕ) → sum_of_values xs ≡ pos (sum_above xs) -ℤ pos (sum_below xs)
sum_parts [] = refl
sum_parts (x ∷ xs) =
    join_parts (expand x) (sum_of_values xs) (above_zero (expand x)) (below_zero (expand x)) (sum_above xs) (sum_below xs) (parts (expand x)) (sum_parts xs)
    ∙ ap (λ (n : ℕ). pos n -ℤ pos (below_zero (expand x) + sum_below xs)) (sym (sum_by-cons (λ octet. above_zero (expand octet)) x xs))
    ∙ ap (λ (n : ℕ). pos (sum_above (x ∷ xs)) -ℤ pos n) (sym (sum_by-cons (λ octet. below_zero (expand octet)) x xs))

pub sum_of_values-permutation : (xs ys : List ℕ) → IsPermutation xs ys → sum_of_values xs ≡ sum_of_values ys
sum_of_values-permutation xs ys same =
    let above : sum_above ys ≡ sum_above xs = sum_by-IsPermutation (λ octet. above_zero (expand octet)) xs ys same in
    let below : sum_below ys ≡ sum_below xs = sum_by-IsPermutation (λ octet. below_zero (expand octet)) xs ys same in
    sum_parts xs
    ∙ ap (λ (n : ℕ). pos n -ℤ pos (sum_below xs)) (sym above)
    ∙ ap (λ (n : ℕ). pos (sum_above ys) -ℤ pos n) (sym below)
    ∙ sym (sum_parts ys)

-- ---- rooms of one and of two

-- no other: the sum is 0
pub mixed_alone : (ms : List (Option ℕ)) (k : ℕ) → others k ms ≡ [] → mixed_for k ms ≡ idle_octet
unfolding decision_values
mixed_alone ms k none = ap (λ (octets : List ℕ). compress (sum_of_values octets)) none

-- one other: its octet comes back as it was sent
pub mixed_pair : (ms : List (Option ℕ)) (k octet : ℕ) → octet < 256 → others k ms ≡ octet ∷ [] → mixed_for k ms ≡ octet
mixed_pair ms k octet h one =
    ap (λ (octets : List ℕ). compress (sum_of_values octets)) one
    ∙ ap compress (sym (plus_zero_right (expand octet)))
    ∙ compress_round_trip octet h
