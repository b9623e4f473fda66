-- Rows with idle octets behind the octets of a line or a message.
use Rattle.std.proofs.Common.{◌≡◌, ℕ, ◌*◌, ◌-◌, ◌≤◌, List, [], ◌∷◌, ◌++◌, length, take, drop, refl, ap, sym, ◌∙◌, arith}
use Rattle.std.proofs.lemmas.List.{take-append-le, take-append-drop, take-take, take_all, take_at, drop_at, length-take-le}
use Rattle.hex.specs.Hex.{encode_with, encode_upper, upper_digits}
use Rattle.hex.proofs.HexLemmas.{length-encode_with}

pub encode-append : (t xs ys : List ℕ) → encode_with t (xs ++ ys) ≡ encode_with t xs ++ encode_with t ys
unfolding encode_with
encode-append t [] ys = refl
encode-append t (x ∷ xs) ys = rw (encode-append t xs ys) refl

-- the digits of octets come before the digits of more octets
pub encode_front : (t xs ys : List ℕ) → take (2 * length xs) (encode_with t (xs ++ ys)) ≡ encode_with t xs
encode_front t xs ys =
    let len = length-encode_with t xs in
    ap (λ ds. take (2 * length xs) ds) (encode-append t xs ys)
    ∙ take-append-le (2 * length xs) (encode_with t xs) (encode_with t ys) (omega (arith, len))
    ∙ take_all (2 * length xs) (encode_with t xs) (omega (arith, len))

-- the digits of the octets that count in a row
pub wide_digits : (octets more row : List ℕ) → row ≡ octets ++ more → take (2 * length octets) (encode_upper row) ≡ encode_upper octets
wide_digits octets more row wide = ap (λ r. take (2 * length octets) (encode_upper r)) wide ∙ encode_front upper_digits octets more

-- the digits of two parts
pub encode_halves : (a b x y : List ℕ) → a ++ b ≡ encode_upper (x ++ y) → length a ≡ 2 * length x → (a ≡ encode_upper x) × (b ≡ encode_upper y)
encode_halves a b x y both long =
    let parts : a ++ b ≡ encode_upper x ++ encode_upper y = both ∙ encode-append upper_digits x y in
    let size : length (encode_upper x) ≡ length a = length-encode_with upper_digits x ∙ sym long in (
      sym (take_at a b (length a) refl) ∙ ap (take (length a)) parts ∙ take_at (encode_upper x) (encode_upper y) (length a) size,
      sym (drop_at a b (length a) refl) ∙ ap (drop (length a)) parts ∙ drop_at (encode_upper x) (encode_upper y) (length a) size,
    )

-- the digits of the first k octets and of the last k, of which some are the same
pub encode_overlapped : (k : ℕ) (octets a b : List ℕ) → k ≤ length octets → length octets ≤ 2 * k → a ≡ encode_upper (take k octets)
    → b ≡ encode_upper (drop (length octets - k) octets) → take (2 * (length octets - k)) a ++ b ≡ encode_upper octets
encode_overlapped k octets a b least most one other =
    let j : ℕ = length octets - k in
    let x : List ℕ = take j (take k octets) in
    let y : List ℕ = drop j (take k octets) in
    let whole : length (take k octets) ≡ k = length-take-le k octets least in
    let short : length x ≡ j = length-take-le j (take k octets) (omega (arith, whole, most)) in
    let same : x ≡ take j octets = take-take j k octets (omega (arith, most)) in
    let front : take (2 * j) a ≡ encode_upper x =
    ap (take (2 * j)) (one ∙ ap encode_upper (sym (take-append-drop j (take k octets)))) ∙ ap (λ n. take (2 * n) (encode_upper (x ++ y))) (sym short) ∙ encode_front upper_digits x y in
    (λ i. (front ∙ ap encode_upper same) i ++ other i) ∙ sym (encode-append upper_digits (take j octets) (drop j octets)) ∙ ap encode_upper (take-append-drop j octets)
