-- The digits of sixteen octets, of which the first ones and the second ones are interleaved.
use Rattle.std.proofs.Common.{◌≡◌, ℕ, ◌+◌, ◌*◌, ◌-◌, ◌/◌, ◌%◌, ◌≤◌, ◌++◌, List, [], ◌∷◌, length, take, drop, get_or, map, refl, sym, ap, subst, ◌∙◌, arith, append_assoc, length-append, length-drop}
use Rattle.std.specs.Simd.Lanes.{pick_l, put_chunk}
use Rattle.std.proofs.lemmas.List.{append-nil, take_all, take-append-drop, take-take, take_at, drop_all, length-take-le}
use Rattle.std.proofs.lemmas.Simd.{pick_l_whole, put_chunk_whole}
use Rattle.std.proofs.lemmas.Slice.{take-put_mid}
use borrow.Rule.Slice.PartMut.{put_mid, mid_of, same_len_mid}
use Rattle.hex.specs.Hex.{encode_with, encode_upper, upper_digits}
use Rattle.hex.proofs.HexLemmas.{length-encode_with}
use Rattle.report_text.proofs.Wide.{encode-append, encode_halves, encode_overlapped}
use Rattle.report_text.proofs.Texts.{after_front, take_behind}

abbrev interleaved : List ℕ
interleaved = 0 ∷ 16 ∷ 1 ∷ 17 ∷ 2 ∷ 18 ∷ 3 ∷ 19 ∷ 4 ∷ 20 ∷ 5 ∷ 21 ∷ 6 ∷ 22 ∷ 7 ∷ 23 ∷ 8 ∷ 24 ∷ 9 ∷ 25 ∷ 10 ∷ 26 ∷ 11 ∷ 27 ∷ 12 ∷ 28 ∷ 13 ∷ 29 ∷ 14 ∷ 30 ∷ 15 ∷ 31 ∷ []

abbrev firsts : List ℕ → List ℕ → List ℕ
firsts t octets = map (λ octet. get_or t (octet / 16) 0) octets

abbrev seconds : List ℕ → List ℕ → List ℕ
seconds t octets = map (λ octet. get_or t (octet % 16) 0) octets

abbrev AreWoven : List ℕ → List ℕ → Type 0
AreWoven t octets = pick_l 0 (firsts t octets ++ seconds t octets) interleaved ≡ encode_with t octets

-- sixteen octets are a list of sixteen, at which both sides compute
woven_at : (t octets : List ℕ) → length octets ≡ 16 → AreWoven t octets
unfolding encode_with
woven_at t octets long = subst (AreWoven t) (pick_l_whole 0 octets 16 long) refl

pub woven : (t octets high low : List ℕ) → length octets ≡ 16 → high ≡ firsts t octets → low ≡ seconds t octets
    → pick_l 0 (high ++ low) interleaved ≡ encode_with t octets
woven t octets high low long one other = (λ i. pick_l 0 (one i ++ other i) interleaved) ∙ woven_at t octets long

-- a part of sixteen octets
abbrev pub lows : List ℕ
lows = 0 ∷ 1 ∷ 2 ∷ 3 ∷ 4 ∷ 5 ∷ 6 ∷ 7 ∷ []

abbrev pub highs : List ℕ
highs = 8 ∷ 9 ∷ 10 ∷ 11 ∷ 12 ∷ 13 ∷ 14 ∷ 15 ∷ []

low_of : (d : List ℕ) → length d ≡ 16 → pick_l 0 (d ++ d) lows ≡ take 8 d
low_of d long = subst (λ (l : List ℕ). pick_l 0 (l ++ l) lows ≡ take 8 l) (pick_l_whole 0 d 16 long) refl

high_of : (d : List ℕ) → length d ≡ 16 → pick_l 0 (d ++ d) highs ≡ drop 8 d
high_of d long = subst (λ (l : List ℕ). pick_l 0 (l ++ l) highs ≡ drop 8 l) (pick_l_whole 0 d 16 long) refl

-- the first octets and the last ones
pub length-ends : (w : ℕ) (octets : List ℕ) → w ≤ length octets → length (take w octets ++ take w (drop (length octets - w) octets)) ≡ w + w
length-ends w octets fits =
    let back : length (drop (length octets - w) octets) ≡ w = omega (arith, length-drop (length octets - w) octets, fits) in
    length-append (take w octets) (take w (drop (length octets - w) octets))
    ∙ (λ i. length-take-le w octets fits i + length-take-le w (drop (length octets - w) octets) (omega (arith, back)) i)

pub ends_of : (w : ℕ) (octets : List ℕ) → w ≤ length octets → take w octets ++ take w (drop (length octets - w) octets) ≡ take w octets ++ drop (length octets - w) octets
ends_of w octets fits = ap (λ l. take w octets ++ l) (take_all w (drop (length octets - w) octets) (omega (arith, length-drop (length octets - w) octets, fits)))

-- octets are written into a text
abbrev pub piece : ℕ → ℕ → List ℕ → List ℕ → List ℕ
piece at k text v = put_mid at k text (put_chunk 0 (mid_of at k text) v)

length-mid : (at k : ℕ) (text : List ℕ) → at + k ≤ length text → length (mid_of at k text) ≡ k
length-mid at k text fits = length-take-le k (drop at text) (omega (arith, length-drop at text, fits))

is_piece : (at k : ℕ) (text v : List ℕ) → at + k ≤ length text → length v ≡ k → piece at k text v ≡ put_mid at k text v
is_piece at k text v fits long = ap (put_mid at k text) (put_chunk_whole (mid_of at k text) v (length-mid at k text fits ∙ sym long))

front_piece : (at k : ℕ) (text v : List ℕ) → at + k ≤ length text → length v ≡ k → take (at + k) (piece at k text v) ≡ take at text ++ v
front_piece at k text v fits long = ap (take (at + k)) (is_piece at k text v fits long) ∙ take-put_mid at k text v (at + k) (omega (arith, long)) (omega (arith, fits))

length-piece : (at k : ℕ) (text v : List ℕ) → at + k ≤ length text → length v ≡ k → length (piece at k text v) ≡ length text
length-piece at k text v fits long = ap length (is_piece at k text v fits long) ∙ same_len_mid at k text v (long ∙ sym (length-mid at k text fits))

-- the second of two pieces begins behind the first one or in it
two_pieces : (n at m k l : ℕ) (text a b : List ℕ) → k ≡ n → l ≡ n → length a ≡ n → length b ≡ n → at ≤ m → m ≤ at + n → m + n ≤ length text
    → take (m + n) (piece m l (piece at k text a) b) ≡ take at text ++ (take (m - at) a ++ b)
two_pieces n at m k l text a b ek el la lb from to fits =
    let one : List ℕ = piece at k text a in
    let wide : at + k ≤ length text = omega (arith, ek, from, fits) in
    let whole : length one ≡ length text = length-piece at k text a wide (la ∙ sym ek) in
    let counted : length (take at text) ≡ at = length-take-le at text (omega (arith, from, fits)) in
    let place : length (take at text) + (m - at) ≡ m = omega (arith, counted, from) in
    let before : take m one ≡ take at text ++ take (m - at) a =
    sym (take-take m (at + k) one (omega (arith, to, ek))) ∙ ap (take m) (front_piece at k text a wide (la ∙ sym ek))
    ∙ ap (λ p. take p (take at text ++ a)) (sym place) ∙ take_behind (take at text) a (m - at) in
    let end : m + n ≡ m + l = omega (arith, el) in
    ap (λ e. take e (piece m l one b)) end ∙ front_piece m l one b (omega (arith, el, whole, fits)) (lb ∙ sym el)
    ∙ ap (λ p. p ++ b) before ∙ append_assoc (take at text) (take (m - at) a) b

-- the digits of sixteen octets
pub sixteen_written : (text octets a b : List ℕ) (at k l : ℕ) → k ≡ 16 → l ≡ 16 → length octets ≡ 16 → at + 32 ≤ length text → length a ≡ 16 → length b ≡ 16
    → a ++ b ≡ encode_upper (take 16 octets) → take (at + 32) (piece (at + 16) l (piece at k text a) b) ≡ take at text ++ encode_upper octets
sixteen_written text octets a b at k l ek el long fits la lb digits =
    let place : at + 32 ≡ at + 16 + 16 = omega arith in
    let wide : at + 16 - at ≡ 16 = omega arith in
    let whole : take (at + 16 - at) a ≡ a = ap (λ n. take n a) wide ∙ take_all 16 a (omega (arith, la)) in
    ap (λ e. take e (piece (at + 16) l (piece at k text a) b)) place
    ∙ two_pieces 16 at (at + 16) k l text a b ek el la lb (omega arith) (omega arith) (omega (arith, fits))
    ∙ ap (λ front. take at text ++ (front ++ b)) whole
    ∙ ap (λ all. take at text ++ all) (digits ∙ ap encode_upper (take_all 16 octets (omega (arith, long))))

-- the digits of the first w octets and of the last w
few_written : (w at k l : ℕ) (text octets a b : List ℕ) → k ≡ 2 * w → l ≡ 2 * w → w ≤ length octets → length octets ≤ 2 * w → at + 2 * length octets ≤ length text
    → length a ≡ 2 * w → length b ≡ 2 * w → a ≡ encode_upper (take w octets) → b ≡ encode_upper (drop (length octets - w) octets)
    → take (at + 2 * length octets) (piece (at + 2 * (length octets - w)) l (piece at k text a) b) ≡ take at text ++ encode_upper octets
few_written w at k l text octets a b ek el least most fits la lb one other =
    let m : ℕ = at + 2 * (length octets - w) in
    let end : at + 2 * length octets ≡ m + 2 * w = omega (arith, least) in
    let skipped : m - at ≡ 2 * (length octets - w) = omega arith in
    ap (λ e. take e (piece m l (piece at k text a) b)) end
    ∙ two_pieces (2 * w) at m k l text a b ek el la lb (omega arith) (omega (arith, least, most)) (omega (arith, least, fits))
    ∙ ap (λ n. take at text ++ (take n a ++ b)) skipped
    ∙ ap (λ all. take at text ++ all) (encode_overlapped w octets a b least most one other)

pub eights_written : (at k l : ℕ) (text octets eights a b : List ℕ) → k ≡ 16 → l ≡ 16 → 8 ≤ length octets → length octets ≤ 16 → at + 2 * length octets ≤ length text
    → length a ≡ 16 → length b ≡ 16 → a ++ b ≡ encode_upper eights → eights ≡ take 8 octets ++ drop (length octets - 8) octets
    → take (at + 2 * length octets) (piece (at + 2 * (length octets - 8)) l (piece at k text a) b) ≡ take at text ++ encode_upper octets
eights_written at k l text octets eights a b ek el least most fits la lb digits ends =
    let eight : length (take 8 octets) ≡ 8 = length-take-le 8 octets least in
    let both = encode_halves a b (take 8 octets) (drop (length octets - 8) octets) (digits ∙ ap encode_upper ends) (omega (arith, la, eight)) in
    few_written 8 at k l text octets a b ek el least most fits la lb both.0 both.1

pub fours_written : (at k l : ℕ) (text octets fours d e : List ℕ) → k ≡ 8 → l ≡ 8 → 4 ≤ length octets → length octets ≤ 8 → at + 2 * length octets ≤ length text
    → length d ≡ 16 → d ++ e ≡ encode_upper fours → take 8 fours ≡ take 4 octets ++ drop (length octets - 4) octets
    → take (at + 2 * length octets) (piece (at + 2 * (length octets - 4)) l (piece at k text (pick_l 0 (d ++ d) lows)) (pick_l 0 (d ++ d) highs)) ≡ take at text ++ encode_upper octets
fours_written at k l text octets fours d e ek el least most fits ld digits ends =
    let four : length (take 4 octets) ≡ 4 = length-take-le 4 octets least in
    let back : length (drop (length octets - 4) octets) ≡ 4 = omega (arith, length-drop (length octets - 4) octets, least) in
    let eight : length (take 8 fours) ≡ 8 = ap length ends ∙ length-append (take 4 octets) (drop (length octets - 4) octets) ∙ (λ i. four i + back i) in
    let first = encode_halves d e (take 8 fours) (drop 8 fours) (digits ∙ ap encode_upper (sym (take-append-drop 8 fours))) (omega (arith, ld, eight)) in
    let low : length (take 8 d) ≡ 8 = length-take-le 8 d (omega (arith, ld)) in
    let both = encode_halves (take 8 d) (drop 8 d) (take 4 octets) (drop (length octets - 4) octets) (take-append-drop 8 d ∙ first.0 ∙ ap encode_upper ends) (omega (arith, low, four)) in
    let a = low_of d ld in
    let b = high_of d ld in
    few_written 4 at k l text octets (pick_l 0 (d ++ d) lows) (pick_l 0 (d ++ d) highs) ek el least most fits refl refl (a ∙ both.0) (b ∙ both.1)

-- the digits of a row, of which the first sixteen octets and the last ones are written
pub row_written : (text one two row : List ℕ) → length text ≡ 64 → length two ≡ 64 → length row ≡ 30 → take 36 one ≡ take 4 text ++ encode_upper (take 16 row)
    → take 64 two ≡ take 32 one ++ encode_upper (take 16 (drop 14 row)) → drop 4 two ≡ encode_upper row
row_written text one two row long whole thirty first second =
    let four : length (take 4 text) ≡ 4 = length-take-le 4 text (omega (arith, long)) in
    let place : length (take 4 text) + 28 ≡ 32 = omega (arith, four) in
    let fourteen : length row - 16 ≡ 14 = omega (arith, thirty) in
    let last : take 16 (drop 14 row) ≡ drop 14 row = take_all 16 (drop 14 row) (omega (arith, length-drop 14 row, thirty)) in
    let before : take 32 one ≡ take 4 text ++ take 28 (encode_upper (take 16 row)) =
    sym (take-take 32 36 one (omega arith)) ∙ ap (take 32) first ∙ ap (λ p. take p (take 4 text ++ encode_upper (take 16 row))) (sym place) ∙ take_behind (take 4 text) (encode_upper (take 16 row)) 28 in
    let joined : take 28 (encode_upper (take 16 row)) ++ encode_upper (drop 14 row) ≡ encode_upper row =
    ap (λ n. take (2 * n) (encode_upper (take 16 row)) ++ encode_upper (drop n row)) (sym fourteen)
    ∙ encode_overlapped 16 row (encode_upper (take 16 row)) (encode_upper (drop (length row - 16) row)) (omega (arith, thirty)) (omega (arith, thirty)) refl refl in
    let written : take 64 two ≡ take 4 text ++ encode_upper row =
    second ∙ ap (λ l. take 32 one ++ encode_upper l) last ∙ ap (λ p. p ++ encode_upper (drop 14 row)) before ∙ append_assoc (take 4 text) (take 28 (encode_upper (take 16 row))) (encode_upper (drop 14 row)) ∙ ap (λ l. take 4 text ++ l) joined in
    after_front two (take 4 text) (encode_upper row) 4 64 written four ∙ ap (λ l. encode_upper row ++ l) (drop_all 64 two (omega (arith, whole))) ∙ append-nil (encode_upper row)

-- the digits of 32 octets
pub wide_written : (text one two row : List ℕ) → length text ≡ 86 → length two ≡ 86 → length row ≡ 32 → take 54 one ≡ take 22 text ++ encode_upper (take 16 row)
    → take 86 two ≡ take 54 one ++ encode_upper (take 16 (drop 16 row)) → drop 22 two ≡ encode_upper row
wide_written text one two row long whole wide first second =
    let last : take 16 (drop 16 row) ≡ drop 16 row = take_all 16 (drop 16 row) (omega (arith, length-drop 16 row, wide)) in
    let room : length (take 22 text) ≡ 22 = length-take-le 22 text (omega (arith, long)) in
    let joined : encode_upper (take 16 row) ++ encode_upper (drop 16 row) ≡ encode_upper row =
    sym (encode-append upper_digits (take 16 row) (drop 16 row)) ∙ ap encode_upper (take-append-drop 16 row) in
    let written : take 86 two ≡ take 22 text ++ encode_upper row =
    second ∙ ap (λ l. take 54 one ++ encode_upper l) last ∙ ap (λ p. p ++ encode_upper (drop 16 row)) first ∙ append_assoc (take 22 text) (encode_upper (take 16 row)) (encode_upper (drop 16 row)) ∙ ap (λ l. take 22 text ++ l) joined in
    after_front two (take 22 text) (encode_upper row) 22 86 written room ∙ ap (λ l. encode_upper row ++ l) (drop_all 86 two (omega (arith, whole))) ∙ append-nil (encode_upper row)

-- the digits of sixteen to 32 octets
pub long_written : (text one two octets : List ℕ) → length text ≡ 86 → 16 ≤ length octets → length octets ≤ 32 → take 54 one ≡ take 22 text ++ encode_upper (take 16 octets)
    → take (22 + 2 * (length octets - 16) + 32) two ≡ take (22 + 2 * (length octets - 16)) one ++ encode_upper (drop (length octets - 16) octets)
    → take (2 * length octets) (drop 22 two) ≡ encode_upper octets
long_written text one two octets long least most first second =
    let j : ℕ = 2 * (length octets - 16) in
    let m : ℕ = 22 + j in
    let front : List ℕ = encode_upper (take 16 octets) in
    let back : List ℕ = encode_upper (drop (length octets - 16) octets) in
    let room : length (take 22 text) ≡ 22 = length-take-le 22 text (omega (arith, long)) in
    let place : length (take 22 text) + j ≡ m = omega (arith, room) in
    let before : take m one ≡ take 22 text ++ take j front =
    sym (take-take m 54 one (omega (arith, most))) ∙ ap (take m) first ∙ ap (λ p. take p (take 22 text ++ front)) (sym place) ∙ take_behind (take 22 text) front j in
    let joined : take j front ++ back ≡ encode_upper octets = encode_overlapped 16 octets front back least most refl refl in
    let written : take (m + 32) two ≡ take 22 text ++ encode_upper octets =
    second ∙ ap (λ p. p ++ back) before ∙ append_assoc (take 22 text) (take j front) back ∙ ap (λ l. take 22 text ++ l) joined in
    ap (take (2 * length octets)) (after_front two (take 22 text) (encode_upper octets) 22 (m + 32) written room)
    ∙ take_at (encode_upper octets) (drop (m + 32) two) (2 * length octets) (length-encode_with upper_digits octets)
