-- Texts that are written from their end, and octets written behind others.
use Rattle.std.proofs.Common.{◌≡◌, ℕ, suc, ◌+◌, ◌-◌, ◌≤◌, List, [], ◌∷◌, ◌++◌, length, take, drop, set, refl, ap, sym, ◌∙◌, arith, append_assoc, length-append, length-drop}
use Rattle.std.proofs.lemmas.List.{append-nil, take_rest, take-append-drop, take-take, take_at, drop_at, drop-set, length-take-le}
use Rattle.hex.specs.Hex.{encode_upper, encode_with, upper_digits}
use Rattle.report_text.proofs.Wide.{encode-append}

-- the colon behind the number of a line, and the space before it
pub drop-set_line_before : (text buf digits : List ℕ) (at end : ℕ) → 1 ≤ at → at ≤ length buf → 1 ≤ end → end ≤ length text → drop at buf ≡ digits ++ drop (end - 1) (set text (end - 1) 58)
    → drop (at - 1) (set buf (at - 1) 32) ≡ 32 ∷ (digits ++ 58 ∷ [] ++ drop end text)
drop-set_line_before text buf digits at end one within some room written =
    let place : at - 1 + 1 ≡ at = omega arith in
    let behind : end - 1 + 1 ≡ end = omega arith in
    drop-set buf (at - 1) 32 (omega arith) ∙ ap (λ n. 32 ∷ drop n buf) place
    ∙ ap (λ (l : List ℕ). 32 ∷ l) (written ∙ ap (λ (l : List ℕ). digits ++ l) (drop-set text (end - 1) 58 (omega arith) ∙ ap (λ n. 58 ∷ drop n text) behind) ∙ sym (append_assoc digits (58 ∷ []) (drop end text)))

-- a line that ends with two numbers, from its end on
pub numbers_line : (out event word a b d1 d2 d3 d4 d5 : List ℕ) → d1 ≡ b ++ 10 ∷ [] → d2 ≡ 32 ∷ d1 → d3 ≡ a ++ d2 → d4 ≡ word ++ d3 → d5 ≡ event ++ d4
    → out ++ d5 ≡ out ++ event ++ word ++ a ++ 32 ∷ [] ++ b ++ 10 ∷ []
numbers_line out event word a b d1 d2 d3 d4 d5 e1 e2 e3 e4 e5 = rw (e5, e4, e3, e2, e1) (simp append_assoc refl)

-- a text from a place on, where its length is known
pub tail_from : (n start : ℕ) (text : List ℕ) → length text ≡ n → take (n - start) (drop start text) ≡ drop start text
tail_from n start text long = rw (← long) (take_rest text start)

pub take_behind : (p few : List ℕ) (n : ℕ) → take (length p + n) (p ++ few) ≡ p ++ take n few
take_behind [] few n = ap (λ k. take k few) (let e : 0 + n ≡ n = omega arith in e)
take_behind (x ∷ p) few n = let e : suc (length p) + n ≡ suc (length p + n) = omega arith in rw e (ap (λ (l : List ℕ). x ∷ l) (take_behind p few n))

-- the digits that count behind the number of a line
pub first_digits : (text p few digits : List ℕ) (start n : ℕ) → length text ≡ 86 → start ≤ 22 → length few ≡ 64 → drop start text ≡ p ++ few → take n few ≡ digits
    → take (22 + n - start) (drop start text) ≡ p ++ digits
first_digits text p few digits start n long within whole written front =
    let counted : length p + 64 ≡ 86 - start = omega (arith, sym (ap length written), length-append p few, length-drop start text, long, whole) in
    let place : 22 + n - start ≡ length p + n = omega (arith, counted) in
    rw (written, place, take_behind p few n, front) refl

-- some octets more are written
pub octets_more : (out now rest all : List ℕ) (n : ℕ) → now ≡ out ++ encode_upper (take n rest) → out ++ encode_upper rest ≡ all
    → now ++ encode_upper (drop n rest) ≡ all
octets_more out now rest all n pushed so_far =
    ap (λ l. l ++ encode_upper (drop n rest)) pushed ∙ append_assoc out (encode_upper (take n rest)) (encode_upper (drop n rest))
    ∙ ap (λ l. out ++ l) (sym (encode-append upper_digits (take n rest) (drop n rest)) ∙ ap encode_upper (take-append-drop n rest)) ∙ so_far

-- no octets are left
pub octets_done : (out rest all : List ℕ) → length rest ≡ 0 → out ++ encode_upper rest ≡ all → out ≡ all
unfolding encode_with
octets_done out [] all none so_far = sym (append-nil out) ∙ so_far
octets_done out (x ∷ rest) all none so_far = absurd (omega arith)

-- the first octets and the others are all
pub parts_joined : (out p octets : List ℕ) (n : ℕ) → out ++ 32 ∷ (p ++ encode_upper (take n octets)) ++ encode_upper (drop n octets) ≡ out ++ 32 ∷ (p ++ encode_upper octets)
parts_joined out p octets n =
    append_assoc out (32 ∷ (p ++ encode_upper (take n octets))) (encode_upper (drop n octets))
    ∙ ap (λ l. out ++ 32 ∷ l) (append_assoc p (encode_upper (take n octets)) (encode_upper (drop n octets))
    ∙ ap (λ l. p ++ l) (sym (encode-append upper_digits (take n octets) (drop n octets)) ∙ ap encode_upper (take-append-drop n octets)))

-- the octets after a prefix of a text
pub after_front : (text front digits : List ℕ) (at n : ℕ) → take n text ≡ front ++ digits → length front ≡ at → drop at text ≡ digits ++ drop n text
after_front text front digits at n written long =
    ap (drop at) (sym (take-append-drop n text) ∙ ap (λ l. l ++ drop n text) written ∙ append_assoc front digits (drop n text)) ∙ drop_at front (digits ++ drop n text) at long

-- the octets that were written before a place
pub written_before : (text p rest : List ℕ) (start end : ℕ) → drop start text ≡ p ++ rest → length rest + end ≡ length text → start ≤ end → take (end - start) (drop start text) ≡ p
written_before text p rest start end written behind within =
    let counted : length p ≡ end - start = omega (arith, sym (ap length written), length-append p rest, length-drop start text, behind, within) in
    ap (take (end - start)) written ∙ take_at p rest (end - start) counted

-- the same, where a longer part of the text was cut out first
pub cut_before : (text p rest : List ℕ) (start end k : ℕ) → drop start text ≡ p ++ rest → length rest + end ≡ length text → start ≤ end → end ≤ start + k
    → take (end - start) (take k (drop start text)) ≡ p
cut_before text p rest start end k written behind within cut =
    take-take (end - start) k (drop start text) (omega arith) ∙ written_before text p rest start end written behind within

-- a word, the number of a line, and digits from a place on
pub near_line : (t0 t1 t2 t3 word line digits : List ℕ) (size at s start n k : ℕ) → length t0 ≡ size → length t1 ≡ size → length t3 ≡ size → take (at + n) t1 ≡ take at t0 ++ digits → at + n ≤ size
    → drop s t2 ≡ 32 ∷ (line ++ 58 ∷ [] ++ drop at t1) → drop start t3 ≡ word ++ drop s t2 → start ≤ at → at + n ≤ start + k
    → take (at + n - start) (take k (drop start t3)) ≡ word ++ 32 ∷ (line ++ 58 ∷ [] ++ digits)
near_line t0 t1 t2 t3 word line digits size at s start n k l0 l1 l3 written few numbered worded within cut =
    let before : length (take at t0) ≡ at = length-take-le at t0 (omega (arith, l0, few)) in
    let rest : List ℕ = drop (at + n) t1 in
    let behind : drop at t1 ≡ digits ++ rest = after_front t1 (take at t0) digits at (at + n) written before in
    let all : drop start t3 ≡ (word ++ 32 ∷ (line ++ 58 ∷ [] ++ digits)) ++ rest = rw (worded, numbered, behind) (simp append_assoc refl) in
    cut_before t3 (word ++ 32 ∷ (line ++ 58 ∷ [] ++ digits)) rest start (at + n) k all (omega (arith, length-drop (at + n) t1, l1, l3, few)) (omega (arith, within)) (omega (arith, cut))

-- a number and a word before the number of a line
pub worded_line : (number word d1 d2 d3 : List ℕ) → d2 ≡ word ++ d1 → d3 ≡ number ++ d2 → d3 ≡ (number ++ word) ++ d1
worded_line number word d1 d2 d3 e1 e2 = rw (e2, e1) (simp append_assoc refl)

-- a number, a word and a number
pub pair_line : (number word other rest d1 d2 d3 : List ℕ) → d1 ≡ other ++ rest → d2 ≡ word ++ d1 → d3 ≡ number ++ d2 → d3 ≡ (number ++ word ++ other) ++ rest
pair_line number word other rest d1 d2 d3 e1 e2 e3 = rw (e3, e2, e1) (simp append_assoc refl)

-- the number of a line of one digit and its octets
pub later_line : (text line digits few : List ℕ) (start : ℕ) → start ≡ 1 → drop start text ≡ 32 ∷ (line ++ 58 ∷ [] ++ few) → few ≡ digits → drop 1 text ≡ 32 ∷ (line ++ 58 ∷ [] ++ digits)
later_line text line digits few start one written same = ap (λ n. drop n text) (sym one) ∙ written ∙ ap (λ l. 32 ∷ (line ++ 58 ∷ [] ++ l)) same

-- texts that are appended
pub out_pair : (out number word other : List ℕ) → out ++ (number ++ word ++ other) ≡ out ++ number ++ word ++ other
out_pair out number word other = simp append_assoc refl

pub out_near : (out word rest : List ℕ) → out ++ (word ++ rest) ≡ out ++ word ++ rest
out_near out word rest = sym (append_assoc out word rest)

pub out_opening : (out number word rest : List ℕ) → out ++ ((number ++ word) ++ rest) ≡ out ++ number ++ word ++ rest
out_opening out number word rest = simp append_assoc refl

-- a number, a word and two numbers
pub moving_line : (number word a b rest d1 d2 d3 d4 d5 : List ℕ) → d1 ≡ b ++ rest → d2 ≡ 32 ∷ d1 → d3 ≡ a ++ d2 → d4 ≡ word ++ d3 → d5 ≡ number ++ d4
    → d5 ≡ (number ++ word ++ a ++ 32 ∷ b) ++ rest
moving_line number word a b rest d1 d2 d3 d4 d5 e1 e2 e3 e4 e5 = rw (e5, e4, e3, e2, e1) (simp append_assoc refl)

pub out_moving : (out number word a b : List ℕ) → out ++ (number ++ word ++ a ++ 32 ∷ b) ≡ out ++ number ++ word ++ a ++ 32 ∷ [] ++ b
out_moving out number word a b = simp append_assoc refl
