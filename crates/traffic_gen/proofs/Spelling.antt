-- Lines that fit are spelled in printable octets, and shortly.
use Rattle.std.proofs.Common.{◌≡◌, ℕ, ◌+◌, ◌/◌, ◌%◌, ◌^◌, ◌<◌, ◌≤◌, Bool, true, false, cond, ltb, List, [], ◌∷◌, ◌++◌, length, length-append, slice_index, refl, ◌∙◌, arith}
use Rattle.std.specs.Prelude.{codes, decimal}
use Rattle.std.specs.List.{flat_map, list_all}
use Rattle.std.proofs.lemmas.Bool.{agree_below_at, and_parts, ltb-true}
use Rattle.std.proofs.lemmas.Bool.Decides.{nat_tests}
use Rattle.std.proofs.lemmas.Fmt.{decimal_by_steps, decimal_digit, length-decimal-le}
use Rattle.std.proofs.lemmas.List.Folds.{list_all-append}
use Rattle.std.proofs.lemmas.Nat.{mod_below}
use Rattle.hex.proofs.HexLemmas.{length-encode_with}
use Rattle.hex.specs.Hex.{encode_upper, encode_with, upper_digits}
use Rattle.traffic_gen.specs.Fitting.{Fits, FitsPart, FitsParts, is_digit, is_octet, is_printable}
use Rattle.traffic_gen.specs.Lines.{Line, Part, Header, ToLine, ToRoom, Nail, Message, Frame, Sync, channel_at, line_text, part_text, slot_text}

-- ---- what each octet of a text has

pub both_have : (p : ℕ → Bool) (xs ys : List ℕ) → list_all p xs ≡ true → list_all p ys ≡ true → list_all p (xs ++ ys) ≡ true
both_have p xs ys left right = list_all-append p xs ys ∙ rw (left, right) refl

pub decimal_has : (p : ℕ → Bool) → ((n : ℕ) → n < 10 → p (48 + n) ≡ true) → (n : ℕ) → n < 2 ^ 64 → list_all p (decimal n) ≡ true
decimal_has p digit n fits = decimal_by_steps (λ n text. list_all p text ≡ true)
    (λ n small. let has = digit n small in rw has refl)
    (λ n text big front. both_have p text ((48 + n % 10) ∷ []) front (let has = digit (n % 10) (mod_below n 10 (omega arith)) in rw has refl))
    n fits

pub number_has : (p : ℕ → Bool) → ((digit : ℕ) → is_digit digit ≡ true → p digit ≡ true) → (number : List ℕ) → list_all is_digit number ≡ true → list_all p number ≡ true
number_has p digit_has [] each = refl
number_has p digit_has (digit ∷ number) each =
    let parts = and_parts (is_digit digit) (list_all is_digit number) each in
    let first = digit_has digit parts.0 in
    let rest = number_has p digit_has number parts.1 in
    rw (first, rest) refl

-- hexadecimal digits
pub octets_have : (p : ℕ → Bool) → ((value : ℕ) → value < 16 → p (slice_index upper_digits value) ≡ true) → (octets : List ℕ) → list_all is_octet octets ≡ true → list_all p (encode_upper octets) ≡ true
unfolding encode_with
octets_have p glyph_has [] each = refl
octets_have p glyph_has (octet ∷ octets) each =
    let parts = and_parts (is_octet octet) (list_all is_octet octets) each in
    let below : octet < 256 = ltb-true octet 256 parts.0 in
    let high = glyph_has (octet / 16) (omega arith) in
    let low = glyph_has (octet % 16) (omega arith) in
    let rest = octets_have p glyph_has octets parts.1 in
    rw (high, low, rest) refl

-- ---- printable octets

abbrev IsPrintable : List ℕ → Type 0
IsPrintable text = list_all is_printable text ≡ true

both : (xs ys : List ℕ) → IsPrintable xs → IsPrintable ys → IsPrintable (xs ++ ys)
both = both_have is_printable

digit_prints : (n : ℕ) → n < 10 → is_printable (48 + n) ≡ true
digit_prints n small = grind (arith, nat_tests)

decimal_prints : (n : ℕ) → n < 2 ^ 64 → IsPrintable (decimal n)
decimal_prints = decimal_has is_printable digit_prints

digit_is_printable : (digit : ℕ) → is_digit digit ≡ true → is_printable digit ≡ true
digit_is_printable digit is = grind (arith, nat_tests)

number_prints : (number : List ℕ) → list_all is_digit number ≡ true → IsPrintable number
number_prints = number_has is_printable digit_is_printable

glyph_prints : (value : ℕ) → value < 16 → is_printable (slice_index upper_digits value) ≡ true
glyph_prints value within = agree_below_at (λ v. is_printable (slice_index upper_digits v)) (λ v. true) 16 value refl within

octets_print : (octets : List ℕ) → list_all is_octet octets ≡ true → IsPrintable (encode_upper octets)
octets_print = octets_have is_printable glyph_prints

-- the pieces of a line
channel_by : (place : ℕ) (low : Bool) → place < 30 → cond low (place + 1) (place + 2) < 32
channel_by place true here = omega arith
channel_by place false here = omega arith

channel_small : (place : ℕ) → place < 30 → channel_at place < 32
channel_small place here = channel_by place (ltb place 15) here

slot_prints : (line place : ℕ) → line < 8 → place < 30 → IsPrintable (slot_text line place)
slot_prints line place within here =
    both (decimal line ++ codes "/") (decimal (channel_at place))
    (both (decimal line) (codes "/") (decimal_prints line (omega arith)) refl) (decimal_prints (channel_at place) (let small = channel_small place here in omega arith))

part_prints : (part : Part) → FitsPart part → IsPrintable (part_text part)
part_prints part fits =
    both (codes " " ++ decimal part.line ++ codes ":") (encode_upper part.octets)
    (both (codes " " ++ decimal part.line) (codes ":") (both (codes " ") (decimal part.line) refl (decimal_prints part.line (omega (arith, fits.line_is)))) refl)
    (octets_print part.octets fits.each)

parts_print : (parts : List Part) → FitsParts parts → IsPrintable (flat_map part_text parts)
parts_print [] fits = absurd fits
parts_print (one ∷ []) fits = both (part_text one) [] (part_prints one fits) refl
parts_print (one ∷ other ∷ []) fits = both (part_text one) (flat_map part_text (other ∷ [])) (part_prints one fits.0) (both (part_text other) [] (part_prints other fits.1) refl)
parts_print (one ∷ other ∷ third ∷ parts) fits = absurd fits

-- a word, then a piece, then a word, then a piece
four : (a b c d : List ℕ) → IsPrintable a → IsPrintable b → IsPrintable c → IsPrintable d → IsPrintable (a ++ b ++ c ++ d)
four a b c d one two three last = both (a ++ b ++ c) d (both (a ++ b) c (both a b one two) three) last

pub line_prints : (line : Line) → Fits line → list_all is_printable (line_text line) ≡ true
line_prints (Header external bridges processors) fits =
    both (codes "exchange 1 " ++ decimal external ++ codes " " ++ decimal bridges ++ codes " ") (decimal processors)
    (both (codes "exchange 1 " ++ decimal external ++ codes " " ++ decimal bridges) (codes " ")
    (four (codes "exchange 1 ") (decimal external) (codes " ") (decimal bridges) refl (decimal_prints external (omega (arith, fits.0))) refl (decimal_prints bridges (omega (arith, fits.1)))) refl)
    (decimal_prints processors (omega (arith, fits.2)))
line_prints (ToLine number line) fits =
    four (codes "number ") number (codes " line ") (decimal line) refl (number_prints number fits.0.each) refl (decimal_prints line (omega (arith, fits.1)))
line_prints (ToRoom number room) fits =
    four (codes "number ") number (codes " room ") (decimal room) refl (number_prints number fits.0.each) refl (decimal_prints room (omega (arith, fits.1)))
line_prints (Nail one other place) fits =
    four (codes "nail ") (slot_text one place) (codes " ") (slot_text other place) refl (slot_prints one place (omega (arith, fits.one_is)) fits.place_is.1) refl (slot_prints other place fits.other_is.1 fits.place_is.1)
line_prints (Message line octets) fits =
    four (codes "M ") (decimal line) (codes " ") (encode_upper octets) refl (decimal_prints line (omega (arith, fits.line_is))) refl (octets_print octets fits.each)
line_prints (Frame parts) fits = both (codes "F") (flat_map part_text parts) refl (parts_print parts fits)
line_prints Sync fits = refl

-- how long a line is
digit_length : (n : ℕ) → n < 10 → length (decimal n) ≡ 1
digit_length n small = rw (decimal_digit n) refl

slot_length : (line place : ℕ) → line < 8 → place < 30 → length (slot_text line place) ≤ 4
slot_length line place within here =
    let one = digit_length line (omega arith) in
    let channel = length-decimal-le 2 (channel_at place) (omega arith) (let small = channel_small place here in omega arith) (let small = channel_small place here in omega arith) in
    simp length-append (omega arith)

part_length : (part : Part) → FitsPart part → length (part_text part) ≡ 63
part_length part fits =
    let one = digit_length part.line (omega (arith, fits.line_is)) in
    let digits = length-encode_with upper_digits part.octets in
    simp length-append (omega (arith, fits.thirty))

parts_length : (parts : List Part) → FitsParts parts → length (flat_map part_text parts) ≤ 126
parts_length [] fits = absurd fits
parts_length (one ∷ []) fits = omega (arith, part_length one fits, length-append (part_text one) [])
parts_length (one ∷ other ∷ []) fits =
    omega (arith, part_length one fits.0, part_length other fits.1, length-append (part_text one) (part_text other ++ []), length-append (part_text other) [])
parts_length (one ∷ other ∷ third ∷ parts) fits = absurd fits

pub line_length : (line : Line) → Fits line → length (line_text line) ≤ 127
line_length (Header external bridges processors) fits =
    let e = digit_length external (omega (arith, fits.0)) in
    let b = digit_length bridges (omega (arith, fits.1)) in
    let p = digit_length processors (omega (arith, fits.2)) in
    simp length-append (omega arith)
line_length (ToLine number line) fits =
    let one = digit_length line (omega (arith, fits.1)) in
    simp length-append (omega (arith, fits.0.most))
line_length (ToRoom number room) fits =
    let one = digit_length room (omega (arith, fits.1)) in
    simp length-append (omega (arith, fits.0.most))
line_length (Nail one other place) fits =
    let first = slot_length one place (omega (arith, fits.one_is)) fits.place_is.1 in
    let second = slot_length other place fits.other_is.1 fits.place_is.1 in
    let one_text = slot_text one place in
    omega (arith, first, second, length-append (codes "nail " ++ one_text ++ codes " ") (slot_text other place), length-append (codes "nail " ++ one_text) (codes " "), length-append (codes "nail ") one_text)
line_length (Message line octets) fits =
    let one = digit_length line (omega (arith, fits.line_is)) in
    let digits = length-encode_with upper_digits octets in
    simp length-append (omega (arith, fits.most))
line_length (Frame parts) fits = let each = parts_length parts fits in omega arith
line_length Sync fits = omega arith
