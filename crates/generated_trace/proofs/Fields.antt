-- The fields of a spelled line, read back.
use Rattle.std.proofs.Common.{◌≡◌, ℕ, ◌+◌, ◌*◌, ◌/◌, ◌%◌, ◌^◌, ◌<◌, ◌≤◌, Bool, true, false, nat_le, eqb, ltb, cond, List, [], ◌∷◌, ◌++◌, length, slice_index, Option, Some, None, unwrap_or, refl, ap, ◌∙◌, arith}
use Rattle.std.specs.Prelude.{codes, decimal}
use Rattle.std.specs.List.{list_all}
use Rattle.std.proofs.lemmas.Bool.{agree_below_at, and_parts, eq-eqb, eqb-true, lt-ltb, le-leb, ltb-true}
use Rattle.std.proofs.lemmas.Bool.Decides.{nat_tests}
use Rattle.std.proofs.lemmas.Fmt.{decimal_digit, decimal_step}
use Rattle.hex.specs.Hex.{encode_upper, encode_with, upper_digits}
use Rattle.circuit_model.specs.Channels.{place_of}
use Rattle.traffic_gen.specs.Fitting.{is_digit, is_octet}
use Rattle.traffic_gen.specs.Lines.{channel_at, slot_text}
use Rattle.traffic_gen.proofs.Spelling.{both_have, decimal_has, number_has, octets_have}
use Rattle.trace_text.specs.TraceWords.{cut_at, is_empty, numeral}
use Rattle.trace_text.specs.TraceFields.{digit_value, external_line, octets_written, slash, slot}
use Rattle.trace_text.proofs.TraceOctets.{behind, octets_written_pair_then}
use Rattle.generated_trace.specs.Told.{slot_at}
use Rattle.generated_trace.proofs.Cutting.{IsWord, is_solid}

-- a number in place of none is another one than the number found
found_by : (o : Option ℕ) (other n : ℕ) → eqb (unwrap_or o other) n ≡ true → n < other → o ≡ Some n
found_by None other n same below = absurd (let e = eqb-true other n same in omega arith)
found_by (Some m) other n same below = ap (λ (k : ℕ). Some k) (eqb-true m n same)

-- ---- numerals

-- the line that a digit writes
pub line_read : (line : ℕ) → line < 8 → external_line 8 (decimal line) ≡ Some line
line_read line within =
    let small : line < 10 = omega arith in
    rw (decimal_digit line) (found_by (external_line 8 ((48 + line) ∷ [])) 8 line (agree_below_at (λ n. eqb (unwrap_or (external_line 8 ((48 + n) ∷ [])) 8) n) (λ n. true) 8 line refl within) within)

two_digits : (n : ℕ) → 10 ≤ n → n < 100 → decimal n ≡ (48 + n / 10) ∷ (48 + n % 10) ∷ []
two_digits n big small =
    let front : n / 10 < 10 = omega arith in
    rw (decimal_step n big (omega arith), decimal_digit (n / 10)) refl

-- the number that two digits write
two_read : (n : ℕ) → 10 ≤ n → n < 32 → numeral (decimal n) ≡ Some n
two_read n big small =
    let is = agree_below_at (λ n. eqb (unwrap_or (numeral ((48 + n / 10) ∷ (48 + n % 10) ∷ [])) 32) n) (λ n. nat_le 10 n) 32 n refl small in
    rw (two_digits n big (omega arith)) (found_by (numeral ((48 + n / 10) ∷ (48 + n % 10) ∷ [])) 32 n (is ∙ le-leb 10 n big) small)

-- ---- slots

-- a word is cut at its second octet
pub cut_second : (mark x : ℕ) (rest : List ℕ) → eqb x mark ≡ false → cut_at mark (x ∷ mark ∷ rest) ≡ Some (x ∷ [], rest)
cut_second mark x rest other =
    let same : eqb mark mark ≡ true = eq-eqb mark mark refl in
    let within : ltb 1 (length (x ∷ mark ∷ rest)) ≡ true = lt-ltb 1 (length (x ∷ mark ∷ rest)) (omega arith) in
    rw (other, same, within) refl

place_read : (place : ℕ) → place < 30 → place_of (channel_at place) ≡ Some place
place_read place here =
    found_by (place_of (channel_at place)) 30 place (agree_below_at (λ p. eqb (unwrap_or (place_of (channel_at p)) 30) p) (λ p. true) 30 place refl here) here

channel_by : (place : ℕ) (low : Bool) → 10 ≤ place → place < 30 → (10 ≤ cond low (place + 1) (place + 2)) × (cond low (place + 1) (place + 2) < 32)
channel_by place true least here = (omega arith, omega arith)
channel_by place false least here = (omega arith, omega arith)

-- a slot, where each of its parts is found
slot_given : (external : ℕ) (word : List ℕ) (halves : List ℕ × List ℕ) (line channel place : ℕ) → cut_at slash word ≡ Some halves → external_line external halves.0 ≡ Some line
    → numeral halves.1 ≡ Some channel → place_of channel ≡ Some place → slot external word ≡ Some (slot_at line place)
slot_given external word halves line channel place a b c d = rw (a, b, c, d) refl

no_slash : (line : ℕ) → line < 8 → eqb (48 + line) 47 ≡ false
no_slash line within = grind (arith, nat_tests)

pub no_colon : (line : ℕ) → line < 8 → eqb (48 + line) 58 ≡ false
no_colon line within = grind (arith, nat_tests)

pub slot_read : (line place : ℕ) → line < 8 → 10 ≤ place → place < 30 → slot 8 (slot_text line place) ≡ Some (slot_at line place)
slot_read line place within least here =
    let small : line < 10 = omega arith in
    let channel = channel_by place (ltb place 15) least here in
    let read = rw (decimal_digit line) at (line_read line within) in
    rw (decimal_digit line) (slot_given 8 ((48 + line) ∷ 47 ∷ decimal (channel_at place)) ((48 + line) ∷ [], decimal (channel_at place)) line (channel_at place) place
    (cut_second 47 (48 + line) (decimal (channel_at place)) (no_slash line within)) read (two_read (channel_at place) channel.0 channel.1) (place_read place here))

-- ---- octets

glyph_read : (value : ℕ) → value < 16 → digit_value (slice_index upper_digits value) ≡ Some value
glyph_read value within =
    found_by (digit_value (slice_index upper_digits value)) 16 value (agree_below_at (λ v. eqb (unwrap_or (digit_value (slice_index upper_digits v)) 16) v) (λ v. true) 16 value refl within) within

-- hexadecimal digits write the octets of which they were made
pub octets_read : (octets : List ℕ) → list_all is_octet octets ≡ true → octets_written (encode_upper octets) ≡ Some octets
unfolding encode_with
octets_read [] each = refl
octets_read (octet ∷ octets) each =
    let parts = and_parts (is_octet octet) (list_all is_octet octets) each in
    let below : octet < 256 = ltb-true octet 256 parts.0 in
    let high = octet / 16 in
    let low = octet % 16 in
    let whole : high * 16 + low ≡ octet = omega arith in
    octets_written_pair_then (slice_index upper_digits high) (slice_index upper_digits low) (encode_upper octets) high low (glyph_read high (omega arith)) (glyph_read low (omega arith))
    ∙ ap (behind ((high * 16 + low) ∷ [])) (octets_read octets parts.1)
    ∙ ap (λ (first : ℕ). Some (first ∷ octets)) whole

-- ---- words

digit_solid : (n : ℕ) → n < 10 → is_solid (48 + n) ≡ true
digit_solid n small = grind (arith, nat_tests)

decimal_solid : (n : ℕ) → n < 2 ^ 64 → list_all is_solid (decimal n) ≡ true
decimal_solid = decimal_has is_solid digit_solid

glyph_solid : (value : ℕ) → value < 16 → is_solid (slice_index upper_digits value) ≡ true
glyph_solid value within = agree_below_at (λ v. is_solid (slice_index upper_digits v)) (λ v. true) 16 value refl within

pub octets_solid : (octets : List ℕ) → list_all is_octet octets ≡ true → list_all is_solid (encode_upper octets) ≡ true
octets_solid = octets_have is_solid glyph_solid

octets_filled : (octet : ℕ) (octets : List ℕ) → is_empty (encode_upper (octet ∷ octets)) ≡ false
unfolding encode_with
octets_filled octet octets = refl

pub octets_word : (octet : ℕ) (octets : List ℕ) → list_all is_octet (octet ∷ octets) ≡ true → IsWord (encode_upper (octet ∷ octets))
octets_word octet octets each = record { solid = octets_solid (octet ∷ octets) each; filled = octets_filled octet octets }

pub no_octets : encode_upper [] ≡ []
unfolding encode_with
no_octets = refl

pub digit_word : (n : ℕ) → n < 10 → IsWord (decimal n)
digit_word n small = record {
  solid = decimal_solid n (omega arith);
  filled = rw (decimal_digit n) refl;
}

solid_digit : (digit : ℕ) → is_digit digit ≡ true → is_solid digit ≡ true
solid_digit digit is = grind (arith, nat_tests)

pub number_word : (number : List ℕ) → list_all is_digit number ≡ true → 1 ≤ length number → IsWord number
number_word [] each some = absurd (omega arith)
number_word (digit ∷ number) each some = record { solid = number_has is_solid solid_digit (digit ∷ number) each; filled = refl }

pub slot_word : (line place : ℕ) → line < 8 → 10 ≤ place → place < 30 → IsWord (slot_text line place)
slot_word line place within least here =
    let small : line < 10 = omega arith in
    let channel = channel_by place (ltb place 15) least here in
    record {
      solid = both_have is_solid (decimal line ++ codes "/") (decimal (channel_at place)) (both_have is_solid (decimal line) (codes "/") (decimal_solid line (omega arith)) refl) (decimal_solid (channel_at place) (omega (arith, channel.1)));
      filled = rw (decimal_digit line) refl;
    }
