-- Pairs of hexadecimal digits at the beginning of octets.
use Rattle.std.proofs.Common.{◌≡◌, ℕ, ◌+◌, ◌-◌, ◌*◌, ◌/◌, ◌%◌, ◌<◌, ◌≤◌, Bool, true, List, [], ◌∷◌, ◌++◌, length, cond, eqb, ltb, inl, inr, Option, Some, None, option_map, refl, sym, ap, ◌∙◌, arith, append_assoc, length-append}
use Rattle.std.specs.Prelude.{slice_index, unwrap_or}
use Rattle.std.proofs.lemmas.Option.{some_pair_parts}
use Rattle.hex.specs.Hex.{encode_upper, encode_with, upper_digits}
use Rattle.report_reader.specs.Spelling.{AreOctets}
use Rattle.report_reader.proofs.StepLemmas.{both}
use Rattle.std.proofs.lemmas.Bool.{cases_Bool, cases_lt, le-leb, lt-leb, agree_below_at, eqb-true}
use Rattle.std.proofs.lemmas.Bool.Decides.{nat_tests}
use Rattle.std.proofs.lemmas.List.Elements.{All-nil, All-cons, All-head, All-tail}
use Rattle.std.proofs.lemmas.List.{append-nil}
use Rattle.circuit_model.specs.Channels.{between}
use Rattle.report_reader.specs.Reading.{digit_value, octet_at, octet_of, octets_at, octets_front, onto, passing}

-- the first two octets write one, and others follow them
pub record IsPairBefore (octets : List ℕ) (octet : ℕ) (others : List ℕ) : Type 0 where
  pub high : ℕ
  pub low : ℕ
  pub there : octets ≡ high ∷ low ∷ others
  pub value : octet_of high low ≡ Some octet

pub pair_there : (octets others : List ℕ) (octet : ℕ) → octet_at octets ≡ Some (octet, others) → IsPairBefore octets octet others
pair_there [] others octet found = absurd cc
pair_there (high ∷ []) others octet found = absurd cc
pair_there (high ∷ low ∷ octets) others octet found = by_case (octet_of high low) refl found
  where
    by_case : (value : Option ℕ) → octet_of high low ≡ value → option_map {U = ℕ × List ℕ} (λ o. (o, octets)) value ≡ Some (octet, others) → IsPairBefore (high ∷ low ∷ octets) octet others
    by_case None is found = absurd cc
    by_case (Some v) is found =
        let parts = some_pair_parts v octet octets others found in
        record { high = high; low = low; there = rw parts.1 refl; value = is ∙ ap Some parts.0 }

pub pair_shorter : (octets others : List ℕ) (octet : ℕ) → octet_at octets ≡ Some (octet, others) → length others < length octets
pair_shorter octets others octet found = let there = pair_there octets others octet found in let long = ap length there.there in omega (arith, long)

-- one octet more at the beginning
pub front_more : (octets others : List ℕ) (octet : ℕ) → octet_at octets ≡ Some (octet, others)
    → octets_front octets ≡ (octet ∷ (octets_front others).0, (octets_front others).1)
unfolding octets_front
front_more octets others octet found =
    let there = pair_there octets others octet found in
    rw (there.there, there.value) refl

-- no octet at the beginning
pub front_none : (octets : List ℕ) → octet_at octets ≡ None → octets_front octets ≡ ([], octets)
unfolding octets_front
front_none [] none = refl
front_none (high ∷ []) none = refl
front_none (high ∷ low ∷ octets) none = by_case (octet_of high low) refl none
  where
    by_case : (value : Option ℕ) → octet_of high low ≡ value → option_map {U = ℕ × List ℕ} (λ o. (o, octets)) value ≡ None
        → onto (octet_of high low) (high ∷ low ∷ octets) (octets_front octets) ≡ ([], high ∷ low ∷ octets)
    by_case None is none = rw is refl
    by_case (Some v) is none = absurd cc

-- some octets were read, and what is at the beginning now comes after them
pub record HasRead (all read rest : List ℕ) : Type 0 where
  pub few : length read ≤ 112
  pub behind : read ++ (octets_front rest).0 ≡ (octets_front all).0
  pub left : (octets_front rest).1 ≡ (octets_front all).1

pub HasRead_begun : (all read : List ℕ) → read ≡ [] → HasRead all read all
HasRead_begun all read none = rw none (record { few = omega arith; behind = refl; left = refl })

pub read_more : (all read rest others more : List ℕ) (octet : ℕ) → HasRead all read rest → octet_at rest ≡ Some (octet, others) → length read < 112 → more ≡ read ++ octet ∷ []
    → HasRead all more others
read_more all read rest others more octet so_far found room pushed =
    let front = front_more rest others octet found in
    rw pushed (record {
      few = omega (arith, length-append read (octet ∷ []), room);
      behind = append_assoc read (octet ∷ []) (octets_front others).0 ∙ (rw front at so_far.behind);
      left = rw front at so_far.left;
    })

pub octets_at_too_many : (all read rest others : List ℕ) (octet : ℕ) → HasRead all read rest → octet_at rest ≡ Some (octet, others) → length read ≡ 112 → octets_at all ≡ None
octets_at_too_many all read rest others octet so_far found full =
    let front = front_more rest others octet found in
    let behind : read ++ octet ∷ (octets_front others).0 ≡ (octets_front all).0 = rw front at so_far.behind in
    let long : 112 < length (octets_front all).0 = omega (arith, ap length behind, length-append read (octet ∷ (octets_front others).0), full) in
    rw (lt-leb _ _ long, le-leb 1 (length (octets_front all).0) (omega (arith, long))) refl

pub octets_at_none_read : (all read rest : List ℕ) → HasRead all read rest → octet_at rest ≡ None → length read ≡ 0 → octets_at all ≡ None
octets_at_none_read all [] rest so_far none empty =
    let nothing = front_none rest none in
    let behind : [] ≡ (octets_front all).0 = rw nothing at so_far.behind in
    rw (← behind) refl
octets_at_none_read all (octet ∷ read) rest so_far none empty = absurd (omega arith)

-- octets that are as many as a message may have are a message's
pub passing_by_count : (front : List ℕ × List ℕ) (read rest : List ℕ) → read ≡ front.0 → rest ≡ front.1 → 1 ≤ length read → length read ≤ 112
    → passing (between 1 112 (length front.0)) front ≡ Some (read, rest)
passing_by_count front read rest behind left some few = rw (← behind, le-leb 1 (length read) some, le-leb (length read) 112 few) (ap (λ (b : List ℕ). Some (read, b)) (sym left))

pub octets_at_all_read : (all read rest : List ℕ) → HasRead all read rest → octet_at rest ≡ None → 1 ≤ length read → octets_at all ≡ Some (read, rest)
octets_at_all_read all read rest so_far none some =
    let nothing = front_none rest none in
    let behind : read ≡ (octets_front all).0 = sym (append-nil read) ∙ (rw nothing at so_far.behind) in
    let left : rest ≡ (octets_front all).1 = rw nothing at so_far.left in
    passing_by_count (octets_front all) read rest behind left some so_far.few

-- ---- what is read is there, and what is there is read

-- the digit of each value
digit_is : (v : ℕ) → v < 16 → slice_index upper_digits v ≡ cond (ltb v 10) (48 + v) (55 + v)
digit_is v small = eqb-true _ _ (agree_below_at (λ k. eqb (slice_index upper_digits k) (cond (ltb k 10) (48 + k) (55 + k))) (λ k. true) 16 v refl small)

digit_low : (v : ℕ) → v < 10 → slice_index upper_digits v ≡ 48 + v
digit_low v small = digit_is v (omega arith) ∙ grind (arith, nat_tests)

digit_high : (v : ℕ) → 10 ≤ v → v < 16 → slice_index upper_digits v ≡ 55 + v
digit_high v large small = digit_is v small ∙ grind (arith, nat_tests)

-- a digit is no control character
pub digit_plain : (v : ℕ) → v < 16 → 48 ≤ slice_index upper_digits v
digit_plain v small = elim (cases_lt v 10) [
  | inl low ↦ rw (digit_low v low) (omega arith)
  | inr high ↦ rw (digit_high v high small) (omega arith)
]

-- the value of each digit
some_value : (found : Option ℕ) (v : ℕ) → v < 16 → eqb (unwrap_or found 30) v ≡ true → found ≡ Some v
some_value None v small same = let e : 30 ≡ v = eqb-true 30 v same in absurd (omega arith)
some_value (Some k) v small same = ap Some (eqb-true k v same)

digit_back : (v : ℕ) → v < 16 → digit_value (slice_index upper_digits v) ≡ Some v
digit_back v small = some_value (digit_value (slice_index upper_digits v)) v small (agree_below_at (λ k. eqb (unwrap_or (digit_value (slice_index upper_digits k)) 30) k) (λ k. true) 16 v refl small)

record IsDigitOf (digit v : ℕ) : Type 0 where
  pub small : v < 16
  pub is : digit ≡ slice_index upper_digits v

digit_text : (digit v : ℕ) → digit_value digit ≡ Some v → IsDigitOf digit v
digit_text digit v found = elim (cases_Bool (between 48 57 digit)) [
  | inl decimal ↦
      let range : (48 ≤ digit) × (digit ≤ 57) = grind (arith, nat_tests) in
      let same = rw decimal at found in
      let value : digit - 48 ≡ v = cc in
      record { small = omega arith; is = sym (digit_low v (omega arith) ∙ omega arith) }
  | inr other ↦ elim (cases_Bool (between 65 70 digit)) [
    | inl letter ↦
        let range : (65 ≤ digit) × (digit ≤ 70) = grind (arith, nat_tests) in
        let same = rw (other, letter) at found in
        let value : digit - 55 ≡ v = cc in
        record { small = omega arith; is = sym (digit_high v (omega arith) (omega arith) ∙ omega arith) }
    | inr neither ↦ let none = rw (other, neither) at found in absurd cc
  ]
]

pub record IsPairOf (high low octet : ℕ) : Type 0 where
  pub small : octet < 256
  pub high_is : high ≡ slice_index upper_digits (octet / 16)
  pub low_is : low ≡ slice_index upper_digits (octet % 16)

octet_text : (high low octet : ℕ) → octet_of high low ≡ Some octet → IsPairOf high low octet
octet_text high low octet found =
    let first = both (digit_value high) _ _ found in
    let second = both (digit_value low) _ _ first.later in
    let h = digit_text high first.here first.is in
    let l = digit_text low second.here second.is in
    let h_small : first.here < 16 = h.small in
    let l_small : second.here < 16 = l.small in
    let later = second.later in
    let value : first.here * 16 + second.here ≡ octet = cc in
    let top : octet / 16 ≡ first.here = omega arith in
    let rest : octet % 16 ≡ second.here = omega arith in
    record { small = omega arith; high_is = rw top h.is; low_is = rw rest l.is }

octet_back : (octet : ℕ) → octet < 256 → octet_of (slice_index upper_digits (octet / 16)) (slice_index upper_digits (octet % 16)) ≡ Some octet
octet_back octet small =
    let value : octet / 16 * 16 + octet % 16 ≡ octet = omega arith in
    rw (digit_back (octet / 16) (omega arith), digit_back (octet % 16) (omega arith)) (ap Some value)

pub record AreRead (text : List ℕ) (front : List ℕ × List ℕ) : Type 0 where
  pub there : text ≡ encode_upper front.0 ++ front.1
  pub octets : AreOctets front.0

nothing : (text : List ℕ) → text ≡ encode_upper [] ++ text
unfolding encode_with
nothing text = refl

one_more : (high low octet : ℕ) (text : List ℕ) (front : List ℕ × List ℕ) → IsPairOf high low octet → AreRead text front → high ∷ low ∷ text ≡ encode_upper (octet ∷ front.0) ++ front.1
unfolding encode_with
one_more high low octet text front pair read = rw (← pair.high_is, ← pair.low_is) (ap (λ (l : List ℕ). high ∷ low ∷ l) read.there)

pub front_text : (text : List ℕ) → AreRead text (octets_front text)
unfolding octets_front
front_text [] = record { there = nothing []; octets = All-nil (λ o. o < 256) }
front_text (high ∷ []) = record { there = nothing (high ∷ []); octets = All-nil (λ o. o < 256) }
front_text (high ∷ low ∷ text) = by_case (front_text text) (octet_of high low) refl
  where
    by_case : AreRead text (octets_front text) → (value : Option ℕ) → octet_of high low ≡ value → AreRead (high ∷ low ∷ text) (onto value (high ∷ low ∷ text) (octets_front text))
    by_case more None is = record { there = nothing (high ∷ low ∷ text); octets = All-nil (λ o. o < 256) }
    by_case more (Some octet) is =
        let pair = octet_text high low octet is in
        record { there = one_more high low octet text (octets_front text) pair more; octets = All-cons (λ o. o < 256) octet (octets_front text).0 pair.small more.octets }

-- a space begins the octets, or there are none
abbrev pub is_apart : List ℕ → Bool
is_apart [] = true
is_apart (octet ∷ octets) = eqb octet 32

pub octet_at_apart_none : (rest : List ℕ) → is_apart rest ≡ true → octet_at rest ≡ None
octet_at_apart_none [] apart = refl
octet_at_apart_none (octet ∷ []) apart = refl
octet_at_apart_none (octet ∷ low ∷ rest) apart = rw (eqb-true octet 32 apart) refl

pub front_back : (octets rest : List ℕ) → AreOctets octets → octet_at rest ≡ None → octets_front (encode_upper octets ++ rest) ≡ (octets, rest)
unfolding encode_with octets_front
front_back [] rest all none = front_none rest none
front_back (octet ∷ octets) rest all none =
    rw (octet_back octet (All-head (λ o. o < 256) octet octets all), front_back octets rest (All-tail (λ o. o < 256) octet octets all) none) refl
