-- Decimal numbers at the beginning of octets.
use Rattle.std.proofs.Common.{◌≡◌, ℕ, ◌+◌, ◌-◌, ◌*◌, ◌/◌, ◌%◌, ◌^◌, ◌<◌, ◌≤◌, Bool, true, false, cond, ◌||◌, eqb, leb, List, [], ◌∷◌, ◌++◌, length, Some, None, decimal, refl, sym, ap, ◌∙◌, arith, inl, inr, append_assoc}
use Rattle.std.specs.Char.{is_ascii_digit}
use Rattle.std.proofs.lemmas.Bool.{cases_Bool, cases_lt, cases_eq, eq-eqb, ne_eqb, le-leb, lt-leb}
use Rattle.std.proofs.lemmas.Bool.Decides.{nat_tests}
use Rattle.std.proofs.lemmas.Option.{cond_some, some_pair_parts}
use Rattle.std.proofs.lemmas.Fmt.{decimal_by_steps, decimal_digit, decimal_step}
use Rattle.report_reader.specs.Reading.{behind, digit_at, parse_number, number_from, spaced_at}
use Rattle.report_reader.proofs.StepLemmas.{both}
use Rattle.report_reader.proofs.WordLemmas.{behind_text}

-- the first octet is a digit, and others follow it
pub record IsDigitBefore (octets : List ℕ) (d : ℕ) (others : List ℕ) : Type 0 where
  pub octet : ℕ
  pub there : octets ≡ octet ∷ others
  pub digit : is_ascii_digit octet ≡ true
  pub value : d ≡ octet - 48

pub digit_there : (octets others : List ℕ) (d : ℕ) → digit_at octets ≡ Some (d, others) → IsDigitBefore octets d others
digit_there [] others d found = absurd cc
digit_there (octet ∷ octets) others d found =
    let parts = cond_some (is_ascii_digit octet) (octet - 48, octets) (d, others) found in
    let same : octets ≡ others = ap (λ (cut : ℕ × List ℕ). cut.1) parts.1 in
    let value : octet - 48 ≡ d = ap (λ (cut : ℕ × List ℕ). cut.0) parts.1 in
    record { octet = octet; there = rw same refl; digit = parts.0; value = sym value }

pub digit_shorter : (octets others : List ℕ) (d : ℕ) → digit_at octets ≡ Some (d, others) → length others < length octets
digit_shorter octets others d found = let there = digit_there octets others d found in let long = ap length there.there in omega (arith, long)

pub digit_small : (octets others : List ℕ) (d : ℕ) → digit_at octets ≡ Some (d, others) → d < 10
digit_small octets others d found =
    let there = digit_there octets others d found in
    let digit = there.digit in
    let octet : ℕ = there.octet in
    let value : d ≡ octet - 48 = there.value in
    let range : octet ≤ 57 = grind (arith, nat_tests) in
    omega (arith, value, range)

-- no digit goes on the number
pub from_end : (n : ℕ) (octets : List ℕ) → digit_at octets ≡ None → number_from n octets ≡ Some (n, octets)
unfolding number_from
from_end n [] none = refl
from_end n (octet ∷ octets) none = elim (cases_Bool (is_ascii_digit octet)) [
  | inl digit ↦ let some = rw digit at none in absurd cc
  | inr other ↦ rw other refl
]

-- a digit that goes on the number
pub from_digit : (n d : ℕ) (octets others : List ℕ) → digit_at octets ≡ Some (d, others)
    → number_from n octets ≡ cond (eqb n 0 || leb (2 ^ 32) (n * 10 + d)) None (number_from (n * 10 + d) others)
unfolding number_from
from_digit n d octets others found =
    let there = digit_there octets others d found in
    rw (there.there, there.digit, ← there.value) refl

pub from_leading : (n d : ℕ) (octets others : List ℕ) → digit_at octets ≡ Some (d, others) → n ≡ 0 → number_from n octets ≡ None
from_leading n d octets others found leading = from_digit n d octets others found ∙ rw (eq-eqb n 0 leading) refl

pub from_large : (n d : ℕ) (octets others : List ℕ) → digit_at octets ≡ Some (d, others) → 2 ^ 32 ≤ n * 10 + d → number_from n octets ≡ None
from_large n d octets others found large = elim (cases_eq n 0) [
  | inl leading ↦ from_leading n d octets others found leading
  | inr some ↦ from_digit n d octets others found ∙ rw (ne_eqb n 0 some, le-leb _ _ large) refl
]

pub from_more : (n d : ℕ) (octets others : List ℕ) → digit_at octets ≡ Some (d, others) → (n ≡ 0 → ⊥) → n * 10 + d < 2 ^ 32
    → number_from n octets ≡ number_from (n * 10 + d) others
from_more n d octets others found some small = from_digit n d octets others found ∙ rw (ne_eqb n 0 some, lt-leb _ _ small) refl

-- ---- what is read is there

-- a digit more behind a number's own
longer : (n octet : ℕ) (others : List ℕ) → (n ≡ 0 → ⊥) → is_ascii_digit octet ≡ true → n * 10 + (octet - 48) < 2 ^ 32
    → decimal n ++ octet ∷ others ≡ decimal (n * 10 + (octet - 48)) ++ others
longer n octet others some digit small =
    let range : (48 ≤ octet) × (octet ≤ 57) = grind (arith, nat_tests) in
    let step = decimal_step (n * 10 + (octet - 48)) (omega (arith, some)) (omega (arith, small)) in
    let top : (n * 10 + (octet - 48)) / 10 ≡ n = omega arith in
    let low : 48 + (n * 10 + (octet - 48)) % 10 ≡ octet = omega arith in
    rw (step, top, low) (sym (append_assoc (decimal n) (octet ∷ []) others))

from_text : (n : ℕ) (octets : List ℕ) (m : ℕ) (rest : List ℕ) → n < 2 ^ 32 → number_from n octets ≡ Some (m, rest) → (decimal n ++ octets ≡ decimal m ++ rest) × (m < 2 ^ 32)
unfolding number_from
from_text n [] m rest small found =
    let parts = some_pair_parts n m [] rest found in
    (rw (parts.0, parts.1) refl, rw (← parts.0) small)
from_text n (octet ∷ octets) m rest small found = elim (cases_Bool (is_ascii_digit octet)) [
  | inr other ↦
      let parts = some_pair_parts n m (octet ∷ octets) rest (rw other at found) in
      (rw (parts.0, parts.1) refl, rw (← parts.0) small)
  | inl digit ↦ elim (cases_eq n 0) [
    | inl leading ↦ let none = rw (digit, eq-eqb n 0 leading) at found in absurd cc
    | inr some ↦ elim (cases_lt (n * 10 + (octet - 48)) (2 ^ 32)) [
      | inl fits ↦
          let more = from_text (n * 10 + (octet - 48)) octets m rest fits (rw (digit, ne_eqb n 0 some, lt-leb _ _ fits) at found) in
          (longer n octet octets some digit fits ∙ more.0, more.1)
      | inr large ↦ let none = rw (digit, ne_eqb n 0 some, le-leb _ _ large) at found in absurd cc
    ]
  ]
]

one_digit : (d octet : ℕ) → is_ascii_digit octet ≡ true → d ≡ octet - 48 → (decimal d ≡ octet ∷ []) × (d < 2 ^ 32)
one_digit d octet digit value =
    let range : (48 ≤ octet) × (octet ≤ 57) = grind (arith, nat_tests) in
    let same : 48 + (octet - 48) ≡ octet = omega arith in
    (rw value (decimal_digit (octet - 48) (omega arith) ∙ ap (λ (k : ℕ). k ∷ []) same), omega (arith, value))

pub number_text : (octets : List ℕ) (n : ℕ) (rest : List ℕ) → parse_number octets ≡ Some (n, rest) → (octets ≡ decimal n ++ rest) × (n < 2 ^ 32)
number_text octets n rest found =
    let step = both (digit_at octets) _ _ found in
    let there = digit_there octets step.here.1 step.here.0 step.is in
    let one = one_digit step.here.0 there.octet there.digit there.value in
    let all = from_text step.here.0 step.here.1 n rest one.1 step.later in
    (there.there ∙ ap (λ (l : List ℕ). l ++ step.here.1) (sym one.0) ∙ all.0, all.1)

pub spaced_text : (octets : List ℕ) (n : ℕ) (rest : List ℕ) → spaced_at octets ≡ Some (n, rest) → (octets ≡ 32 ∷ (decimal n ++ rest)) × (n < 2 ^ 32)
spaced_text octets n rest found =
    let step = both (behind (32 ∷ []) octets) _ _ found in
    let number = number_text step.here n rest step.later in
    (behind_text (32 ∷ []) octets step.here step.is ∙ ap (λ (l : List ℕ). 32 ∷ l) number.0, number.1)

-- ---- what is there is read

-- a digit begins the octets
abbrev pub starts_digit : List ℕ → Bool
starts_digit [] = false
starts_digit (octet ∷ octets) = is_ascii_digit octet

no_digit : (rest : List ℕ) → starts_digit rest ≡ false → digit_at rest ≡ None
no_digit [] other = refl
no_digit (octet ∷ octets) other = rw other refl

digit_found : (k : ℕ) (rest : List ℕ) → k < 10 → digit_at ((48 + k) ∷ rest) ≡ Some (k, rest)
digit_found k rest low =
    let digit : is_ascii_digit (48 + k) ≡ true = grind (arith, nat_tests) in
    let value : (48 + k) - 48 ≡ k = omega arith in
    rw (digit, value) refl

abbrev Runs : ℕ → List ℕ → Type 0
Runs n digits = n < 2 ^ 32 → (rest : List ℕ) → parse_number (digits ++ rest) ≡ number_from n rest

number_runs : (n : ℕ) → n < 2 ^ 32 → (rest : List ℕ) → parse_number (decimal n ++ rest) ≡ number_from n rest
number_runs n small = decimal_by_steps Runs
    (λ k low fits rest. rw (digit_found k rest low) refl)
    (λ k digits large earlier fits rest.
    let last : k % 10 < 10 = omega arith in
    let whole : k / 10 * 10 + k % 10 ≡ k = omega arith in
    let some : k / 10 ≡ 0 → ⊥ = λ e. absurd (omega arith) in
    rw (append_assoc digits ((48 + k % 10) ∷ []) rest) (earlier (omega arith) ((48 + k % 10) ∷ rest)
    ∙ from_more (k / 10) (k % 10) ((48 + k % 10) ∷ rest) rest (digit_found (k % 10) rest last) some (omega (arith, whole)) ∙ ap (λ (m : ℕ). number_from m rest) whole))
    n (omega arith) small

pub number_back : (n : ℕ) (rest : List ℕ) → n < 2 ^ 32 → starts_digit rest ≡ false → parse_number (decimal n ++ rest) ≡ Some (n, rest)
number_back n rest small other = number_runs n small rest ∙ from_end n rest (no_digit rest other)

pub spaced_back : (n : ℕ) (rest : List ℕ) → n < 2 ^ 32 → starts_digit rest ≡ false → spaced_at (32 ∷ (decimal n ++ rest)) ≡ Some (n, rest)
unfolding behind
spaced_back n rest small other = number_back n rest small other
