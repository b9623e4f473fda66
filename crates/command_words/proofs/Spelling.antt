-- The numeral of a number is its decimal digits.
use Rattle.std.proofs.Common.{◌≡◌, ◌<◌, ◌≤◌, ◌^◌, ℕ, zero, suc, true, false, Bool, not, ◌&&◌, ◌||◌, ◌==◌, nat_le, List, [], ◌∷◌, Option, Some, None, if◌then◌else◌, option_and_then, fold, ◌*◌, ◌+◌, ◌-◌, length, slice_index, decimal, codes, rules, arith, ap, ap₂, sym, ◌∙◌, refl}
use Rattle.std.specs.List.{list_all}
use Rattle.std.specs.Char.{is_ascii_digit}
use Rattle.std.proofs.lemmas.Fmt.{decimal_digit, decimal_nonempty, length-decimal-le, first_decimal, digits_decimal, digits_value-decimal, decimal-digits_value}
use Rattle.std.proofs.lemmas.Str.Parse.{IsNumeralModel, numerals_by_fold, tells_all_ascii_digits, digits_value_short}
use Rattle.std.proofs.lemmas.Bool.{and_parts, ne_eqb, eq-eqb, eqb-true, le-leb, leb-true}
use Rattle.command_words.specs.Numerals.{decimal_value, is_numeral, numeral, numeral_in}
use Rattle.command_words.specs.Words.{begins_with_hyphen, command_of}
use Rattle.command_words.specs.declared.command.Command.TheVariants.{Generate}
use Rattle.command_words.proofs.Plain.{command_of_plain_texts}

own : IsNumeralModel (λ ds. list_all is_ascii_digit ds ≡ true) decimal_value
own = numerals_by_fold _ tells_all_ascii_digits (fold (λ number digit. number * 10 + (digit - 48))) (record { empty = λ n. refl; more = λ n c cs k. refl })

or_not : (a b : Bool) → b ≡ false → (a || not b) ≡ true
or_not true b e = refl
or_not false b e = ap not e

no_zero_in_front : (n : ℕ) → n < 10 ^ 10 → (length (decimal n) == 1 || not (slice_index (decimal n) 0 == 48)) ≡ true
no_zero_in_front zero h =
    let small : 0 < 10 = omega arith in
    ap (λ ds. length ds == 1 || not (slice_index ds 0 == 48)) (decimal_digit 0 small)
no_zero_in_front (suc n) h =
    let some : 0 < suc n = omega arith in
    let fits : suc n < 2 ^ 64 = omega arith in
    let first = first_decimal (suc n) some fits in
    or_not (length (decimal (suc n)) == 1) (slice_index (decimal (suc n)) 0 == 48) (ne_eqb _ 48 (λ e. omega (arith, first, e)))

is_spelled : (n : ℕ) → n < 10 ^ 10 → is_numeral (decimal n) ≡ true
is_spelled n h =
    let some : nat_le 1 (length (decimal n)) ≡ true = search (rules, decimal_nonempty n (omega arith)) in
    let most : nat_le (length (decimal n)) 10 ≡ true = search (rules, length-decimal-le 10 n (omega arith) h (omega arith)) in
    let digits : list_all is_ascii_digit (decimal n) ≡ true = digits_decimal own n (omega arith) in
    let first = no_zero_in_front n h in
    λ i. some i && most i && digits i && first i

pub numeral_spelled : (n : ℕ) → n < 10 ^ 10 → numeral (decimal n) ≡ Some n
numeral_spelled n h =
    ap (λ b. if b then Some (decimal_value (decimal n)) else None) (is_spelled n h)
    ∙ ap (λ m. Some m) (digits_value-decimal own n (omega arith))

lone_zero : (a b : Bool) → (a || not b) ≡ true → b ≡ true → a ≡ true
lone_zero true b h e = refl
lone_zero false b h e = sym (ap not e) ∙ h

is_decimal : (text : List ℕ) → is_numeral text ≡ true → decimal (decimal_value text) ≡ text
is_decimal text h =
    let last = and_parts _ (length text == 1 || not (slice_index text 0 == 48)) h in
    let third = and_parts _ (list_all is_ascii_digit text) last.0 in
    let sizes = and_parts (nat_le 1 (length text)) (nat_le (length text) 10) third.0 in
    let some : 1 ≤ length text = leb-true 1 (length text) sizes.0 in
    let most : length text ≤ 10 = leb-true (length text) 10 sizes.1 in
    let short : decimal_value text < 10 ^ 10 = digits_value_short own text 10 third.1 most in
    decimal-digits_value own text third.1 (omega (arith, some))
    (λ zero_first. eqb-true (length text) 1 (lone_zero _ _ last.1 (eq-eqb _ 48 zero_first)))
    (omega (arith, short))

pub decimal_no_other : (text : List ℕ) (n : ℕ) → numeral text ≡ Some n → text ≡ decimal n
decimal_no_other text n h = go (is_numeral text) refl h
  where
    go : (b : Bool) → is_numeral text ≡ b → (if b then Some (decimal_value text) else None) ≡ Some n → text ≡ decimal n
    go true is e =
        let value : decimal_value text ≡ n = cc in
        sym (is_decimal text is) ∙ ap decimal value
    go false is e = cc

no_hyphen : (text : List ℕ) → list_all is_ascii_digit text ≡ true → begins_with_hyphen text ≡ false
no_hyphen [] h = refl
no_hyphen (c ∷ cs) h =
    let digit = and_parts (is_ascii_digit c) (list_all is_ascii_digit cs) h in
    let bounds = and_parts (nat_le 48 c) (nat_le c 57) digit.0 in
    let least = leb-true 48 c bounds.0 in
    ne_eqb c 45 (λ e. omega (arith, least, e))

in_range : (low high n : ℕ) → n < 10 ^ 10 → low ≤ n → n ≤ high → numeral_in low high (decimal n) ≡ Some n
in_range low high n fits least most =
    ap (option_and_then (λ m. if nat_le low m && nat_le m high then Some m else None)) (numeral_spelled n fits)
    ∙ ap₂ (λ a b. if a && b then Some n else None) (le-leb low n least) (le-leb n high most)

pub command_of_asked : (seed calls : ℕ) → seed < 2 ^ 32 → 1 ≤ calls → calls ≤ 2000
    → command_of (codes "gen" ∷ decimal seed ∷ decimal calls ∷ []) ≡ Some (Generate seed calls)
command_of_asked seed calls fits some most =
    let seed_fits : seed < 10 ^ 10 = omega arith in
    let calls_fit : calls < 10 ^ 10 = omega arith in
    let seed_plain = no_hyphen (decimal seed) (digits_decimal own seed (omega arith)) in
    let calls_plain = no_hyphen (decimal calls) (digits_decimal own calls (omega arith)) in
    command_of_plain_texts (decimal seed) (decimal calls) seed_plain calls_plain
    ∙ ap₂ (λ (a b : Option ℕ). option_and_then (λ s. option_and_then (λ c. Some (Generate s c)) b) a)
    (in_range 0 4294967295 seed seed_fits (omega arith) (omega arith))
    (in_range 1 2000 calls calls_fit some most)
