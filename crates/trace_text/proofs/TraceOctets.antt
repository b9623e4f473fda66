-- Hexadecimal digits in pairs.
use Rattle.std.proofs.Common.{◌≡◌, ◌≢◌, ℕ, zero, suc, ◌+◌, ◌*◌, ◌-◌, ◌/◌, ◌%◌, ◌<◌, ◌≤◌, Bool, true, false, cond, ◌&&◌, ◌||◌, eqb, ltb, bit_or, List, [], ◌∷◌, ◌++◌, length, take, drop, map, replicate, Option, Some, None, is_some, option_map, ok_or, All, leb, Ok, Err, refl, sym, ap, subst, ◌∙◌, arith, ◌⊎◌, inl, inr, append_assoc}
use Rattle.std.specs.Prelude.{Result, option_and_then, IfSome, IfOk, IfErr}
use Rattle.std.specs.List.{list_all}
use Rattle.std.proofs.lemmas.Bool.{eq-eqb, ne_eqb, le-leb, agree_below_at}
use Rattle.std.proofs.lemmas.List.{take-append-drop, length-map}
use Rattle.std.proofs.lemmas.List.Elements.{All-nil, All-cons}
use Rattle.std.proofs.lemmas.List.Folds.{list_all-append}
use Rattle.std.proofs.lemmas.Bool.Decides.{nat_tests}
use Rattle.circuit_model.specs.Channels.{between}
use Rattle.trace_text.specs.declared.fault.Reason.TheVariants.{Hex, Length}
use Rattle.trace_text.specs.declared.fault.LineError.{LineError}
use Rattle.trace_text.specs.declared.fault.LineError.TheVariants.{Memory, Refused}
use Rattle.trace_text.specs.TraceLines.{Fails, Gives}
use Rattle.trace_text.specs.TraceFields.{digit_value, is_digit, octets_written, thirty, at_most}

-- ---- one digit

picked : (P : Option ℕ → Type 0) (b : Bool) (x y : Option ℕ) → (b ≡ true → P x) → P y → P (cond b x y)
picked P true x y p q = p refl
picked P false x y p q = q

pub in_range : (low high n : ℕ) → between low high n ≡ true → (low ≤ n) × (n ≤ high)
in_range low high n h = grind (arith, nat_tests)

-- a property of a digit's value, shown for each kind of digit
pub by_kind : (octet : ℕ) (P : ℕ → Type 0) → (48 ≤ octet → octet ≤ 57 → P (octet - 48)) → (65 ≤ octet → octet ≤ 70 → P (octet - 55))
    → (97 ≤ octet → octet ≤ 102 → P (octet - 87)) → IfSome (digit_value octet) P
by_kind octet P numeral upper lower =
    let Q : Option ℕ → Type 0 = λ o. IfSome o P in
    picked Q (between 48 57 octet) _ _ (λ h. let r = in_range 48 57 octet h in numeral r.0 r.1)
    (picked Q (between 65 70 octet) _ _ (λ h. let r = in_range 65 70 octet h in upper r.0 r.1)
    (picked Q (between 97 102 octet) _ _ (λ h. let r = in_range 97 102 octet h in lower r.0 r.1) tt))

some_is : (o : Option ℕ) (P : ℕ → Type 0) → IfSome o P → (v : ℕ) → o ≡ Some v → P v
some_is None P p v e = absurd cc
some_is (Some w) P p v e = let same : w ≡ v = cc in subst P same p

-- the value of a digit is below 16
pub digit_small : (octet v : ℕ) → digit_value octet ≡ Some v → v < 16
digit_small octet v e = some_is (digit_value octet) (λ v. v < 16) (by_kind octet (λ v. v < 16) (λ l h. omega arith) (λ l h. omega arith) (λ l h. omega arith)) v e

-- ---- pairs of digits

-- octets, and what other digits write, where they write something
abbrev pub behind : List ℕ → Option (List ℕ) → Option (List ℕ)
behind front written = option_map (λ octets. front ++ octets) written

joined : (upper lower : Option ℕ) (written : Option (List ℕ)) (h l : ℕ) → upper ≡ Some h → lower ≡ Some l
    → option_and_then (λ (u : ℕ). option_and_then (λ (w : ℕ). option_and_then (λ (octets : List ℕ). Some ((u * 16 + w) ∷ octets)) written) lower) upper ≡ behind ((h * 16 + l) ∷ []) written
joined None lower written h l e f = absurd cc
joined (Some u) None written h l e f = absurd cc
joined (Some u) (Some w) None h l e f = refl
joined (Some u) (Some w) (Some octets) h l e f =
    let p : u ≡ h = cc in
    let q : w ≡ l = cc in
    rw (p, q) refl

-- the octets of two digits and of those that follow
pub octets_written_pair_then : (high low : ℕ) (digits : List ℕ) (h l : ℕ) → digit_value high ≡ Some h → digit_value low ≡ Some l
    → octets_written (high ∷ low ∷ digits) ≡ behind ((h * 16 + l) ∷ []) (octets_written digits)
octets_written_pair_then high low digits h l e f = joined (digit_value high) (digit_value low) (octets_written digits) h l e f

-- digits that begin with an octet that is none write nothing
pub octets_written_none_first : (high low : ℕ) (digits : List ℕ) → digit_value high ≡ None → octets_written (high ∷ low ∷ digits) ≡ None
octets_written_none_first high low digits e = rw e refl

none_inside : (o : Option ℕ) (f : ℕ → ℕ → Option (List ℕ)) → option_and_then (λ (u : ℕ). option_and_then (λ (w : ℕ). f u w) None) o ≡ None
none_inside None f = refl
none_inside (Some u) f = refl

pub octets_written_none_second : (high low : ℕ) (digits : List ℕ) → digit_value low ≡ None → octets_written (high ∷ low ∷ digits) ≡ None
octets_written_none_second high low digits e = rw e (none_inside (digit_value high) (λ u w. option_and_then (λ (octets : List ℕ). Some ((u * 16 + w) ∷ octets)) (octets_written digits)))

both_none : (o p : Option ℕ) → option_and_then (λ (u : ℕ). option_and_then (λ (w : ℕ). option_and_then (λ (octets : List ℕ). Some ((u * 16 + w) ∷ octets)) None) p) o ≡ None
both_none None p = refl
both_none (Some u) None = refl
both_none (Some u) (Some w) = refl

-- ---- all digits

found : (o : Option ℕ) → (is_some o ≡ true × ((v : ℕ) × (o ≡ Some v))) ⊎ (is_some o ≡ false × (o ≡ None))
found None = inr (refl, refl)
found (Some v) = inl (refl, (v, refl))

either : (octet : ℕ) → (is_digit octet ≡ true × ((v : ℕ) × (digit_value octet ≡ Some v))) ⊎ (is_digit octet ≡ false × (digit_value octet ≡ None))
either octet = found (digit_value octet)

and_false : (b : Bool) → (b && true) ≡ false → b ≡ false
and_false true e = absurd cc
and_false false e = refl

some_behind : (front : List ℕ) (o : Option (List ℕ)) → is_some (behind front o) ≡ is_some o
some_behind front None = refl
some_behind front (Some octets) = refl

-- pairs write octets exactly where each is a digit
pub all_digits : (digits : List ℕ) → length digits % 2 ≡ 0 → is_some (octets_written digits) ≡ list_all is_digit digits
all_digits [] even = refl
all_digits (x ∷ []) even = absurd (omega arith)
all_digits (x ∷ y ∷ rest) even =
    let again = all_digits rest (omega arith) in
    elim (either x) [
      | inr lost ↦ rw (lost.0, octets_written_none_first x y rest lost.1) refl
      | inl found ↦ elim (either y) [
        | inr lost ↦ rw (found.0, lost.0, octets_written_none_second x y rest lost.1) refl
        | inl both ↦ rw (found.0, both.0, octets_written_pair_then x y rest found.1.0 both.1.0 found.1.1 both.1.1, some_behind ((found.1.0 * 16 + both.1.0) ∷ []) (octets_written rest), again) refl
      ]
    ]

-- an odd number of digits writes nothing
pub octets_written_odd_digits : (digits : List ℕ) → length digits % 2 ≢ 0 → octets_written digits ≡ None
octets_written_odd_digits [] odd = absurd (odd refl)
octets_written_odd_digits (x ∷ []) odd = refl
octets_written_odd_digits (x ∷ y ∷ rest) odd = rw (octets_written_odd_digits rest (λ e. odd (omega arith))) (both_none (digit_value x) (digit_value y))

-- octets are half as many as their digits
behind_length : (h : ℕ) (digits : List ℕ) (o : Option (List ℕ)) → IfSome o (λ octets. length digits ≡ 2 * length octets) → IfSome (behind (h ∷ []) o) (λ octets. suc (suc (length digits)) ≡ 2 * length octets)
behind_length h digits None e = tt
behind_length h digits (Some octets) e = omega arith

pub written_length : (digits : List ℕ) → IfSome (octets_written digits) (λ octets. length digits ≡ 2 * length octets)
written_length [] = refl
written_length (x ∷ []) = tt
written_length (x ∷ y ∷ rest) =
    let P : Option (List ℕ) → Type 0 = λ o. IfSome o (λ octets. suc (suc (length rest)) ≡ 2 * length octets) in
    elim (either x) [
      | inr lost ↦ subst P (sym (octets_written_none_first x y rest lost.1)) tt
      | inl found ↦ elim (either y) [
        | inr lost ↦ subst P (sym (octets_written_none_second x y rest lost.1)) tt
        | inl both ↦ subst P (sym (octets_written_pair_then x y rest found.1.0 both.1.0 found.1.1 both.1.1)) (behind_length (found.1.0 * 16 + both.1.0) rest (octets_written rest) (written_length rest))
      ]
    ]

thirty_wrong_length : (digits : List ℕ) (o : Option (List ℕ)) → is_some o ≡ true → length digits ≢ 60 → IfSome o (λ octets. length digits ≡ 2 * length octets) → thirty o ≡ Err Length
thirty_wrong_length digits None some other e = absurd cc
thirty_wrong_length digits (Some octets) some other e =
    let short : eqb (length octets) 30 ≡ false = ne_eqb (length octets) 30 (λ thirty_long. other (omega arith)) in
    rw short refl

-- octets other than thirty are refused for their length
pub thirty_refused_length : (digits : List ℕ) → is_some (octets_written digits) ≡ true → length digits ≢ 60 → thirty (octets_written digits) ≡ Err Length
thirty_refused_length digits some other = thirty_wrong_length digits (octets_written digits) some other (written_length digits)

thirty_none : (o : Option (List ℕ)) → is_some o ≡ false → thirty o ≡ Err Hex
thirty_none None h = refl
thirty_none (Some octets) h = absurd cc

pub thirty_refused_digits : (digits : List ℕ) → is_some (octets_written digits) ≡ false → thirty (octets_written digits) ≡ Err Hex
thirty_refused_digits digits h = thirty_none (octets_written digits) h

pub behind_nothing : (o : Option (List ℕ)) → behind [] o ≡ o
behind_nothing None = refl
behind_nothing (Some octets) = refl

-- ---- some digits before others

behind_then : (h : ℕ) (o written : Option (List ℕ)) → behind (h ∷ []) (option_and_then (λ octets. behind octets written) o) ≡ option_and_then (λ octets. behind octets written) (behind (h ∷ []) o)
behind_then h None written = refl
behind_then h (Some octets) None = refl
behind_then h (Some octets) (Some more) = refl

-- the octets of digits, and of the digits that follow
pub written_both : (digits others : List ℕ) → length digits % 2 ≡ 0 → octets_written (digits ++ others) ≡ option_and_then (λ octets. behind octets (octets_written others)) (octets_written digits)
written_both [] others even = sym (behind_nothing (octets_written others))
written_both (x ∷ []) others even = absurd (omega arith)
written_both (x ∷ y ∷ digits) others even =
    let written = octets_written others in
    elim (either x) [
      | inr lost ↦ octets_written_none_first x y (digits ++ others) lost.1 ∙ sym (ap (option_and_then (λ octets. behind octets written)) (octets_written_none_first x y digits lost.1))
      | inl high ↦ elim (either y) [
        | inr lost ↦ octets_written_none_second x y (digits ++ others) lost.1 ∙ sym (ap (option_and_then (λ octets. behind octets written)) (octets_written_none_second x y digits lost.1))
        | inl low ↦
            let octet = high.1.0 * 16 + low.1.0 in
            octets_written_pair_then x y (digits ++ others) high.1.0 low.1.0 high.1.1 low.1.1
            ∙ ap (behind (octet ∷ [])) (written_both digits others (omega arith))
            ∙ behind_then octet (octets_written digits) written
            ∙ sym (ap (option_and_then (λ octets. behind octets written)) (octets_written_pair_then x y digits high.1.0 low.1.0 high.1.1 low.1.1))
      ]
    ]

behind_all : (front octets : List ℕ) (o : Option (List ℕ)) → behind front (behind octets o) ≡ behind (front ++ octets) o
behind_all front octets None = refl
behind_all front octets (Some more) = ap (λ (l : List ℕ). Some l) (sym (append_assoc front octets more))

behind_pushed_on : (front now : List ℕ) (o written : Option (List ℕ)) → behind front o ≡ Some now → behind front (option_and_then (λ octets. behind octets written) o) ≡ behind now written
behind_pushed_on front now None written e = absurd cc
behind_pushed_on front now (Some octets) written e = let same : front ++ octets ≡ now = cc in behind_all front octets written ∙ ap (λ l. behind l written) same

-- some digits more are read
pub behind-octets_written_pushed : (n : ℕ) (digits before now : List ℕ) (all : Option (List ℕ)) → length (take n digits) % 2 ≡ 0 → behind before (octets_written (take n digits)) ≡ Some now
    → behind before (octets_written digits) ≡ all → behind now (octets_written (drop n digits)) ≡ all
behind-octets_written_pushed n digits before now all even read so_far =
    let both = ap octets_written (sym (take-append-drop n digits)) ∙ written_both (take n digits) (drop n digits) even in
    sym (behind_pushed_on before now (octets_written (take n digits)) (octets_written (drop n digits)) read) ∙ sym (ap (behind before) both) ∙ so_far

lost_in : (o written : Option (List ℕ)) (front : List ℕ) → ok_or o Hex ≡ Err Hex → ok_or (behind front (option_and_then (λ octets. behind octets written) o)) Hex ≡ Err Hex
lost_in None written front e = refl
lost_in (Some octets) written front e = absurd cc

-- some digits that write nothing
pub octets_lost : (n : ℕ) (digits before : List ℕ) (all : Option (List ℕ)) → length (take n digits) % 2 ≡ 0 → ok_or (octets_written (take n digits)) Hex ≡ Err Hex
    → behind before (octets_written digits) ≡ all → ok_or all Hex ≡ Err Hex
octets_lost n digits before all even lost so_far =
    let both = ap octets_written (sym (take-append-drop n digits)) ∙ written_both (take n digits) (drop n digits) even in
    ap (λ o. ok_or o Hex) (sym so_far ∙ ap (behind before) both) ∙ lost_in (octets_written (take n digits)) (octets_written (drop n digits)) before lost

-- digits that are left write nothing
pub rest_lost : (before : List ℕ) (o all : Option (List ℕ)) → behind before o ≡ all → ok_or o Hex ≡ Err Hex → ok_or all Hex ≡ Err Hex
rest_lost before None all so_far lost = ap (λ o. ok_or o Hex) (sym so_far)
rest_lost before (Some octets) all so_far lost = absurd cc

-- ---- at most n octets

some_few : (most : ℕ) (digits : List ℕ) (o : Option (List ℕ)) → length digits ≤ 2 * most → IfSome o (λ octets. length digits ≡ 2 * length octets) → ok_or o Hex ≡ at_most most o
some_few most digits None few half = refl
some_few most digits (Some octets) few half = let fits : leb (length octets) most ≡ true = le-leb (length octets) most (omega (arith, few, half)) in rw fits refl

-- few digits write few octets
pub few_written : (most : ℕ) (digits : List ℕ) → length digits ≤ 2 * most → ok_or (octets_written digits) Hex ≡ at_most most (octets_written digits)
few_written most digits few = some_few most digits (octets_written digits) few (written_length digits)

-- so what was read of them, or refused, is what reading gives
pub Gives_few : (most : ℕ) (digits : List ℕ) (r : Result (List ℕ) LineError) → length digits ≤ 2 * most → IfOk r (λ octets. octets_written digits ≡ Some octets)
    → IfErr r (λ e. Fails e (ok_or (octets_written digits) Hex)) → Gives r (at_most most (octets_written digits))
Gives_few most digits (Ok octets) few read refused = sym (few_written most digits few) ∙ ap (λ o. ok_or o Hex) read
Gives_few most digits (Err e) few read refused = subst (Fails e) (few_written most digits few) refused

at_most_some_many : (most : ℕ) (digits : List ℕ) (o : Option (List ℕ)) → is_some o ≡ true → 2 * most < length digits → IfSome o (λ octets. length digits ≡ 2 * length octets) → at_most most o ≡ Err Length
at_most_some_many most digits None some many half = absurd cc
at_most_some_many most digits (Some octets) some many half = let over : leb (length octets) most ≡ false = grind (arith, nat_tests, many, half) in rw over refl

pub at_most-octets_written_many : (most : ℕ) (digits : List ℕ) → is_some (octets_written digits) ≡ true → 2 * most < length digits → at_most most (octets_written digits) ≡ Err Length
at_most-octets_written_many most digits some many = at_most_some_many most digits (octets_written digits) some many (written_length digits)

none_at_most : (most : ℕ) (o : Option (List ℕ)) → is_some o ≡ false → at_most most o ≡ Err Hex
none_at_most most None h = refl
none_at_most most (Some octets) h = absurd cc

pub at_most-octets_written_none : (most : ℕ) (digits : List ℕ) → is_some (octets_written digits) ≡ false → at_most most (octets_written digits) ≡ Err Hex
at_most-octets_written_none most digits h = none_at_most most (octets_written digits) h

-- what digits write are octets
behind_octets : (h : ℕ) (o : Option (List ℕ)) → h < 256 → IfSome o (λ octets. All (λ v. v < 256) octets) → IfSome (behind (h ∷ []) o) (λ octets. All (λ v. v < 256) octets)
behind_octets h None small e = tt
behind_octets h (Some octets) small e = All-cons (λ v. v < 256) h octets small e

pub are_octets : (digits : List ℕ) → IfSome (octets_written digits) (λ octets. All (λ v. v < 256) octets)
are_octets [] = All-nil (λ v. v < 256)
are_octets (x ∷ []) = tt
are_octets (x ∷ y ∷ rest) =
    let P : Option (List ℕ) → Type 0 = λ o. IfSome o (λ octets. All (λ v. v < 256) octets) in
    elim (either x) [
      | inr lost ↦ subst P (sym (octets_written_none_first x y rest lost.1)) tt
      | inl found ↦ elim (either y) [
        | inr lost ↦ subst P (sym (octets_written_none_second x y rest lost.1)) tt
        | inl both ↦
            let high = digit_small x found.1.0 found.1.1 in
            let low = digit_small y both.1.0 both.1.1 in
            subst P (sym (octets_written_pair_then x y rest found.1.0 both.1.0 found.1.1 both.1.1)) (behind_octets (found.1.0 * 16 + both.1.0) (octets_written rest) (omega (arith, high, low)) (are_octets rest))
      ]
    ]

-- ---- digits, and more behind them

abbrev pub AreValues : List ℕ → List ℕ → Type 0
AreValues values digits = map digit_value digits ≡ map (λ v. Some v) values

-- as many digits as values
pub as_many : (values digits : List ℕ) → AreValues values digits → length digits ≡ length values
as_many values digits same = sym (length-map digits digit_value) ∙ ap length same ∙ length-map values (λ v. Some v)

-- what digits write does not depend on digits behind them
tail_of : (h : ℕ) (o : Option (List ℕ)) (octet : ℕ) (octets : List ℕ) → behind (h ∷ []) o ≡ Some (octet ∷ octets) → (h ≡ octet) × (o ≡ Some octets)
tail_of h None octet octets e = absurd cc
tail_of h (Some rest) octet octets e = (cc, cc)

head_none : (h : ℕ) (o : Option (List ℕ)) → behind (h ∷ []) o ≡ Some [] → ⊥
head_none h None e = cc
head_none h (Some rest) e = cc

octets_written_front_pair : (n x y : ℕ) (digits more octets : List ℕ) (h l : ℕ) → digit_value x ≡ Some h → digit_value y ≡ Some l
    → ((os : List ℕ) → octets_written (digits ++ more) ≡ Some os → octets_written digits ≡ Some (take n os))
    → octets_written (x ∷ y ∷ digits ++ more) ≡ Some octets → octets_written (x ∷ y ∷ digits) ≡ Some (take (suc n) octets)
octets_written_front_pair n x y digits more [] h l e f again w =
    absurd (head_none (h * 16 + l) (octets_written (digits ++ more)) (sym (octets_written_pair_then x y (digits ++ more) h l e f) ∙ w))
octets_written_front_pair n x y digits more (o ∷ os) h l e f again w =
    let parts = tail_of (h * 16 + l) (octets_written (digits ++ more)) o os (sym (octets_written_pair_then x y (digits ++ more) h l e f) ∙ w) in
    octets_written_pair_then x y digits h l e f ∙ rw (parts.0, again os parts.1) refl

pub front_written : (n : ℕ) (digits more octets : List ℕ) → length digits ≡ 2 * n → octets_written (digits ++ more) ≡ Some octets → octets_written digits ≡ Some (take n octets)
front_written zero [] more octets d e = refl
front_written zero (x ∷ digits) more octets d e = absurd (omega arith)
front_written (suc n) [] more octets d e = absurd (omega arith)
front_written (suc n) (x ∷ []) more octets d e = absurd (omega arith)
front_written (suc n) (x ∷ y ∷ digits) more octets d e =
    elim (either x) [
      | inr lost ↦ let none : octets_written (x ∷ y ∷ digits ++ more) ≡ None = octets_written_none_first x y (digits ++ more) lost.1 in absurd cc
      | inl first ↦ elim (either y) [
        | inr lost ↦ let none : octets_written (x ∷ y ∷ digits ++ more) ≡ None = octets_written_none_second x y (digits ++ more) lost.1 in absurd cc
        | inl second ↦ octets_written_front_pair n x y digits more octets first.1.0 second.1.0 first.1.1 second.1.1 (λ os f. front_written n digits more os (omega arith) f) e
      ]
    ]

-- ---- reading them

-- n digits, and more behind them up to thirty-two
abbrev pub widened : List ℕ → List ℕ
widened digits = digits ++ replicate (32 - length digits) 48

zeros_are : (n : ℕ) → list_all is_digit (replicate n 48) ≡ true
zeros_are zero = refl
zeros_are (suc n) = zeros_are n

-- digits behind others don't tell whether these are digits
pub lost_wide : (digits : List ℕ) → length digits % 2 ≡ 0 → list_all is_digit (widened digits) ≡ false → is_some (octets_written digits) ≡ false
lost_wide digits even lost =
    let more = replicate (32 - length digits) 48 in
    let front : (list_all is_digit digits && true) ≡ false = sym (ap (λ b. list_all is_digit digits && b) (zeros_are (32 - length digits))) ∙ sym (list_all-append is_digit digits more) ∙ lost in
    all_digits digits even ∙ and_false (list_all is_digit digits) front

pub is_thirty : (digits octets : List ℕ) (o : Option (List ℕ)) → o ≡ Some octets → length digits ≡ 60 → IfSome o (λ octets. length digits ≡ 2 * length octets) → thirty o ≡ Ok octets
is_thirty digits octets None e sixty half = absurd cc
is_thirty digits octets (Some others) e sixty half =
    let same : others ≡ octets = cc in
    let full : eqb (length others) 30 ≡ true = eq-eqb (length others) 30 (omega arith) in
    rw (full, same) refl

-- digits in pairs that are none
pub hex_lost : (o : Option (List ℕ)) → is_some o ≡ false → ok_or o Hex ≡ Err Hex
hex_lost None h = refl
hex_lost (Some octets) h = absurd cc

-- at most thirty-two digits, which are looked at with zeros behind them: they are lost where those are, and else the beginning of what is read
pub wide_lost : (digits text : List ℕ) → length digits % 2 ≡ 0 → text ≡ widened digits → list_all is_digit text ≡ false → ok_or (octets_written digits) Hex ≡ Err Hex
wide_lost digits text even wide lost = hex_lost (octets_written digits) (lost_wide digits even (ap (λ ds. list_all is_digit ds) (sym wide) ∙ lost))

pub wide_written : (digits text read : List ℕ) → length digits % 2 ≡ 0 → text ≡ widened digits → octets_written text ≡ Some read → octets_written digits ≡ Some (take (length digits / 2) read)
wide_written digits text read even wide all = front_written (length digits / 2) digits (replicate (32 - length digits) 48) read (omega (arith, even)) (ap octets_written (sym wide) ∙ all)

-- a fault of some digits is one of all
pub fails_lost : (e : LineError) (o all : Option (List ℕ)) → (ok_or o Hex ≡ Err Hex → ok_or all Hex ≡ Err Hex) → Fails e (ok_or o Hex) → Fails e (ok_or all Hex)
fails_lost Memory o all lost fails = tt
fails_lost (Refused why) None all lost fails = lost refl ∙ fails
fails_lost (Refused why) (Some octets) all lost fails = absurd cc

-- ---- whether an octet is a digit

abbrev by_ranges : ℕ → Bool
by_ranges octet = ltb ((octet + 208) % 256) 10 || ltb ((bit_or octet 32 + 159) % 256) 6

-- an octet that is no decimal digit is one where it's a letter of either case
pub letter_digit : (octet : ℕ) → octet < 256 → ltb ((octet + 208) % 256) 10 ≡ false → ltb ((bit_or octet 32 + 159) % 256) 6 ≡ is_digit octet
letter_digit octet small none =
    let same : by_ranges octet ≡ is_digit octet = agree_below_at by_ranges is_digit 256 octet refl small in
    rw none at same
