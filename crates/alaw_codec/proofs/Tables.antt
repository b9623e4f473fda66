-- What the table and the arithmetic of the code compute, compared with the definitions at every entry.
use Rattle.std.proofs.Common.{◌≡◌, ℕ, ◌+◌, ◌-◌, ◌*◌, ◌/◌, ◌^◌, ◌<◌, ◌≤◌, bit_or, nat_abs, Bool, true, ◌&&◌, nat_eq, nat_lt, nat_le, List, get_or, map, ℤ, pos, refl, sym, ap, ◌∙◌, arith}
use Rattle.std.specs.Int.{leading_zeros, w16, w32}
use Rattle.std.specs.List.{range_with_len}
use Rattle.std.proofs.lemmas.Bool.{agree_below, agree_below_at, eqb-true, leb-true}
use Rattle.std.proofs.lemmas.Bool.Decides.{nat_tests}
use Rattle.std.proofs.lemmas.List.FromFn.{get_or-map-range_with_len}
use Rattle.std.proofs.Math.ListN.{get_or-map}
use mir.Val.{to_z, of_z}
use lib.Count.{count_leading_zeros}
use Rattle.circuit_model.specs.ALaw.{decision_values, interval_of, expand, compress}
use Rattle.alaw_codec.specs.declared.TheConstants.{VALUES}

-- ---- the table of values

-- an entry as the code hands it on: read as sixteen bits, returned as thirty-two
abbrev pub widened : ℤ → ℤ
widened z = to_z w32 (of_z w32 (to_z w16 (of_z w16 z)))

values_are : map widened VALUES ≡ map expand (range_with_len 0 256)
unfolding decision_values
values_are = refl

widened_entry : (table : List ℤ) (octet : ℕ) → map widened table ≡ map expand (range_with_len 0 256) → octet < 256 → widened (get_or table octet (pos 0)) ≡ expand octet
widened_entry table octet same h =
    sym (get_or-map widened table octet (pos 0))
    ∙ ap (λ (values : List ℤ). get_or values octet (pos 0)) same
    ∙ get_or-map-range_with_len expand 0 256 octet octet (pos 0) h (omega arith)

pub widened_value_at : (octet : ℕ) → octet < 256 → widened (get_or VALUES octet (pos 0)) ≡ expand octet
widened_value_at octet h = widened_entry VALUES octet values_are h

within_test : ℕ → Bool
within_test octet = nat_le (nat_abs (expand octet)) 4032

every_size : agree_below within_test (λ octet. true) 256 ≡ true
unfolding within_test decision_values
every_size = refl

pub expand_within : (octet : ℕ) → octet < 256 → nat_abs (expand octet) ≤ 4032
unfolding within_test
expand_within octet h = leb-true _ _ (agree_below_at within_test (λ octet. true) 256 octet every_size h)

-- ---- the interval from the leading bit

-- the number of the segment, counted from 1, that the leading bit of x names
abbrev segment_of : ℕ → ℕ
segment_of x = 27 - leading_zeros w32 x

abbrev number_of : ℕ → ℕ → ℕ
number_of x m = 16 * (segment_of x - 1) + m / 2 ^ segment_of x

-- what the code computes of m, where x has the leading bit: it fits, and it is m's interval
pub record IsNumbered (x m : ℕ) : Type 0 where
  pub leading : leading_zeros w32 x ≤ 27
  pub segment : 1 ≤ segment_of x
  pub below : number_of x m < 128
  pub number : number_of x m ≡ interval_of m

numbered_test : ℕ → Bool
numbered_test m =
    let x = bit_or m 32 in
    nat_le (leading_zeros w32 x) 27 && nat_le 1 (segment_of x) && nat_lt (number_of x m) 128 && nat_eq (number_of x m) (interval_of m)

every_magnitude : agree_below numbered_test (λ m. true) 4096 ≡ true
unfolding numbered_test decision_values count_leading_zeros
every_magnitude = refl

facts : (m : ℕ) → numbered_test m ≡ true → IsNumbered (bit_or m 32) m
unfolding numbered_test
facts m h = record { leading = grind (arith, nat_tests); segment = grind (arith, nat_tests); below = grind (arith, nat_tests); number = grind (arith, nat_tests) }

pub numbered : (m : ℕ) → m < 4096 → IsNumbered (bit_or m 32) m
numbered m h = facts m (agree_below_at numbered_test (λ m. true) 4096 m every_magnitude h)

-- ---- the round trip

round_trip_test : ℕ → Bool
round_trip_test octet = nat_eq (compress (expand octet)) octet

every_octet : agree_below round_trip_test (λ octet. true) 256 ≡ true
unfolding round_trip_test decision_values
every_octet = refl

pub compress_round_trip : (octet : ℕ) → octet < 256 → compress (expand octet) ≡ octet
unfolding round_trip_test
compress_round_trip octet h = eqb-true _ _ (agree_below_at round_trip_test (λ octet. true) 256 octet every_octet h)
