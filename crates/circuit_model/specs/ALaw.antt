-- The A-law code. Source: ITU-T G.711 (11/88), table 1a/G.711: decision values, quantized values, character signals,
-- and note 2 on the inversion of the even bits.
use Rattle.std.specs.Prelude.{ℕ, ℤ, pos, neg_ℤ, nat_abs, int_le, ◌+◌, ◌/◌, ◌%◌, min, Bool, List, [], ◌∷◌, ◌++◌, replicate, slice_index, nat_lt, nat_le, drop, bit_xor, if◌then◌else◌}
use Rattle.std.specs.List.{position_or_len}

-- the widths of the intervals, from the lowest on: 32 of width 2, and then 16 of each doubled width
abbrev pub widths : List ℕ
widths = replicate 32 2 ++ replicate 16 4 ++ replicate 16 8 ++ replicate 16 16 ++ replicate 16 32 ++ replicate 16 64 ++ replicate 16 128

-- a number, and then its running sums with each of the others
abbrev pub running_sums : ℕ → List ℕ → List ℕ
running_sums x [] = x ∷ []
running_sums x (d ∷ ds) = x ∷ running_sums (x + d) ds

-- the 129 decision values, from 0 to 4096
unfoldable pub decision_values : List ℕ
decision_values = running_sums 0 widths

-- the interval that holds a magnitude below 4096, its lower end included: the first whose upper end lies above
abbrev pub interval_of : ℕ → ℕ
interval_of magnitude = position_or_len (λ upper. nat_lt magnitude upper) (drop 1 decision_values)

-- the middle of an interval
abbrev pub middle : ℕ → ℕ
middle k = (slice_index decision_values k + slice_index decision_values (k + 1)) / 2

-- a character: the sign in its first bit, 1 for positive, and below it the number of the interval; the octet on the
-- line is the character with its even bits inverted
abbrev pub octet_of_interval : Bool → ℕ → ℕ
octet_of_interval positive interval = bit_xor (interval + (if positive then 128 else 0)) 0x55

abbrev pub character_of : ℕ → ℕ
character_of octet = bit_xor octet 0x55

-- the value of an octet: the middle of its interval, with its sign
abbrev pub expand : ℕ → ℤ
expand octet =
    let size = middle (character_of octet % 128) in
    if nat_le 128 (character_of octet) then pos size else neg_ℤ (pos size)

-- the octet of a value: its sign, 0 being positive, and the interval of its magnitude, or the highest one if the
-- magnitude is beyond all intervals
abbrev pub compress : ℤ → ℕ
compress value = octet_of_interval (int_le (pos 0) value) (interval_of (min (nat_abs value) 4095))
