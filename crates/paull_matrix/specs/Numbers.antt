-- The numbers below a bound that pass a test: the lowest, and the number of them.
use Rattle.std.specs.Prelude.{ℕ, Bool, Option, find, count_by}
use Rattle.std.specs.List.{range_with_len}

-- the lowest number below the bound that passes, if one does
abbrev pub lowest : (ℕ → Bool) → ℕ → Option ℕ
lowest passes bound = find passes (range_with_len 0 bound)

-- the number of numbers below the bound that pass
abbrev pub count_below : (ℕ → Bool) → ℕ → ℕ
count_below passes bound = count_by passes (range_with_len 0 bound)
