-- The numbers of the command line. Source: this project.
use Rattle.std.specs.Prelude.{ℕ, ◌+◌, ◌-◌, ◌*◌, Bool, ◌&&◌, ◌||◌, not, ◌==◌, nat_le, List, length, fold, slice_index, Option, Some, None, option_and_then, if◌then◌else◌}
use Rattle.std.specs.List.{list_all}
use Rattle.std.specs.Char.{is_ascii_digit}

-- the second step, if the first one succeeded
infixl 10 ◌>>=◌
abbrev pub ◌>>=◌ : {A B : Type 0} → Option A → (A → Option B) → Option B
found >>= step = option_and_then step found

-- one to ten decimal digits, without a leading 0 unless it is the only digit
abbrev pub is_numeral : List ℕ → Bool
is_numeral text = nat_le 1 (length text) && nat_le (length text) 10 && list_all is_ascii_digit text && (length text == 1 || not (slice_index text 0 == 48))

-- the number that decimal digits write, the most significant first
abbrev pub decimal_value : List ℕ → ℕ
decimal_value digits = fold (λ number digit. number * 10 + (digit - 48)) 0 digits

-- the number of a text, if it is a decimal number
abbrev pub numeral : List ℕ → Option ℕ
numeral text = if is_numeral text then Some (decimal_value text) else None

-- the number of a text, if it is a decimal number from `low` to `high`
abbrev pub numeral_in : ℕ → ℕ → List ℕ → Option ℕ
numeral_in low high text = do
  number ← numeral text
  if nat_le low number && nat_le number high then Some number else None
