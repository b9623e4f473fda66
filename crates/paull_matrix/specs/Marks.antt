-- A word for each line, with the bit of a slot set if and only if a path of the line is in the slot.
use Rattle.std.specs.Prelude.{◌≡◌, ℕ, ◌^◌, ◌<◌, Bool, Option, Some, None, List, length, get_or, set, nat_eq, bit_or, bit_and}
use Rattle.std.specs.Int.{bit_at, bit_not, w64}

-- the bit for the entry of a line in a slot
abbrev pub mark : Option ℕ → ℕ
mark None = 0
mark (Some _) = 1

-- whether the bit of a slot is clear in a word
abbrev pub lacks : ℕ → ℕ → Bool
lacks word s = nat_eq (bit_at word s) 0

-- the words with the bit of a line and a slot set, and with it cleared
abbrev pub marked : List ℕ → ℕ → ℕ → List ℕ
marked words line s = set words line (bit_or (get_or words line 0) (2 ^ s))

abbrev pub unmarked : List ℕ → ℕ → ℕ → List ℕ
unmarked words line s = set words line (bit_and (get_or words line 0) (bit_not w64 (2 ^ s)))

-- whether the words mark the entries of the lines in the slots
pub record IsMarked (lines slots : ℕ) (words : List ℕ) (look : ℕ → ℕ → Option ℕ) : Type 0 where
  pub each_line : length words ≡ lines
  pub each_slot : (line s : ℕ) → line < lines → s < slots → bit_at (get_or words line 0) s ≡ mark (look line s)
