-- The octets on the highways of a time-space-time exchange: one for each line and internal time slot of a frame.
-- Source: this project; the terms are from C. Clos, "A study of non-blocking switching networks" (1953), carried over
-- to time slots.
use Rattle.std.specs.Prelude.{◌≡◌, ℕ, ◌+◌, ◌-◌, ◌*◌, ◌<◌, ◌≤◌, List, ◌++◌, length, take, drop, slice_index}

-- the octets, line after line, one for each internal slot
pub record Highways : Type 0 where
  pub lines : ℕ
  pub slots : ℕ
  pub octets : List ℕ

-- the octet of a line in an internal slot
abbrev pub octet_on : Highways → ℕ → ℕ → ℕ
octet_on h line slot = slice_index h.octets (line * h.slots + slot)

-- the same number of lines, and of internal slots
pub record SameHighwaySize (a b : Highways) : Type 0 where
  pub lines : a.lines ≡ b.lines
  pub slots : a.slots ≡ b.slots

-- the highways with these octets written over their first ones
abbrev pub highways_with : Highways → List ℕ → Highways
highways_with h ws = record { lines = h.lines; slots = h.slots; octets = take (length h.octets) (ws ++ drop (length ws) h.octets) }

-- these octets are the whole rows of some lines, from line `first` on, out of n lines with rows of m octets
pub record IsPart (lines width first octets : ℕ) : Type 0 where
  pub rows : ℕ
  pub whole : octets ≡ rows * width
  pub within : first + rows ≤ lines

-- each row of such a part holds these octets of its line
abbrev pub RowsHold : ℕ → (ℕ → ℕ → ℕ) → ℕ → List ℕ → Type 0
RowsHold width octet first part = (row at : ℕ) → row * width < length part → at < width → slice_index part (row * width + at) ≡ octet (first + row) at

-- these octets are the whole rows of the lines from `first` up to `end`, out of n lines with rows of m octets
pub record AreRows (lines width first end octets : ℕ) : Type 0 where
  pub whole : octets ≡ (end - first) * width
  pub order : first ≤ end
  pub within : end ≤ lines

-- there are n octets, and each row of them holds these octets of its line
pub record AreFilled (width : ℕ) (octet : ℕ → ℕ → ℕ) (first octets : ℕ) (part : List ℕ) : Type 0 where
  pub size : length part ≡ octets
  pub rows : RowsHold width octet first part
