-- A delay line of two frames. Source: this project.
use Rattle.std.specs.Prelude.{◌≡◌, ℕ, ◌-◌, ◌<◌, List, length, nat_le, [], slice_index_or, if◌then◌else◌}
use Rattle.circuit_model.specs.declared.channel.Slot.{Slot}
use Rattle.circuit_model.specs.FrameInput.{Input, idle_octet, arrives}

-- the octets of two frames, each a row of 30 for every external line: the last frame that was pushed, and the one
-- before it
pub record Delay : Type 0 where
  pub external : ℕ
  pub latest : List (List ℕ)
  pub earlier : List (List ℕ)

-- the octet that arrived on a slot n frames before the next one; idle if there is no such frame
abbrev pub octet_back : ℕ → List Input → Slot → ℕ
octet_back frames inputs at = if nat_le frames (length inputs) then arrives inputs (length inputs - frames) at else idle_octet

-- the octet at a place of a line's row
abbrev pub octet_of_row : List (List ℕ) → ℕ → ℕ → ℕ
octet_of_row rows line place = slice_index_or (slice_index_or rows line []) place idle_octet

-- the rows of the external lines hold the octets that arrived n frames before the next one
abbrev pub HoldsArrivals : ℕ → List (List ℕ) → ℕ → List Input → Type 0
HoldsArrivals external rows frames inputs = (at : Slot) → at.line < external → at.place < 30 → octet_of_row rows at.line at.place ≡ octet_back frames inputs at

-- the delay line has received these frames: it holds the last two of them, idle if there are fewer
pub record Carries (delay : Delay) (inputs : List Input) : Type 0 where
  pub latest : HoldsArrivals delay.external delay.latest 1 inputs
  pub earlier : HoldsArrivals delay.external delay.earlier 2 inputs
