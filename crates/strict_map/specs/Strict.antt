-- A strict-sense non-blocking fabric. Source: C. Clos, "A study of non-blocking switching networks", Bell System
-- Technical Journal 32 (1953): if two lines of n places have at most n-1 other paths each, one of 2n-1 internal slots
-- is always free in both.
use Rattle.std.specs.Prelude.{◌≡◌, ℕ, ◌<◌}
use Rattle.circuit_model.specs.declared.channel.Slot.{Slot}
use Rattle.control_memory.specs.Layout.{Legal}
use Rattle.control_memory.specs.Connecting.{connect, with_path, moved}
use Rattle.control_memory.specs.Paths.{Fabric}

-- the maximum number of live paths that a new path moves, on n lines
abbrev pub max_moves : ℕ → ℕ
max_moves lines = 0

-- a legal layout on 59 internal slots
pub record Strict (f : Fabric) : Type 0 where
  pub slots : f.slots ≡ 59
  pub legal : Legal f.lines f.slots f.layout

-- a new path moves no other
abbrev pub MovesNothing : Fabric → Slot → Slot → Type 0
MovesNothing f from to = moved f.layout (connect f.lines f.slots f.layout from to) ≡ 0

-- a new path joins the layout in a slot of the fabric, and nothing else changes
abbrev pub GetsASlot : Fabric → Slot → Slot → Type 0
GetsASlot f from to = (slot : ℕ) × (slot < f.slots) × (connect f.lines f.slots f.layout from to ≡ with_path f.layout from to slot)
