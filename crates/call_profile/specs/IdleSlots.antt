-- The idle slots of an exchange state. Source: this project.
use Rattle.std.specs.Prelude.{ℕ, ◌&&◌, not, Bool, is_none, List, [], ◌∷◌, Option, None, find, if◌then◌else◌}
use Rattle.std.specs.Option.{option_or}
use Rattle.circuit_model.specs.declared.channel.Slot.{Slot}
use Rattle.circuit_model.specs.Circuits.{is_idle, same_slot}
use Rattle.call_profile.specs.Legs.{leg_at, is_down, slots_of}
use Rattle.call_profile.specs.World.{World}

-- no circuit uses the slot, and no leg holds it
abbrev pub idle : World → Slot → Bool
idle w x = is_idle w.holding.circuits x && is_none (leg_at w.legs x)

-- a circuit uses the slot, and no leg holds it
abbrev pub is_nailed : World → Slot → Bool
is_nailed w x = not (is_idle w.holding.circuits x) && is_none (leg_at w.legs x)

-- the lowest idle slot of a line, and the lowest one other than a given slot
abbrev pub lowest_idle : World → ℕ → Option Slot
lowest_idle w line = find (idle w) (slots_of line)

abbrev pub lowest_idle_beside : World → Slot → ℕ → Option Slot
lowest_idle_beside w x line = find (λ y. idle w y && not (same_slot x y)) (slots_of line)

-- the same for a called line; none if its data link is down
abbrev pub lowest_called : World → Slot → ℕ → Option Slot
lowest_called w x line = if is_down w.legs line then None else lowest_idle_beside w x line

-- line hunting: the lowest idle slot, other than a given slot, of the first of these lines that has one
abbrev pub hunted : World → Slot → List ℕ → Option Slot
hunted w x [] = None
hunted w x (line ∷ lines) = option_or (lowest_called w x line) (hunted w x lines)
