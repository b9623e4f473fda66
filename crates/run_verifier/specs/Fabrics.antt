-- The fabric that a command requests, a strict one or the other. Source: this project.
use Rattle.std.specs.Prelude.{ℕ, Bool, true, false}
use Rattle.fabric_map.specs.Map.{max_moves}
use Rattle.strict_map.specs.Strict.{max_moves as max_strict_moves}

-- the number of internal slots of a strict fabric, and of the other
abbrev pub slots_of : Bool → ℕ
slots_of true = 59
slots_of false = 30

-- the maximum number of live paths that a new path moves on a fabric of n lines
abbrev pub moves_of : Bool → ℕ → ℕ
moves_of true = max_strict_moves
moves_of false = max_moves
