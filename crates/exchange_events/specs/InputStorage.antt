-- The storage of a frame's input. Source: this project.
use Rattle.std.specs.Prelude.{ℕ, List, Option, None, replicate}
use Rattle.exchange_events.specs.declared.input.InputStorage.{InputStorage}
use Rattle.exchange_events.specs.declared.input.InputStorage.TheVariants.{Idle, Rows}

-- the octets of each line, in either storage
abbrev pub rows_in : InputStorage → List (Option (List ℕ))
rows_in (Idle lines) = replicate lines None
rows_in (Rows rows) = rows.items
