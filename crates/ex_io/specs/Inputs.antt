-- The input of a call, which is read to its end or up to a limit. Source: this project.
use Rattle.std.specs.Prelude.{ℕ, List, length, ◌+◌, ◌≤◌}
use Rattle.std.specs.Io.KnownBytes.{Consumes, IsAtEnd}
use Rattle.std.specs.declared.option.Option.{Option}

-- the maximum number of bytes that are read from an input with this limit: one piece of 65,536 more
abbrev pub max_bytes_read : ℕ → ℕ
max_bytes_read limit = limit + 65536

-- these bytes are all that were left, and they were read
pub record IsWholeInput (old new : Option (List ℕ)) (bytes : List ℕ) : Type 0 where
  pub front : Consumes old new bytes
  pub ended : IsAtEnd new

-- these bytes were read: all that were left, or more than the limit, by one piece at most
pub record IsInputWithin (limit : ℕ) (old new : Option (List ℕ)) (bytes : List ℕ) : Type 0 where
  pub front : Consumes old new bytes
  pub whole : length bytes ≤ limit → IsAtEnd new
  pub few : length bytes ≤ max_bytes_read limit
