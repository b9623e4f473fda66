-- The octets that a wire over a source and a sink has read and written. Source: this project.
use Rattle.std.specs.Prelude.{ℕ, List, Option}
use Rattle.std.specs.Io.KnownBytes.{Appends, Consumes}

-- these octets left the source, and these were added to the sink, if both expose theirs: the octets of the source then
-- and now, and the octets of the sink then and now
abbrev pub HasPassed : (given left had written : Option (List ℕ)) → (heard said : List ℕ) → Type 0
HasPassed given left had written heard said = Consumes given left heard × Appends had written said
