-- The octet that a conference bridge sends each member. Source: this project; the sum is a linear bridge's, coded once.
use Rattle.std.specs.Prelude.{ℕ, ℤ, pos, List, Option, Some, None, filter_map, remove}
use Rattle.circuit_model.specs.ALaw.{expand, compress}
use Rattle.circuit_model.specs.Hears.{sum_of_values}

-- the maximum number of members that a bridge mixes: the bearer channels of two bridge lines
abbrev pub max_members : ℕ
max_members = 60

-- the octets that are present, in the order of their places
abbrev pub present_octets : List (Option ℕ) → List ℕ
present_octets members = filter_map (λ octet. octet) members

-- the octets at all places except k, which the bridge adds up for the member at place k
abbrev pub others : ℕ → List (Option ℕ) → List ℕ
others k members = present_octets (remove members k)

-- the octet of the member at place k: the sum of the values of the others, coded once
abbrev pub mixed_for : ℕ → List (Option ℕ) → ℕ
mixed_for k members = compress (sum_of_values (others k members))

-- the summand of a place: the value of its octet, or nothing if it has none
abbrev pub value_of : Option ℕ → ℤ
value_of (Some octet) = expand octet
value_of None = pos 0
