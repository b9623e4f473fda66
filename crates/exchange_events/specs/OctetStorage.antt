-- The storage of a message's octets. Source: this project.
use Rattle.std.specs.Prelude.{ℕ, List}
use Rattle.exchange_events.specs.declared.octets.OctetStorage.{OctetStorage}
use Rattle.exchange_events.specs.declared.octets.OctetStorage.TheVariants.{Inline, Heap}

-- the octets, in either storage
abbrev pub octets_in : OctetStorage → List ℕ
octets_in (Inline octets) = octets.items
octets_in (Heap octets) = octets.items
