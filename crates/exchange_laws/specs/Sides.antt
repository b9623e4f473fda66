-- The two sides of an interface: their frames differ in the C/R bit only (ITU-T Q.921 (09/97), 3.3.2).
use Rattle.std.specs.Prelude.{ℕ, ◌==◌, List, [], ◌∷◌, if◌then◌else◌}

-- the other C/R bit, in the first octet of an address with SAPI 0
abbrev pub other_side : ℕ → ℕ
other_side octet = if octet == 0x00 then 0x02 else if octet == 0x02 then 0x00 else octet

-- the octets of a frame of the network, as the user sends them
abbrev pub as_user : List ℕ → List ℕ
as_user [] = []
as_user (address ∷ rest) = other_side address ∷ rest
