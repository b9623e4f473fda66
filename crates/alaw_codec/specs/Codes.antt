-- The table of all codes. Source: this project; the codes are from ITU-T G.711 (11/88), table 1a.
use Rattle.std.specs.Prelude.{◌≡◌, ℕ, ◌<◌, pos, ◌-ℤ◌, List, length, slice_index}
use Rattle.circuit_model.specs.ALaw.{compress}

-- the octet of each value from -4095 to 4095, in order
pub record HoldsCodes (octets : List ℕ) : Type 0 where
  pub size : length octets ≡ 8191
  pub codes : (index : ℕ) → index < 8191 → slice_index octets index ≡ compress (pos index -ℤ pos 4095)
