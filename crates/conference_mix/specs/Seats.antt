-- The state of a bridge's ports during mixing. Source: this project.
use Rattle.std.specs.Prelude.{◌≡◌, ℕ, ◌<◌, ◌≤◌, nat_lt, ℤ, pos, nat_abs, List, Option, Some, None, map, slice_index_or, if◌then◌else◌}
use Rattle.std.specs.List.{range_with_len}
use Rattle.circuit_model.specs.ALaw.{compress}
use Rattle.conference_mix.specs.declared.mixer.RoomMember.{RoomMember}
use Rattle.conference_mix.specs.Bridge.{max_members, value_of}
use Rattle.conference_mix.specs.Rooms.{room_total}

-- the octet of a value, and none for the value 0, which no octet has
abbrev pub octet_kept : ℤ → Option ℕ
octet_kept own = if nat_lt 0 (nat_abs own) then Some (compress own) else None

-- the member of a port; free ports are in the room after all others
abbrev pub seat_kept : ℕ → ℤ → Option RoomMember
seat_kept room own = if nat_lt room 256 then Some (record { room = room; octet = octet_kept own }) else None

abbrev pub seat_at : List ℕ → List ℤ → ℕ → Option RoomMember
seat_at rooms own k = seat_kept (slice_index_or rooms k 256) (slice_index_or own k (pos 0))

abbrev pub seats_kept : ℕ → List ℕ → List ℤ → List (Option RoomMember)
seats_kept ports rooms own = map (seat_at rooms own) (range_with_len 0 ports)

-- the summand of a place in the total of its room
abbrev pub value_in : Option RoomMember → ℤ
value_in None = pos 0
value_in (Some seated) = value_of seated.octet

-- each port has its room and its summand, and each room its total; nothing is added to the room of the free ports
pub record IsKept (ports : ℕ) (totals : List ℤ) (rooms : List ℕ) (own : List ℤ) : Type 0 where
  pub few : ports ≤ max_members
  pub near : (k : ℕ) → k < ports → slice_index_or rooms k 256 ≤ 256
  pub adds : (k : ℕ) → k < ports → slice_index_or own k (pos 0) ≡ value_in (seat_at rooms own k)
  pub small : (k : ℕ) → k < ports → nat_abs (slice_index_or own k (pos 0)) ≤ 4032
  pub sums : (room : ℕ) → room < 256 → slice_index_or totals room (pos 0) ≡ room_total room (seats_kept ports rooms own)
  pub none : slice_index_or totals 256 (pos 0) ≡ pos 0
