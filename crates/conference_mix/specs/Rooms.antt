-- The octets that a conference bridge sends the members of many rooms at once. Source: this project.
use Rattle.std.specs.Prelude.{ℕ, ◌==◌, ℤ, List, Option, Some, None, map, slice_index_or, if◌then◌else◌}
use Rattle.circuit_model.specs.FrameInput.{idle_octet}
use Rattle.circuit_model.specs.Hears.{sum_of_values}
use Rattle.conference_mix.specs.declared.mixer.RoomMember.{RoomMember}
use Rattle.conference_mix.specs.Bridge.{present_octets, mixed_for}

-- the octet of a place that counts in a room, if its member is in that room
abbrev pub counted_in : ℕ → Option RoomMember → Option ℕ
counted_in room None = None
counted_in room (Some member) = if member.room == room then member.octet else None

-- a room, place by place
abbrev pub room_row : ℕ → List (Option RoomMember) → List (Option ℕ)
room_row room places = map (counted_in room) places

-- the sum of the values of all members of a room
abbrev pub room_total : ℕ → List (Option RoomMember) → ℤ
room_total room places = sum_of_values (present_octets (room_row room places))

-- the octet of a place: the mix of the others in the room of its member, or the idle octet if it has no member
abbrev pub given_to_member : List (Option RoomMember) → ℕ → Option RoomMember → ℕ
given_to_member places k None = idle_octet
given_to_member places k (Some member) = mixed_for k (room_row member.room places)

abbrev pub given_at : ℕ → List (Option RoomMember) → ℕ
given_at k places = given_to_member places k (slice_index_or places k None)
