-- The conference ports of an engine: the member that the bridge finds in each, and the octet that each gets. Source:
-- this project.
use Rattle.std.specs.Prelude.{◌≡◌, ℕ, ◌*◌, ◌<◌, List, Option, Some, None, map, if◌then◌else◌}
use Rattle.std.specs.List.{range_with_len}
use Rattle.circuit_model.specs.declared.channel.Slot.{Slot}
use Rattle.circuit_model.specs.Ports.{port_numbered}
use Rattle.circuit_model.specs.Hears.{is_through}
use Rattle.frame_buffer.specs.Speech.{octet_in_half}
use Rattle.control_memory.specs.Image.{Control, room_at}
use Rattle.conference_mix.specs.declared.mixer.RoomMember.{RoomMember}
use Rattle.conference_mix.specs.Rooms.{given_at}

-- the octet that was read out for a member counts in frame f once the member has had its port for two frames
abbrev pub octet_that_counts : ℕ → ℕ → ℕ → Option ℕ
octet_that_counts f octet since = if is_through since f then Some octet else None

-- the member of a port, by its room and its first frame there
abbrev pub seated_by : ℕ → ℕ → Option (ℕ × ℕ) → Option RoomMember
seated_by f octet None = None
seated_by f octet (Some seat) = Some (record { room = seat.0; octet = octet_that_counts f octet seat.1 })

-- the member of the port with a number, given the octets that were read out
abbrev pub member_in : Control → (Slot → ℕ) → ℕ → Option RoomMember
member_in m octet k = seated_by m.frame (octet (port_numbered m.external k)) (room_at m (port_numbered m.external k))

-- the members in all ports
abbrev pub members_in_ports : Control → (Slot → ℕ) → List (Option RoomMember)
members_in_ports m octet = map (member_in m octet) (range_with_len 0 (30 * m.bridges))

-- the octet that a port gets: its member's room without the member, mixed, or the idle octet if it has no member
abbrev pub given_to : Control → (Slot → ℕ) → ℕ → ℕ
given_to m octet k = given_at k (members_in_ports m octet)

-- each port has, in the half that is filled, the octet that it gets
abbrev pub ArePortsFilled : Control → (Slot → ℕ) → List ℕ → Type 0
ArePortsFilled m octet filled = (k : ℕ) → k < 30 * m.bridges → octet_in_half filled (port_numbered m.external k) ≡ given_to m octet k
