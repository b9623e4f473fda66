-- The members in the ports as the bridge takes them: a room's row, and what each port is given.
use Rattle.std.proofs.Common.{◌≡◌, ℕ, ◌*◌, ◌<◌, List, [], ◌∷◌, length, map, get_or, Option, Some, None, refl, ap, ◌∙◌, arith}
use Rattle.std.specs.List.{range_with_len}
use Rattle.std.proofs.lemmas.List.{length-map}
use Rattle.std.proofs.lemmas.List.FromFn.{get_or-map-range_with_len, fill_by_all, length-range_with_len}
use Rattle.circuit_model.specs.declared.channel.Slot.{Slot}
use Rattle.circuit_model.specs.FrameInput.{idle_octet}
use Rattle.circuit_model.specs.Ports.{port_numbered}
use Rattle.control_memory.specs.Image.{Control, room_at}
use Rattle.conference_mix.specs.declared.mixer.RoomMember.{RoomMember}
use Rattle.conference_mix.specs.Bridge.{mixed_for}
use Rattle.conference_mix.specs.Rooms.{counted_in, room_row, given_to_member}
use Rattle.frame_engine.proofs.MemberPorts.{room_at-port_numbered}
use Rattle.frame_engine.specs.Ports.{seated_by, member_in, members_in_ports, given_to}

-- what the member in a port adds to a room
abbrev pub added : ℕ → ℕ → ℕ → Option (ℕ × ℕ) → Option ℕ
added f room octet seat = counted_in room (seated_by f octet seat)

abbrev pub added_at : Control → (Slot → ℕ) → ℕ → ℕ → Option ℕ
added_at m octet room k = added m.frame room (octet (port_numbered m.external k)) (room_at m (port_numbered m.external k))

-- all that is added to a room, port by port
abbrev pub row_of : Control → (Slot → ℕ) → ℕ → List (Option ℕ)
row_of m octet room = room_row room (members_in_ports m octet)

-- what a port is given, by who sits there
abbrev pub mixed_to : Control → (Slot → ℕ) → ℕ → Option (ℕ × ℕ) → ℕ
mixed_to m octet k None = idle_octet
mixed_to m octet k (Some seat) = mixed_for k (row_of m octet seat.0)

map-map : {X Y Z : Type 0} (g : Y → Z) (f : X → Y) (xs : List X) → map g (map f xs) ≡ map (λ x. g (f x)) xs
map-map g f [] = refl
map-map g f (x ∷ xs) = ap (λ rest. g (f x) ∷ rest) (map-map g f xs)

pub row_of-ports : (m : Control) (octet : Slot → ℕ) (room : ℕ) → row_of m octet room ≡ map (added_at m octet room) (range_with_len 0 (30 * m.bridges))
row_of-ports m octet room = map-map (counted_in room) (member_in m octet) (range_with_len 0 (30 * m.bridges))

by_seat : (m : Control) (octet : Slot → ℕ) (k sent : ℕ) (seat : Option (ℕ × ℕ)) → given_to_member (members_in_ports m octet) k (seated_by m.frame sent seat) ≡ mixed_to m octet k seat
by_seat m octet k sent None = refl
by_seat m octet k sent (Some seat) = refl

pub given_to-seat : (m : Control) (octet : Slot → ℕ) (k : ℕ) → k < 30 * m.bridges → given_to m octet k ≡ mixed_to m octet k (room_at m (port_numbered m.external k))
given_to-seat m octet k low =
    ap (given_to_member (members_in_ports m octet) k) (get_or-map-range_with_len (member_in m octet) 0 (30 * m.bridges) k k None low (omega arith))
    ∙ by_seat m octet k (octet (port_numbered m.external k)) (room_at m (port_numbered m.external k))

-- a port without a member gets the idle octet
pub given_to-vacant : (m : Control) (octet : Slot → ℕ) (k : ℕ) → k < 30 * m.bridges → get_or m.rooms k None ≡ None → given_to m octet k ≡ idle_octet
given_to-vacant m octet k low none = given_to-seat m octet k low ∙ ap (mixed_to m octet k) (room_at-port_numbered m k ∙ none)

-- there is a place for each port
pub members-length : (m : Control) (octet : Slot → ℕ) → length (members_in_ports m octet) ≡ 30 * m.bridges
members-length m octet = length-map (range_with_len 0 (30 * m.bridges)) (member_in m octet) ∙ length-range_with_len 0 (30 * m.bridges)

-- places that were taken one by one
pub members-seated : (m : Control) (octet : Slot → ℕ) (places : List (Option RoomMember)) → length places ≡ 30 * m.bridges → ((k : ℕ) → k < 30 * m.bridges → get_or places k None ≡ member_in m octet k) → places ≡ members_in_ports m octet
members-seated m octet places size each = fill_by_all (member_in m octet) places (30 * m.bridges) None size each
