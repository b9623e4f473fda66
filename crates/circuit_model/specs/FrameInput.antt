-- The octets that arrive at the exchange, frame by frame. Source: this project.
use Rattle.std.specs.Prelude.{ℕ, List, Option, Some, None, slice_get, slice_index_or}
use Rattle.circuit_model.specs.declared.channel.Slot.{Slot}

-- the input of one frame: for each external line its 30 octets in order of place, or none if the line sends nothing
abbrev pub Input : Type 0
Input = List (Option (List ℕ))

-- the octet that an idle bearer channel carries
abbrev pub idle_octet : ℕ
idle_octet = 0xD5

-- the octet at a place of a line's octets; a line that sends nothing is idle
abbrev pub octet_at : ℕ → Option (List ℕ) → ℕ
octet_at place None = idle_octet
octet_at place (Some octets) = slice_index_or octets place idle_octet

-- the octets of a line, if the frame has the line and the line sends any
abbrev pub line_of : Option (Option (List ℕ)) → Option (List ℕ)
line_of None = None
line_of (Some octets) = octets

-- the octet that arrives on a slot in one frame
abbrev pub octet_in : Input → Slot → ℕ
octet_in input at = octet_at at.place (line_of (slice_get input at.line))

-- the octet of a slot in a frame; idle if there is no such frame
abbrev pub frame_of : Option Input → Slot → ℕ
frame_of None at = idle_octet
frame_of (Some input) at = octet_in input at

-- the octet that arrives on a slot in frame f of those listed, counted from 0; idle if there is no such frame
abbrev pub arrives : List Input → ℕ → Slot → ℕ
arrives inputs f at = frame_of (slice_get inputs f) at
