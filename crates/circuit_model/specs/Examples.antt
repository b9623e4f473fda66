-- Small worked exchanges, on which the definitions are evaluated. Each line sends on its first bearer channel only.
use Rattle.std.specs.Prelude.{ℕ, List, [], ◌∷◌, Some, None, map}
use Rattle.circuit_model.specs.declared.channel.Slot.{Slot}
use Rattle.circuit_model.specs.declared.circuit.Kind.{Kind}
use Rattle.circuit_model.specs.declared.circuit.Kind.TheVariants.{Ringback, Busy}
use Rattle.circuit_model.specs.FrameInput.{Input}
use Rattle.circuit_model.specs.Holding.{Command, Connect, Seat, Give_tone, Clear, Frame, empty, frames}
use Rattle.circuit_model.specs.Hears.{hears}

-- the first bearer channel of a line
abbrev pub first : ℕ → Slot
first line = record { line = line; place = 0 }

-- one frame, in which line 0, 1, .. send these octets
abbrev pub input_of : List ℕ → Input
input_of octets = map (λ octet. Some (octet ∷ [])) octets

-- three octets of ringing tone, a single octet of busy tone
abbrev pub some_tones : Kind → List ℕ
some_tones Ringback = 0x11 ∷ 0x22 ∷ 0x33 ∷ []
some_tones Busy = 0x44 ∷ []

-- the octet that the first bearer channel of a line receives in frame f, after these commands over these inputs
abbrev pub hears_on : List Input → List Command → ℕ → ℕ → ℕ
hears_on inputs commands f line = hears some_tones inputs (frames empty commands) f (first line)

-- two lines connected before the first frame
abbrev pub a_connection : List Command
a_connection = Connect (first 0) (first 1) ∷ Frame ∷ Frame ∷ Frame ∷ Frame ∷ Frame ∷ []

abbrev pub two_lines : List Input
two_lines = input_of (0x01 ∷ 0x81 ∷ []) ∷ input_of (0x02 ∷ 0x82 ∷ []) ∷ input_of (0x03 ∷ 0x83 ∷ []) ∷ input_of (0x04 ∷ 0x84 ∷ []) ∷ input_of (0x05 ∷ 0x85 ∷ []) ∷ []

-- line 0 leaves line 1 for line 2 between frames 1 and 2
abbrev pub a_reused_slot : List Command
a_reused_slot = Connect (first 0) (first 1) ∷ Frame ∷ Frame ∷ Clear (first 0) ∷ Connect (first 0) (first 2) ∷ Frame ∷ Frame ∷ Frame ∷ []

abbrev pub three_lines : List Input
three_lines = input_of (0x01 ∷ 0x81 ∷ 0xC1 ∷ []) ∷ input_of (0x02 ∷ 0x82 ∷ 0xC2 ∷ []) ∷ input_of (0x03 ∷ 0x83 ∷ 0xC3 ∷ []) ∷ input_of (0x04 ∷ 0x84 ∷ 0xC4 ∷ []) ∷ input_of (0x05 ∷ 0x85 ∷ 0xC5 ∷ []) ∷ []

-- three members of one room
abbrev pub a_room : List Command
a_room = Seat (first 0) 0 ∷ Seat (first 1) 0 ∷ Seat (first 2) 0 ∷ Frame ∷ Frame ∷ Frame ∷ Frame ∷ Frame ∷ Frame ∷ []

-- all three send the highest value in frame 0; from frame 1 on line 2 sends the lowest
abbrev pub loud_lines : List Input
loud_lines = input_of (0xAA ∷ 0xAA ∷ 0xAA ∷ []) ∷ input_of (0xAA ∷ 0xAA ∷ 0x2A ∷ []) ∷ input_of (0xAA ∷ 0xAA ∷ 0x2A ∷ []) ∷ []

-- a member without others, and two members of a room
abbrev pub alone : List Command
alone = Seat (first 0) 5 ∷ Frame ∷ Frame ∷ Frame ∷ Frame ∷ Frame ∷ Frame ∷ []

abbrev pub a_pair_of_members : List Command
a_pair_of_members = Seat (first 0) 5 ∷ Seat (first 1) 5 ∷ Frame ∷ Frame ∷ Frame ∷ Frame ∷ Frame ∷ Frame ∷ []

abbrev pub soft_lines : List Input
soft_lines = input_of (0x11 ∷ 0x91 ∷ []) ∷ input_of (0x12 ∷ 0x92 ∷ []) ∷ input_of (0x13 ∷ 0x93 ∷ []) ∷ []

-- ringing tone from frame 1 on, and silence from frame 5 on
abbrev pub a_tone : List Command
a_tone = Frame ∷ Give_tone (first 0) Ringback ∷ Frame ∷ Frame ∷ Frame ∷ Frame ∷ Clear (first 0) ∷ Frame ∷ []

-- a connection made when two frames have passed
abbrev pub a_late_connection : List Command
a_late_connection = Frame ∷ Frame ∷ Connect (first 0) (first 1) ∷ Frame ∷ Frame ∷ Frame ∷ []

-- a connection taken down and made again between frames 1 and 2
abbrev pub a_renewed_connection : List Command
a_renewed_connection = Connect (first 0) (first 1) ∷ Frame ∷ Frame ∷ Clear (first 1) ∷ Connect (first 0) (first 1) ∷ Frame ∷ Frame ∷ Frame ∷ []

-- line 0 sends nothing in frame 1, line 1 nothing at all
abbrev pub quiet_lines : List Input
quiet_lines = input_of (0x01 ∷ []) ∷ (None ∷ None ∷ []) ∷ input_of (0x03 ∷ []) ∷ []

-- two members from the first frame on, and a third who joins before frame 3 and leaves before frame 8
abbrev pub a_changing_room : List Command
a_changing_room = Seat (first 0) 0 ∷ Seat (first 1) 0 ∷ Frame ∷ Frame ∷ Frame ∷ Seat (first 2) 0 ∷ Frame ∷ Frame ∷ Frame ∷ Frame ∷ Frame ∷ Clear (first 2) ∷ Frame ∷ Frame ∷ Frame ∷ []

-- line 0 sends the value 3 and line 1 the value -1 all the time, line 2 in turn 1, 3, 5, 7, 9, 11, ..
abbrev pub counting_lines : List Input
counting_lines = map (λ octet. input_of (0xD4 ∷ 0x55 ∷ octet ∷ [])) (0xD5 ∷ 0xD4 ∷ 0xD7 ∷ 0xD6 ∷ 0xD1 ∷ 0xD0 ∷ 0xD3 ∷ 0xD2 ∷ 0xDD ∷ [])

-- members of two rooms
abbrev pub two_rooms : List Command
two_rooms = Seat (first 0) 5 ∷ Seat (first 1) 6 ∷ Frame ∷ Frame ∷ Frame ∷ Frame ∷ Frame ∷ Frame ∷ []

-- four members of one room, of whom two send the highest value and one the lowest
abbrev pub a_full_room : List Command
a_full_room = Seat (first 0) 0 ∷ Seat (first 1) 0 ∷ Seat (first 2) 0 ∷ Seat (first 3) 0 ∷ Frame ∷ Frame ∷ Frame ∷ Frame ∷ Frame ∷ []

abbrev pub loud_and_low : List Input
loud_and_low = input_of (0xD5 ∷ 0xAA ∷ 0xAA ∷ 0x2A ∷ []) ∷ []

-- a tone of one octet, and another one that replaces it between frames 1 and 2
abbrev pub two_tones : List Command
two_tones = Give_tone (first 0) Busy ∷ Frame ∷ Frame ∷ Clear (first 0) ∷ Give_tone (first 0) Ringback ∷ Frame ∷ Frame ∷ Clear (first 0) ∷ Give_tone (first 0) Ringback ∷ Frame ∷ Frame ∷ []

-- the octets that a line receives in frames 0, 1, ..
abbrev pub heard_in_frames : List Input → List Command → ℕ → List ℕ → List ℕ
heard_in_frames inputs commands line fs = map (λ f. hears_on inputs commands f line) fs
