-- Small worked runs: whom a slot hears in each frame.
use Rattle.std.specs.Prelude.{ℕ, List, [], ◌∷◌, ◌++◌, replicate}
use Rattle.circuit_model.specs.FrameInput.{Input}
use Rattle.circuit_model.specs.Holding.{Command, Connect, Seat, Clear, Frame, empty, frames}
use Rattle.circuit_model.specs.Examples.{first, input_of}
use Rattle.privacy.specs.Sources.{Octet, sources}

-- the octet that the first bearer channel of a line sent in a frame
abbrev pub octet : ℕ → ℕ → Octet
octet frame line = record { frame = frame; from = first line }

-- the octets that the first bearer channel of a line hears in a frame, after these commands
abbrev pub heard_on : List Command → ℕ → ℕ → List Octet
heard_on commands f line = sources (frames empty commands) f (first line)

-- line 0 is connected with line 1, and between frames 2 and 3 with line 2
abbrev pub a_change_of_partner : List Command
a_change_of_partner = Connect (first 0) (first 1) ∷ Frame ∷ Frame ∷ Frame ∷ Clear (first 0) ∷ Connect (first 0) (first 2) ∷ Frame ∷ Frame ∷ Frame ∷ []

-- line 0 leaves its room and returns before frame 6; line 2 is in another room
abbrev pub a_return : List Command
a_return = Seat (first 0) 7 ∷ Seat (first 1) 7 ∷ Seat (first 2) 8 ∷ Frame ∷ Frame ∷ Frame ∷ Frame ∷ Frame ∷ Frame ∷ Clear (first 0) ∷ Seat (first 0) 7 ∷ Frame ∷ Frame ∷ Frame ∷ []

-- all lines are idle, except that in frame 0 line 1, or in frame 5 line 2 sends this octet
abbrev pub from_partner : ℕ → List Input
from_partner o = input_of (0xD5 ∷ o ∷ []) ∷ []

abbrev pub from_member : ℕ → List Input
from_member o = replicate 5 [] ++ input_of (0xD5 ∷ 0xD5 ∷ o ∷ []) ∷ []
