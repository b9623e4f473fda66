-- A generated trace. Defined by this project: eight external lines, with the upper 20 places of lines 0 to 3 nailed to
-- the upper 20 of lines 4 to 7, and calls on the other places.
use Rattle.std.specs.Prelude.{ℕ, ◌+◌, ◌%◌, List, [], ◌∷◌, ◌++◌, map}
use Rattle.std.specs.List.{flat_map, range_with_len}
use Rattle.traffic_gen.specs.Lines.{Line, Header, ToLine, ToRoom, Nail, text}
use Rattle.traffic_gen.specs.Calls.{calls_drawn, number_of, segment}
use Rattle.traffic_gen.specs.declared.callee.Callee.TheVariants as callee

-- the numbers of a line, and of the conference room 0
abbrev pub number_line : ℕ → Line
number_line line = ToLine (number_of (callee.Line line)) line

abbrev pub room_line : Line
room_line = ToRoom (number_of callee.Room) 0

-- eight external lines, one bridge line, four call processors; a number for each line, and one for the room
unfoldable pub header : List Line
header = Header 8 1 4 ∷ map number_line (range_with_len 0 8) ++ room_line ∷ []

-- a line at a place is nailed to one of the lines 4 to 7, another one at the next place
abbrev pub nail_line : ℕ → ℕ → Line
nail_line place line = Nail line (4 + (line + place) % 4) place

-- the nails of the lines 0 to 3 at a place
unfoldable pub nails_at : ℕ → List Line
nails_at place = map (nail_line place) (range_with_len 0 4)

-- the nails at the places 10 to 29
unfoldable pub nails : List Line
nails = flat_map nails_at (range_with_len 10 20)

-- the lines of the trace with a seed and a number of calls
unfoldable pub traffic_lines : ℕ → ℕ → List Line
traffic_lines seed calls = header ++ segment nails ++ calls_drawn calls seed

-- its octets
unfoldable pub traffic : ℕ → ℕ → List ℕ
traffic seed calls = text (traffic_lines seed calls)
