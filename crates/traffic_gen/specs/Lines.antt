-- The lines of a generated trace, and the text of each: words and decimal numbers, with one space between them. A line
-- is data with one function for its text, so that facts are proved line by line. The form of a trace is defined by this
-- project.
use Rattle.std.specs.Prelude.{ℕ, ◌+◌, List, ◌++◌, codes, decimal, nat_lt, if◌then◌else◌}
use Rattle.std.specs.List.{flat_map}
use Rattle.hex.specs.Hex.{encode_upper}

-- the octets of one external line in a frame
pub record Part : Type 0 where
  pub line : ℕ
  pub octets : List ℕ

pub data Line : Type 0 where
  -- the sizes of the exchange
  Header : (external bridges processors : ℕ) → Line
  -- calls to the number go to a line, or to a conference room
  ToLine : (number : List ℕ) (line : ℕ) → Line
  ToRoom : (number : List ℕ) (room : ℕ) → Line
  -- two lines are connected, each at this place
  Nail : (one other place : ℕ) → Line
  -- a message arrives on a line
  Message : (line : ℕ) (octets : List ℕ) → Line
  -- a frame arrives: the octets of the lines that are not idle
  Frame : (parts : List Part) → Line
  -- the segment ends
  Sync : Line

-- the number of the bearer channel at a place from 0 to 29: channel 16 carries the signalling
abbrev pub channel_at : ℕ → ℕ
channel_at place = if nat_lt place 15 then place + 1 else place + 2

-- a slot: a line, and a channel on it
abbrev pub slot_text : ℕ → ℕ → List ℕ
slot_text line place = decimal line ++ codes "/" ++ decimal (channel_at place)

-- a line's part of a frame
abbrev pub part_text : Part → List ℕ
part_text part = codes " " ++ decimal part.line ++ codes ":" ++ encode_upper part.octets

-- a line's octets, without the line feed
abbrev pub line_text : Line → List ℕ
line_text (Header external bridges processors) =
    codes "exchange 1 " ++ decimal external ++ codes " " ++ decimal bridges ++ codes " " ++ decimal processors
line_text (ToLine number line) = codes "number " ++ number ++ codes " line " ++ decimal line
line_text (ToRoom number room) = codes "number " ++ number ++ codes " room " ++ decimal room
line_text (Nail one other place) = codes "nail " ++ slot_text one place ++ codes " " ++ slot_text other place
line_text (Message line octets) = codes "M " ++ decimal line ++ codes " " ++ encode_upper octets
line_text (Frame parts) = codes "F" ++ flat_map part_text parts
line_text Sync = codes "sync"

-- lines, each with a line feed at its end
unfoldable pub text : List Line → List ℕ
text lines = flat_map (λ line. line_text line ++ codes "\n") lines
