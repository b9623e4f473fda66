-- The lines of a generated trace fit its exchange: they refer to the lines, places and rooms that its header describes.
use Rattle.std.specs.Prelude.{◌≡◌, ◌≢◌, ℕ, ◌+◌, ◌<◌, ◌≤◌, Bool, true, false, ◌&&◌, nat_lt, nat_le, List, [], ◌∷◌, length, if◌then◌else◌}
use Rattle.std.specs.List.{list_all}
use Rattle.traffic_gen.specs.Lines.{Line, Part, Header, ToLine, ToRoom, Nail, Message, Frame, Sync}

abbrev pub is_octet : ℕ → Bool
is_octet octet = nat_lt octet 256

abbrev pub is_digit : ℕ → Bool
is_digit octet = nat_le 48 octet && nat_le octet 57

-- an octet of a text: a letter, a digit, a sign or the space
abbrev pub is_printable : ℕ → Bool
is_printable octet = nat_le 0x20 octet && nat_le octet 0x7E

-- a number of 1 to 20 digits
pub record FitsNumber (number : List ℕ) : Type 0 where
  pub each : list_all is_digit number ≡ true
  pub some : 1 ≤ length number
  pub most : length number ≤ 20

-- a message of at most 15 octets arrives on one of the eight lines
pub record FitsMessage (line : ℕ) (octets : List ℕ) : Type 0 where
  pub line_is : line < 8
  pub each : list_all is_octet octets ≡ true
  pub most : length octets ≤ 15

-- one of the eight lines sends 30 octets
pub record FitsPart (part : Part) : Type 0 where
  pub line_is : part.line < 8
  pub each : list_all is_octet part.octets ≡ true
  pub thirty : length part.octets ≡ 30

-- one line sends octets, or two lines do
abbrev pub FitsParts : List Part → Type 0
FitsParts [] = ⊥
FitsParts (one ∷ []) = FitsPart one
FitsParts (one ∷ other ∷ []) = FitsPart one × FitsPart other × (other.line ≢ one.line)
FitsParts (one ∷ other ∷ third ∷ parts) = ⊥

-- two different lines are nailed at one of the upper 20 places
pub record FitsNail (one other place : ℕ) : Type 0 where
  pub one_is : one < 4
  pub other_is : (4 ≤ other) × (other < 8)
  pub place_is : (10 ≤ place) × (place < 30)

-- a line fits the exchange of a generated trace
abbrev pub Fits : Line → Type 0
Fits (Header external bridges processors) = (external ≡ 8) × (bridges ≡ 1) × (processors ≡ 4)
Fits (ToLine number line) = FitsNumber number × (line < 8)
Fits (ToRoom number room) = FitsNumber number × (room ≡ 0)
Fits (Nail one other place) = FitsNail one other place
Fits (Message line octets) = FitsMessage line octets
Fits (Frame parts) = FitsParts parts
Fits Sync = Unit {0}

-- the line is an event
abbrev pub is_event : Line → Bool
is_event (Header external bridges processors) = false
is_event (ToLine number line) = false
is_event (ToRoom number room) = false
is_event (Nail one other place) = true
is_event (Message line octets) = true
is_event (Frame parts) = true
is_event Sync = false

-- the number of events among the lines
abbrev pub event_count : List Line → ℕ
event_count [] = 0
event_count (line ∷ lines) = (if is_event line then 1 else 0) + event_count lines
