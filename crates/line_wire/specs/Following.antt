-- The lines of an input that is read in parts, and the octets that are due for them. Source: this project.
use Rattle.std.specs.Prelude.{◌≡◌, ◌≢◌, ◌⊎◌, ◌≤◌, ◌<◌, ℕ, List, [], ◌∷◌, ◌++◌, length, All}
use Rattle.ex_io.specs.Ends.{Rose}
use Rattle.trace_text.specs.TraceWords.{AreEnded, lines, max_line_len}
use Rattle.line_wire.specs.declared.following.Following.{Following}
use Rattle.line_wire.specs.declared.following.Following.TheVariants as ended

-- ---- the relations of a handler

-- the octets that are due for these lines
abbrev pub Due : Type 1
Due = List (List ℕ) → List ℕ → Type 0

-- the five relations of a handler: all of these lines were processed; the last of them is refused; an allocation failed in the last of them or after
-- all of them; the input ends after them; the end of the input after them is refused
pub record Dues : Type 1 where
  pub answers : Due
  pub refuses : Due
  pub strands : Due
  pub ends : Due
  pub refuses_end : Due

-- ---- before each read

-- no octet is a line feed
abbrev pub HasNoFeed : List ℕ → Type 0
HasNoFeed octets = All (λ octet. octet ≢ 10) octets

-- Each line with a line feed was processed, and everything that is due was written. The octets after the last line feed are less than a line.
pub record IsSettled (answers : Due) (heard said : List ℕ) : Type 0 where
  pub whole : List ℕ
  pub rest : List ℕ
  pub parts : heard ≡ whole ++ rest
  pub ended : AreEnded whole
  pub partial : HasNoFeed rest
  pub done : answers (lines whole) said

-- ---- at the end: `over` states that the input has ended

-- the maximum number of octets that were read and not processed
abbrev pub buffer_octets : ℕ
buffer_octets = 131072

-- the last of these lines has too many octets
abbrev pub EndsLong : List (List ℕ) → Type 0
EndsLong front = (before : List (List ℕ)) × (line : List ℕ) × (front ≡ before ++ line ∷ []) × (max_line_len < length line)

-- These are the first lines of an input, and the octets after them fit in the buffer. The last line has its line feed,
-- unless the input has ended or the line is too long.
pub record AreFirst (over : Type 0) (heard : List ℕ) (front : List (List ℕ)) : Type 0 where
  pub whole : List ℕ
  pub rest : List ℕ
  pub parts : heard ≡ whole ++ rest
  pub ended : AreEnded whole ⊎ ((rest ≡ []) × (over ⊎ EndsLong front))
  pub are : front ≡ lines whole
  pub few : length rest ≤ buffer_octets

-- a line is refused, or the end of the input is
pub data IsRefused (over : Type 0) (due : Dues) (heard said : List ℕ) : Type 0 where
  At_line : (front : List (List ℕ)) → AreFirst over heard front → due.refuses front said → IsRefused over due heard said
  At_end : over → due.refuses_end (lines heard) said → IsRefused over due heard said

-- the octets that are due for an input, by the ending of the call; the end of the input was processed only if the input has ended
abbrev pub IsDue : (over : Type 0) → Following → Dues → List ℕ → List ℕ → Type 0
IsDue over ended.Completed due heard said = over × due.ends (lines heard) said
IsDue over ended.Refused due heard said = IsRefused over due heard said
IsDue over ended.ReadFailed due heard said = IsSettled due.answers heard said
IsDue over ended.WriteFailed due heard said = (front : List (List ℕ)) × AreFirst over heard front × due.answers front said
IsDue over ended.OutOfMemory due heard said = (front : List (List ℕ)) × AreFirst over heard front × due.strands front said

-- everything that is due was written; if a write failed, a prefix of the octets for some other ending
abbrev pub HasFollowed : (over : Type 0) → Following → Dues → List ℕ → List ℕ → Type 0
HasFollowed over ended.Completed due heard said = IsDue over ended.Completed due heard said
HasFollowed over ended.Refused due heard said = IsDue over ended.Refused due heard said
HasFollowed over ended.ReadFailed due heard said = IsDue over ended.ReadFailed due heard said
HasFollowed over ended.WriteFailed due heard said = (otherwise : Following) × (unsaid : List ℕ) × IsDue over otherwise due heard (said ++ unsaid)
HasFollowed over ended.OutOfMemory due heard said = IsDue over ended.OutOfMemory due heard said

-- the count of failed reads rises if and only if a read failed
abbrev pub CountsReads : Following → ℕ → ℕ → Type 0
CountsReads ended.Completed before now = now ≡ before
CountsReads ended.Refused before now = now ≡ before
CountsReads ended.ReadFailed before now = Rose before now
CountsReads ended.WriteFailed before now = now ≡ before
CountsReads ended.OutOfMemory before now = now ≡ before

-- the count of failed writes rises if and only if a write failed
abbrev pub CountsWrites : Following → ℕ → ℕ → Type 0
CountsWrites ended.Completed before now = now ≡ before
CountsWrites ended.Refused before now = now ≡ before
CountsWrites ended.ReadFailed before now = now ≡ before
CountsWrites ended.WriteFailed before now = Rose before now
CountsWrites ended.OutOfMemory before now = now ≡ before

-- the exit status of each ending
abbrev pub status_of : Following → ℕ
status_of ended.Completed = 0
status_of ended.Refused = 1
status_of ended.ReadFailed = 3
status_of ended.WriteFailed = 4
status_of ended.OutOfMemory = 5
