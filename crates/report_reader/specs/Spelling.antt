-- The answers that the lines of a report encode. Source: this project.
use Rattle.std.specs.Prelude.{◌≡◌, ℕ, ◌+◌, ◌^◌, ◌<◌, ◌≤◌, ◌==◌, Bool, false, not, List, [], ◌∷◌, ◌++◌, length, codes, All, IfSome, None, ⊤}
use Rattle.std.specs.List.{last_or, list_all}
use Rattle.circuit_model.specs.FrameInput.{idle_octet}
use Rattle.q931_elements.specs.Limits.{max_message_len}
use Rattle.exchange_events.specs.Limits.{max_events}
use Rattle.exchange_events.specs.declared.answer.Answer.{Answer}
use Rattle.exchange_events.specs.declared.answer.Kept.{Kept}
use Rattle.exchange_events.specs.declared.answer.Kept.TheVariants.{Granted, Busy, Seated, NoPort, Freed, NotNailed, Sent, Frame}
use Rattle.exchange_events.specs.declared.signal.Signal.{Signal}
use Rattle.report_text.specs.Report.{answer_line, answer_lines}
use Rattle.report_reader.specs.declared.report.ReportFault.{ReportFault}
use Rattle.report_reader.specs.declared.report.ReportFault.TheVariants.{Memory, Line}

-- the maximum number of external lines
abbrev pub max_lines : ℕ
max_lines = 32

-- a number of 32 bits, which an answer can have
abbrev pub IsHeld : ℕ → Type 0
IsHeld n = n < 2 ^ 32

-- these are octets
abbrev pub AreOctets : List ℕ → Type 0
AreOctets octets = All (λ octet. octet < 256) octets

-- a message of at least one octet to one of the lines
pub record IsSendable (sent : Signal) : Type 0 where
  pub line : sent.line < max_lines
  pub some : 1 ≤ length sent.octets
  pub few : length sent.octets ≤ max_message_len
  pub octets : AreOctets sent.octets

-- every octet of a line is idle
abbrev pub is_idle : List ℕ → Bool
is_idle octets = list_all (λ octet. octet == idle_octet) octets

-- the 30 octets of a line in one frame
pub record IsRow (octets : List ℕ) : Type 0 where
  pub thirty : length octets ≡ 30
  pub bytes : AreOctets octets

-- the octets of a frame, line by line, up to the last line that is not idle
pub record AreRows (rows : List (List ℕ)) : Type 0 where
  pub few : length rows ≤ max_lines
  pub each : All IsRow rows
  pub last : IfSome (last_or None rows) (λ octets. is_idle octets ≡ false)

-- a reply in normal form: its numbers have 32 bits, its messages can be sent, and it has no call records
abbrev pub IsNormalReply : Kept → Type 0
IsNormalReply (Granted a b) = IsHeld a × IsHeld b
IsNormalReply Busy = ⊤
IsNormalReply (Seated a b) = IsHeld a × IsHeld b
IsNormalReply NoPort = ⊤
IsNormalReply Freed = ⊤
IsNormalReply NotNailed = ⊤
IsNormalReply (Sent sends moved records) = All IsSendable sends × IfSome moved (λ both. IsHeld both.0 × IsHeld both.1) × (records ≡ [])
IsNormalReply (Frame n sends records) = IsHeld n × All IsSendable sends × (records ≡ [])

-- the octets of a reply in normal form: none unless it is a frame's
abbrev pub AreNormalOctets : Kept → List (List ℕ) → Type 0
AreNormalOctets (Frame n sends records) rows = AreRows rows
AreNormalOctets reply rows = rows ≡ []

-- an answer in normal form: it has exactly the contents of its line
pub record IsNormal (answer : Answer) : Type 0 where
  pub event : (1 ≤ answer.event) × (answer.event ≤ max_events)
  pub reply : IsNormalReply answer.reply
  pub octets : AreNormalOctets answer.reply answer.octets

-- a line, without its line feed, encodes an answer in normal form: it is the line that is printed for the answer
pub record Spells (line : List ℕ) (answer : Answer) : Type 0 where
  pub printed : answer_line answer ≡ line ++ codes "\n"
  pub normal : IsNormal answer

-- no octet is a line feed
abbrev pub is_unbroken : List ℕ → Bool
is_unbroken octets = list_all (λ octet. not (octet == 10)) octets

-- bytes are a report: the lines of answers in normal form
pub record IsReport (bytes : List ℕ) (answers : List Answer) : Type 0 where
  pub printed : bytes ≡ answer_lines answers
  pub normal : All IsNormal answers

-- line n of bytes is the first that encodes no answer or has no line feed: the lines before it encode answers, and the
-- octets after them do not begin with such a line and its line feed
pub record IsFaultyAt (bytes : List ℕ) (n : ℕ) : Type 0 where
  pub before : List Answer
  pub behind : List ℕ
  pub printed : bytes ≡ answer_lines before ++ behind
  pub normal : All IsNormal before
  pub number : n ≡ length before + 1
  pub some : 0 < length behind
  pub faulty : (line rest : List ℕ) (answer : Answer) → behind ≡ line ++ codes "\n" ++ rest → Spells line answer → ⊥

-- the error for bytes that are not a report, unless an allocation fails
abbrev pub IsFault : List ℕ → ReportFault → Type 0
IsFault bytes Memory = ⊤
IsFault bytes (Line n) = IsFaultyAt bytes n
