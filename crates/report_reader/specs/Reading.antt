-- The parser of a report's line, from its start. Source: this project.
use Rattle.std.specs.Prelude.{ℕ, zero, suc, ◌+◌, ◌-◌, ◌*◌, ◌^◌, ◌==◌, ◌&&◌, ◌||◌, not, nat_lt, nat_le, Bool, List, [], ◌∷◌, ◌++◌, length, replicate, codes, Option, Some, None, option_map, option_and_then, if◌then◌else◌}
use Rattle.std.specs.Char.{is_ascii_digit}
use Rattle.circuit_model.specs.FrameInput.{idle_octet}
use Rattle.circuit_model.specs.Channels.{between}
use Rattle.q931_elements.specs.Limits.{max_message_len}
use Rattle.exchange_events.specs.Limits.{max_events}
use Rattle.exchange_events.specs.declared.answer.Answer.{Answer}
use Rattle.exchange_events.specs.declared.answer.Kept.{Kept}
use Rattle.exchange_events.specs.declared.answer.Kept.TheVariants.{Granted, Busy, Seated, NoPort, Freed, NotNailed, Sent, Frame}
use Rattle.exchange_events.specs.declared.signal.Signal.{Signal}
use Rattle.report_reader.specs.declared.word.Word.{Word}
use Rattle.report_reader.specs.declared.word.Word.TheVariants as word
use Rattle.report_reader.specs.Spelling.{max_lines, is_idle}

-- the second step, if the first one succeeded
infixl 10 ◌>>=◌
abbrev pub ◌>>=◌ : {A B : Type 0} → Option A → (A → Option B) → Option B
found >>= step = option_and_then step found

-- the value, if the test holds
abbrev pub passing : {A : Type 0} → Bool → A → Option A
passing test found = if test then Some found else None

-- the octets after a word, if they begin with it
unfoldable pub behind : List ℕ → List ℕ → Option (List ℕ)
behind [] octets = Some octets
behind (mark ∷ marks) [] = None
behind (mark ∷ marks) (octet ∷ octets) = if octet == mark then behind marks octets else None

-- the decimal digit at the start, and the octets after it
abbrev pub digit_at : List ℕ → Option (ℕ × List ℕ)
digit_at [] = None
digit_at (octet ∷ octets) = passing (is_ascii_digit octet) (octet - 48, octets)

-- the number of these digits and the further ones at the start; no digit may follow a 0, and the number has 32 bits
unfoldable pub number_from : ℕ → List ℕ → Option (ℕ × List ℕ)
number_from n [] = Some (n, [])
number_from n (octet ∷ octets) =
    if is_ascii_digit octet then (if n == 0 || nat_le (2 ^ 32) (n * 10 + (octet - 48)) then None else number_from (n * 10 + (octet - 48)) octets)
    else Some (n, octet ∷ octets)

-- the number at the start, and the octets after it
abbrev pub parse_number : List ℕ → Option (ℕ × List ℕ)
parse_number octets = do
  first ← digit_at octets
  number_from first.0 first.1

-- the number at the start, after a space
abbrev pub spaced_at : List ℕ → Option (ℕ × List ℕ)
spaced_at octets = do
  rest ← behind (codes " ") octets
  parse_number rest

-- two numbers at the start, each after a space
abbrev pub pair_at : List ℕ → Option ((ℕ × ℕ) × List ℕ)
pair_at octets = do
  a ← spaced_at octets
  b ← spaced_at a.1
  Some ((a.0, b.0), b.1)

-- the value of an upper-case hexadecimal digit
abbrev pub digit_value : ℕ → Option ℕ
digit_value octet =
    if between 48 57 octet then Some (octet - 48)
    else if between 65 70 octet then Some (octet - 55)
    else None

-- the octet of two digits
abbrev pub octet_of : ℕ → ℕ → Option ℕ
octet_of high low = do
  h ← digit_value high
  l ← digit_value low
  Some (h * 16 + l)

-- the octet of the first two digits, and the octets after them
abbrev pub octet_at : List ℕ → Option (ℕ × List ℕ)
octet_at (high ∷ low ∷ octets) = option_map (λ octet. (octet, octets)) (octet_of high low)
octet_at octets = None

-- an octet before those that follow it
abbrev pub onto : Option ℕ → List ℕ → List ℕ × List ℕ → List ℕ × List ℕ
onto None octets read = ([], octets)
onto (Some octet) octets read = (octet ∷ read.0, read.1)

-- the octets of all pairs of digits at the start, and the octets after them
unfoldable pub octets_front : List ℕ → List ℕ × List ℕ
octets_front [] = ([], [])
octets_front (high ∷ []) = ([], high ∷ [])
octets_front (high ∷ low ∷ octets) = onto (octet_of high low) (high ∷ low ∷ octets) (octets_front octets)

-- the octets of the digits at the start, if a message may have that number of octets
abbrev pub octets_at : List ℕ → Option (List ℕ × List ℕ)
octets_at octets = passing (between 1 max_message_len (length (octets_front octets).0)) (octets_front octets)

-- the octets of a line after its number
abbrev pub signal_at : List ℕ → Option (Signal × List ℕ)
signal_at octets = do
  line ← spaced_at octets
  here ← passing (nat_lt line.0 max_lines) line
  rest ← behind (codes ":") here.1
  read ← octets_at rest
  Some (record { line = line.0; octets = read.0 }, read.1)

-- one more message, if the word is at the start
abbrev pub signals_step : Option (List ℕ) → List Signal → List ℕ → (List Signal → List ℕ → Option (List Signal × List ℕ)) → Option (List Signal × List ℕ)
signals_step None sends octets next = Some (sends, octets)
signals_step (Some []) sends octets next = Some (sends, octets)
signals_step (Some (octet ∷ rest)) sends octets next = do
  read ← signal_at (octet ∷ rest)
  next (sends ++ read.0 ∷ []) read.1

-- further messages at the start, each after a word, in fewer rounds than the first argument, and the octets after them
unfoldable pub signals_in : ℕ → List ℕ → List Signal → List ℕ → Option (List Signal × List ℕ)
signals_in zero mark sends octets = None
signals_in (suc k) mark sends octets = signals_step (behind mark octets) sends octets (signals_in k mark)

-- the messages at the start, each after a word, and the octets after them; each has at least one octet
abbrev pub signals_at : List ℕ → List ℕ → Option (List Signal × List ℕ)
signals_at mark octets = signals_in (length octets + 1) mark [] octets

-- the 30 octets of a line that is not idle, after its number
abbrev pub row_at : List ℕ → Option (Signal × List ℕ)
row_at octets = do
  read ← signal_at octets
  passing (length read.0.octets == 30 && not (is_idle read.0.octets)) read

-- the octets of an idle line
abbrev pub idle_row : List ℕ
idle_row = replicate 30 idle_octet

-- rows, and then idle rows up to a line
abbrev pub rows_before : ℕ → List (List ℕ) → List (List ℕ)
rows_before line rows = rows ++ replicate (line - length rows) idle_row

-- one more row, if its line comes after the lines of the others
abbrev pub rows_step : List (List ℕ) → Signal × List ℕ → (List (List ℕ) → List ℕ → Option (List (List ℕ))) → Option (List (List ℕ))
rows_step rows read next = if nat_lt read.0.line (length rows) then None else next (rows_before read.0.line rows ++ read.0.octets ∷ []) read.1

-- further rows of a frame to the end of a line, in fewer rounds than the first argument
unfoldable pub rows_in : ℕ → List (List ℕ) → List ℕ → Option (List (List ℕ))
rows_in zero rows octets = None
rows_in (suc k) rows [] = Some rows
rows_in (suc k) rows (octet ∷ octets) = row_at (octet ∷ octets) >>= λ read. rows_step rows read (rows_in k)

-- the rows of a frame to the end of a line; each has at least one octet
abbrev pub rows_of : List ℕ → Option (List (List ℕ))
rows_of octets = rows_in (length octets + 1) [] octets

abbrev pub is_empty : List ℕ → Bool
is_empty octets = length octets == 0

-- the numbers of moved live paths, if the line has them, and the octets after them
abbrev pub moves_by : List ℕ → Option (List ℕ) → Option (Option (ℕ × ℕ) × List ℕ)
moves_by octets None = Some (None, octets)
moves_by octets (Some rest) = do
  both ← pair_at rest
  Some (Some both.0, both.1)

abbrev pub moves_at : List ℕ → Option (Option (ℕ × ℕ) × List ℕ)
moves_at octets = moves_by octets (behind (codes " moved") octets)

-- the reply after `message`
abbrev pub message_of : List ℕ → Option Kept
message_of octets = do
  moved ← moves_at octets
  sends ← signals_at [] moved.1
  passing (is_empty sends.1) (Sent sends.0 moved.0 [])

-- the reply and the rows after `frame`
abbrev pub frame_of : List ℕ → Option (Kept × List (List ℕ))
frame_of octets = do
  n ← spaced_at octets
  sends ← signals_at (codes " send") n.1
  rows ← rows_of sends.1
  Some (Frame n.0 sends.0 [], rows)

-- two numbers at the end of a line
abbrev pub pair_of : List ℕ → Option (ℕ × ℕ)
pair_of octets = do
  both ← pair_at octets
  passing (is_empty both.1) both.0

-- the reply after its word, if it is not a frame's
abbrev pub reply_of : Word → List ℕ → Option Kept
reply_of word.Granted octets = pair_of octets >>= λ both. Some (Granted both.0 both.1)
reply_of word.Busy octets = passing (is_empty octets) Busy
reply_of word.Seated octets = pair_of octets >>= λ both. Some (Seated both.0 both.1)
reply_of word.NoPort octets = passing (is_empty octets) NoPort
reply_of word.Freed octets = passing (is_empty octets) Freed
reply_of word.NotNailed octets = passing (is_empty octets) NotNailed
reply_of word.Message octets = message_of octets
reply_of word.Frame octets = None

-- a reply, and its rows of octets
abbrev pub told_of : Word → List ℕ → Option (Kept × List (List ℕ))
told_of word.Frame octets = frame_of octets
told_of other octets = reply_of other octets >>= λ reply. Some (reply, [])

-- the word of a reply, and the octets after it
abbrev pub word_by : Option (List ℕ) → Word → Option (Word × List ℕ) → Option (Word × List ℕ)
word_by (Some rest) here others = Some (here, rest)
word_by None here others = others

abbrev pub word_at : List ℕ → Option (Word × List ℕ)
word_at octets =
    word_by (behind (codes " granted") octets) word.Granted
    (word_by (behind (codes " busy") octets) word.Busy
    (word_by (behind (codes " seated") octets) word.Seated
    (word_by (behind (codes " noport") octets) word.NoPort
    (word_by (behind (codes " freed") octets) word.Freed
    (word_by (behind (codes " notnailed") octets) word.NotNailed
    (word_by (behind (codes " message") octets) word.Message
    (word_by (behind (codes " frame") octets) word.Frame None)))))))

-- the answer that a line encodes
abbrev pub reading : List ℕ → Option Answer
reading line = do
  n ← parse_number line
  event ← passing (between 1 max_events n.0) n.0
  named ← word_at n.1
  told ← told_of named.0 named.1
  Some (record { event = event; reply = told.0; octets = told.1 })
