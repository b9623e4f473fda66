-- The content of a line of a trace, or its first failing check. Source: this project.
use Rattle.std.specs.Prelude.{◌≡◌, ℕ, nat_lt, ◌==◌, ◌||◌, List, [], ◌∷◌, ◌++◌, length, codes, replicate, slice_index_or, slice_set, Option, Some, None, is_some, ok_or, option_and_then, Result, Ok, Err, if◌then◌else◌}
use Rattle.std.specs.List.{list_all}
use Rattle.std.specs.Str.{bytes_eq}
use Rattle.circuit_model.specs.declared.circuit.Kind.{Kind as Tone}
use Rattle.circuit_model.specs.declared.circuit.Kind.TheVariants.{Ringback, Busy}
use Rattle.circuit_model.specs.FrameInput.{Input}
use Rattle.circuit_model.specs.Circuits.{same_slot}
use Rattle.number_plan.specs.declared.plan.Number.{Number}
use Rattle.number_plan.specs.declared.target.Target.{Target}
use Rattle.number_plan.specs.declared.target.Target.TheVariants as goal
use Rattle.number_plan.specs.Plan.{is_listed, is_number, is_number_taken}
use Rattle.tone_rules.specs.declared.tones.Tones.{Tones}
use Rattle.tone_rules.specs.Tables.{with_octets}
use Rattle.tone_rules.specs.CallTones.{is_given}
use Rattle.exchange_events.specs.declared.trace.Event.{Event}
use Rattle.exchange_events.specs.declared.trace.Event.TheVariants.{Nail, Seat, Free, Message, LinkUp, LinkDown, RestartLine, Frame}
use Rattle.exchange_events.specs.Limits.{max_changes, max_events}
use Rattle.trace_text.specs.declared.fault.Reason.{Reason}
use Rattle.trace_text.specs.declared.fault.Reason.TheVariants as reason
use Rattle.trace_text.specs.declared.fault.LineError.{LineError}
use Rattle.trace_text.specs.declared.fault.LineError.TheVariants as fault
use Rattle.trace_text.specs.declared.limits.Limits.{Limits}
use Rattle.trace_text.specs.declared.said.Sizes.{Sizes}
use Rattle.trace_text.specs.declared.said.LineKind.{LineKind}
use Rattle.trace_text.specs.declared.said.LineKind.TheVariants as kind
use Rattle.trace_text.specs.declared.said.GivenTone.{GivenTone}
use Rattle.trace_text.specs.declared.said.Said.{Said}
use Rattle.trace_text.specs.declared.said.Said.TheVariants as said
use Rattle.trace_text.specs.declared.timing.GivenTimer.{GivenTimer}
use Rattle.trace_text.specs.declared.timing.GivenTimers.{GivenTimers}
use Rattle.trace_text.specs.TraceTimers.{timer_named, if_some_frames, frames_given}
use Rattle.trace_text.specs.TraceWords.{numeral, words, two, one_or_two, digits_and_target, cut_at, is_comment, is_blank, is_printable}
use Rattle.trace_text.specs.TraceFields.{external_line, slot, room, octets_written, thirty, at_most, max_message_len, of_tone, header}

-- the second step, if the first passed its checks
infixl 10 ◌>>=◌
abbrev pub ◌>>=◌ : {A B : Type 0} → Result A Reason → (A → Result B Reason) → Result B Reason
(Ok value) >>= step = step value
(Err why) >>= step = Err why

-- the octet `:`
abbrev pub colon : ℕ
colon = 58

-- one field of a frame: the decimal number of an external line that the frame does not have yet, `:`, and its 30 octets
abbrev pub with_part : ℕ → Input → List ℕ → Result Input Reason
with_part external given word = do
  halves ← ok_or (cut_at colon word) reason.Slot
  line ← ok_or (external_line external halves.0) reason.Slot
  if is_some (slice_index_or given line None) then Err reason.Slot else (do
    octets ← thirty (octets_written halves.1)
    Ok (slice_set given line (Some octets)))

abbrev pub with_parts : ℕ → Input → List (List ℕ) → Result Input Reason
with_parts external given [] = Ok given
with_parts external given (word ∷ others) = with_part external given word >>= λ more. with_parts external more others

-- a frame: the octets of some external lines; the other lines are idle
abbrev pub frame : ℕ → List (List ℕ) → Result Event Reason
frame external parts = do
  input ← with_parts external (replicate external None) parts
  Ok (Frame input)

-- a nailed connection: two different slots
abbrev pub nail : ℕ → List (List ℕ) → Result Event Reason
nail external others = do
  both ← ok_or (two others) reason.Word
  x ← ok_or (slot external both.0) reason.Slot
  y ← ok_or (slot external both.1) reason.Slot
  if same_slot x y then Err reason.Slot else Ok (Nail x y)

-- a seat: a slot and the conference room that it joins
abbrev pub seat : ℕ → List (List ℕ) → Result Event Reason
seat external others = do
  both ← ok_or (two others) reason.Word
  x ← ok_or (slot external both.0) reason.Slot
  number ← ok_or (room both.1) reason.Number
  Ok (Seat x number)

-- a release: the slot whose connection or seat is released
abbrev pub free : ℕ → List (List ℕ) → Result Event Reason
free external (word ∷ []) = do
  x ← ok_or (slot external word) reason.Slot
  Ok (Free x)
free external others = Err reason.Word

-- a message: the external line on which it arrives, and its octets, which are empty if there are no digits
abbrev pub message : ℕ → List (List ℕ) → Result Event Reason
message external others = do
  both ← ok_or (one_or_two others) reason.Word
  line ← ok_or (external_line external both.0) reason.Slot
  octets ← at_most max_message_len (octets_written both.1)
  Ok (Message line octets)

-- an external line as the only field
abbrev pub only_line : ℕ → List (List ℕ) → Result ℕ Reason
only_line external (word ∷ []) = ok_or (external_line external word) reason.Slot
only_line external others = Err reason.Word

-- a data link that is up, or down: the external line whose link it is
abbrev pub link_up : ℕ → List (List ℕ) → Result Event Reason
link_up external others = do
  line ← only_line external others
  Ok (LinkUp line)

abbrev pub link_down : ℕ → List (List ℕ) → Result Event Reason
link_down external others = do
  line ← only_line external others
  Ok (LinkDown line)

-- a restart of a line by the exchange: the external line
abbrev pub restart : ℕ → List (List ℕ) → Result Event Reason
restart external others = do
  line ← only_line external others
  Ok (RestartLine line)

-- a line that is an event
abbrev pub happens : Result Event Reason → Result Said Reason
happens reading = reading >>= λ event. Ok (said.Happens event)

-- one more line of a list: an external line that the list does not have yet
abbrev pub with_line : ℕ → List ℕ → List ℕ → Result (List ℕ) Reason
with_line external lines word = do
  line ← ok_or (external_line external word) reason.Slot
  if is_listed line lines || (length lines == 32) then Err reason.Slot else Ok (lines ++ line ∷ [])

abbrev pub with_lines : ℕ → List ℕ → List (List ℕ) → Result (List ℕ) Reason
with_lines external lines [] = Ok lines
with_lines external lines (word ∷ others) = with_line external lines word >>= λ more. with_lines external more others

-- the target of a number: `line` with an external line, `lines` with at least one, or `room` with a conference room
abbrev pub target : ℕ → List ℕ → List ℕ → List (List ℕ) → Result Target Reason
target external name word others =
    if bytes_eq name (codes "line") then (do
      line ← ok_or (external_line external word) reason.Slot
      Ok (goal.Line line))
    else if bytes_eq name (codes "room") then (do
      number ← ok_or (room word) reason.Number
      Ok (goal.Room number))
    else if bytes_eq name (codes "lines") then (do
      lines ← with_lines external [] (word ∷ others)
      Ok (goal.Lines lines))
    else Err reason.Word

-- a number: 1 to 20 digits and their target
abbrev pub number : ℕ → List (List ℕ) → Result Number Reason
number external others = do
  parts ← ok_or (digits_and_target others) reason.Word
  digits ← if is_number parts.0 then Ok parts.0 else Err reason.Number
  stands ← target external parts.1 parts.2 parts.3
  Ok (record { digits = digits; target = stands })

-- a line that is a number
abbrev pub numbered : Result Number Reason → Result Said Reason
numbered reading = reading >>= λ n. Ok (said.Numbered n)

-- the tone with this name
abbrev pub tone_named : List ℕ → Option Tone
tone_named name =
    if bytes_eq name (codes "ringback") then Some Ringback
    else if bytes_eq name (codes "busy") then Some Busy
    else None

-- a tone: `ringback` or `busy`, without an earlier line, and its octets
abbrev pub tone : Tones → List (List ℕ) → Result GivenTone Reason
tone tones others = do
  both ← ok_or (two others) reason.Word
  kind ← ok_or (tone_named both.0) reason.Word
  fresh ← if is_given tones kind then Err reason.Word else Ok kind
  octets ← of_tone (octets_written both.1)
  Ok (record { kind = kind; octets = octets })

-- a line that is a tone
abbrev pub toned : Result GivenTone Reason → Result Said Reason
toned reading = reading >>= λ t. Ok (said.Toned t)

-- the tones after one more line
abbrev pub with_tone : Tones → GivenTone → Tones
with_tone tones given = with_octets tones given.kind given.octets

-- a timer: its name, without an earlier line, and its duration in frames
abbrev pub timer : GivenTimers → List (List ℕ) → Result GivenTimer Reason
timer given others = do
  both ← ok_or (two others) reason.Word
  name ← ok_or (timer_named both.0) reason.Word
  fresh ← if is_some (frames_given given name) then Err reason.Word else Ok name
  frames ← ok_or (option_and_then if_some_frames (numeral both.1)) reason.Number
  Ok (record { name = name; frames = frames })

-- a line that is a timer
abbrev pub timed : Result GivenTimer Reason → Result Said Reason
timed reading = reading >>= λ t. Ok (said.Timed t)

-- a line of one field
abbrev pub alone : Said → List (List ℕ) → Result Said Reason
alone said [] = Ok said
alone said (word ∷ others) = Err reason.Word

-- the kind of a line with this first field
abbrev pub kind_of : List ℕ → LineKind
kind_of word =
    if bytes_eq word (codes "F") then kind.Frame
    else if bytes_eq word (codes "M") then kind.Message
    else if bytes_eq word (codes "sync") then kind.Sync
    else if bytes_eq word (codes "nail") then kind.Nail
    else if bytes_eq word (codes "seat") then kind.Seat
    else if bytes_eq word (codes "free") then kind.Free
    else if bytes_eq word (codes "number") then kind.Number
    else if bytes_eq word (codes "tone") then kind.Tone
    else if bytes_eq word (codes "timer") then kind.Timer
    else if bytes_eq word (codes "up") then kind.LinkUp
    else if bytes_eq word (codes "down") then kind.LinkDown
    else if bytes_eq word (codes "restart") then kind.RestartLine
    else if bytes_eq word (codes "change") then kind.Change
    else kind.Unknown

-- the result of the lines so far, as far as the next line depends on it: the sizes of the header, the number of events, the numbers, the tones, the
-- timers and the number of changes of meters
pub record SoFar : Type 0 where
  pub sizes : Option Sizes
  pub events : ℕ
  pub plan : List Number
  pub tones : Tones
  pub timers : GivenTimers
  pub changes : ℕ

-- a line that is valid only before the first event
abbrev pub before_events : SoFar → Result Said Reason → Result Said Reason
before_events so_far reading = if so_far.events == 0 then reading else Err reason.Word

-- a line of a kind, from the fields after the first, in an exchange with `external` external lines
abbrev pub by_kind : SoFar → ℕ → LineKind → List (List ℕ) → Result Said Reason
by_kind so_far external kind.Frame others = happens (frame external others)
by_kind so_far external kind.Message others = happens (message external others)
by_kind so_far external kind.Nail others = happens (nail external others)
by_kind so_far external kind.Seat others = happens (seat external others)
by_kind so_far external kind.Free others = happens (free external others)
by_kind so_far external kind.LinkUp others = happens (link_up external others)
by_kind so_far external kind.LinkDown others = happens (link_down external others)
by_kind so_far external kind.RestartLine others = happens (restart external others)
by_kind so_far external kind.Number others = before_events so_far (numbered (number external others))
by_kind so_far external kind.Tone others = before_events so_far (toned (tone so_far.tones others))
by_kind so_far external kind.Timer others = before_events so_far (timed (timer so_far.timers others))
by_kind so_far external kind.Sync others = alone said.Sync others
by_kind so_far external kind.Change others = alone said.Change others
by_kind so_far external kind.Unknown others = Err reason.Word

abbrev pub by_words : SoFar → ℕ → List (List ℕ) → Result Said Reason
by_words so_far external [] = Ok said.Nothing
by_words so_far external (first ∷ others) = by_kind so_far external (kind_of first) others

-- a line after the header: its octets are printable, and its fields are valid for its kind
abbrev pub after_header : SoFar → ℕ → List ℕ → Result Said Reason
after_header so_far external line = if list_all is_printable line then by_words so_far external (words line) else Err reason.Word

-- the first line that is neither blank nor a comment is the header
abbrev pub by_place : SoFar → Option Sizes → List ℕ → Result Said Reason
by_place so_far None line = ok_or (header (words line)) reason.Header >>= λ sizes. Ok (said.Header sizes)
by_place so_far (Some sizes) line = after_header so_far sizes.external line

-- the content of a line, without the last checks; a blank line or a comment has none
abbrev pub reads : SoFar → List ℕ → Result Said Reason
reads so_far line = if is_comment line || is_blank line then Ok said.Nothing else by_place so_far so_far.sizes line

-- the limits of a complete trace
abbrev pub trace_limits : Limits
trace_limits = record { max_events = max_events; max_changes = max_changes }

-- the limits of lines that are read as they arrive, which fewer than 2^32 lines never exceed
abbrev pub line_limits : Limits
line_limits = record { max_events = 4294967295; max_changes = 4294967295 }

-- the last checks of a line: no number equals, begins or continues an earlier one, there are at most 256 numbers, and neither the events nor the
-- changes exceed their limit
abbrev pub joins : Limits → SoFar → Said → Result Said Reason
joins limits so_far (said.Numbered number) =
    if is_number_taken so_far.plan number.digits then Err reason.Prefix
    else if length so_far.plan == 256 then Err reason.Limit
    else Ok (said.Numbered number)
joins limits so_far (said.Happens event) = if nat_lt so_far.events limits.max_events then Ok (said.Happens event) else Err reason.Limit
joins limits so_far said.Change = if nat_lt so_far.changes limits.max_changes then Ok said.Change else Err reason.Limit
joins limits so_far other = Ok other

-- the content of a line after the lines so far, or its first failing check
abbrev pub says : Limits → SoFar → List ℕ → Result Said Reason
says limits so_far line = reads so_far line >>= joins limits so_far

-- the error of a line: its first failing check, or a failed allocation
abbrev pub Fails : {T : Type 0} → LineError → Result T Reason → Type 0
Fails fault.Memory reading = Unit {0}
Fails (fault.Refused why) reading = reading ≡ Err why

abbrev pub Gives : {T : Type 0} → Result T LineError → Result T Reason → Type 0
Gives (Ok value) reading = reading ≡ Ok value
Gives (Err e) reading = Fails e reading
