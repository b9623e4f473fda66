-- The content of a line of a trace with data links, or its first failing check. Source: this project.
use Rattle.std.specs.Prelude.{ℕ, nat_lt, Bool, ◌==◌, ◌||◌, false, List, [], ◌∷◌, ◌++◌, length, codes, Option, Some, None, is_some, ok_or, option_and_then, Result, Ok, Err, if◌then◌else◌}
use Rattle.std.specs.List.{list_all}
use Rattle.std.specs.Str.{bytes_eq}
use Rattle.number_plan.specs.Plan.{is_listed}
use Rattle.exchange_events.specs.declared.trace.Event.TheVariants.{Message}
use Rattle.trace_text.specs.declared.fault.Reason.{Reason}
use Rattle.trace_text.specs.declared.fault.Reason.TheVariants as reason
use Rattle.trace_text.specs.declared.heading.Happening.TheVariants as happening
use Rattle.trace_text.specs.declared.limits.Limits.{Limits}
use Rattle.trace_text.specs.declared.said.Sizes.{Sizes}
use Rattle.trace_text.specs.declared.said.Said.{Said}
use Rattle.trace_text.specs.declared.said.Said.TheVariants.{Nothing, Happens}
use Rattle.trace_text.specs.TraceFields.{external_line, octets_written, at_most}
use Rattle.trace_text.specs.TraceHeading.{happening_of, with_event, with_said}
use Rattle.trace_text.specs.TraceLines.{SoFar, only_line, says, ◌>>=◌}
use Rattle.trace_text.specs.TraceTimers.{if_some_frames}
use Rattle.trace_text.specs.TraceWords.{numeral, words, two, one_or_two, is_printable}
use Rattle.linked_text.specs.declared.said.LinkHappening.{LinkHappening}
use Rattle.linked_text.specs.declared.said.LinkHappening.TheVariants as effect
use Rattle.linked_text.specs.declared.said.LinkKind.{LinkKind}
use Rattle.linked_text.specs.declared.said.LinkKind.TheVariants as kind
use Rattle.linked_text.specs.declared.said.LinkSaid.{LinkSaid}
use Rattle.linked_text.specs.declared.said.LinkSaid.TheVariants.{Linked, Received, Timed}
use Rattle.linked_text.specs.declared.timing.GivenLinkTimer.{GivenLinkTimer}
use Rattle.linked_text.specs.declared.timing.GivenLinkTimers.{GivenLinkTimers}
use Rattle.linked_text.specs.LinkTimers.{link_timer_named, link_frames_given, with_link_timer}

-- the result of the lines so far, as far as the next line depends on it: the result of a trace without data links, in which a received frame counts
-- as an event, the lines with a data link, and the timers of the links
pub record LinkSoFar : Type 0 where
  pub plain : SoFar
  pub linked : List ℕ
  pub timers : GivenLinkTimers

-- ---- the fields of each kind of line

-- a line with a data link: an external line that has none yet
abbrev pub link : ℕ → List ℕ → List (List ℕ) → Result ℕ Reason
link external linked others = do
  line ← only_line external others
  if is_listed line linked then Err reason.Slot else Ok line

-- a longer frame is not a frame of a link: an I frame has at most 264 octets without its check sequence
abbrev pub max_received_len : ℕ
max_received_len = 265

-- a received frame: a line with a data link, and the octets of the frame, without its check sequence
abbrev pub received : ℕ → List ℕ → List (List ℕ) → Result LinkSaid Reason
received external linked others = do
  both ← ok_or (one_or_two others) reason.Word
  line ← ok_or (external_line external both.0) reason.Slot
  known ← if is_listed line linked then Ok line else Err reason.Slot
  octets ← at_most max_received_len (octets_written both.1)
  Ok (Received line octets)

-- a timer of the links: its name, without an earlier line, and its duration in frames
abbrev pub link_timer : GivenLinkTimers → List (List ℕ) → Result GivenLinkTimer Reason
link_timer given others = do
  both ← ok_or (two others) reason.Word
  name ← ok_or (link_timer_named both.0) reason.Word
  fresh ← if is_some (link_frames_given given name) then Err reason.Word else Ok name
  frames ← ok_or (option_and_then if_some_frames (numeral both.1)) reason.Number
  Ok (record { name = name; frames = frames })

-- the first field is the name of a timer of the links
abbrev pub names_link_timer : List (List ℕ) → Bool
names_link_timer [] = false
names_link_timer (name ∷ others) = is_some (link_timer_named name)

-- the line, if there is one, has a data link
abbrev pub has_link : List ℕ → Option ℕ → Bool
has_link linked None = false
has_link linked (Some line) = is_listed line linked

-- the first field is a line with a data link
abbrev pub names_linked : ℕ → List ℕ → List (List ℕ) → Bool
names_linked external linked [] = false
names_linked external linked (word ∷ others) = has_link linked (external_line external word)

-- ---- a line

-- the first octet of a line that may concern a data link: a space, or the first octet of its first field
abbrev pub is_link_octet : ℕ → Bool
is_link_octet octet = (octet == 32) || (octet == 76) || (octet == 77) || (octet == 100) || (octet == 108) || (octet == 116) || (octet == 117)

-- the kind of a line with this first field
abbrev pub link_kind_of : List ℕ → LinkKind
link_kind_of word =
    if bytes_eq word (codes "L") then kind.Received
    else if bytes_eq word (codes "link") then kind.Link
    else if bytes_eq word (codes "timer") then kind.Timer
    else if bytes_eq word (codes "M") then kind.Direct
    else if bytes_eq word (codes "up") then kind.Direct
    else if bytes_eq word (codes "down") then kind.Direct
    else kind.Other

-- a line that is valid only before the first event
abbrev pub before_first : {A : Type 0} → LinkSoFar → Result A Reason → Result A Reason
before_first k reading = if k.plain.events == 0 then reading else Err reason.Word

-- a line that concerns a data link
abbrev pub found : Result LinkSaid Reason → Result (Option LinkSaid) Reason
found reading = reading >>= λ said. Ok (Some said)

abbrev pub linked_line : Result ℕ Reason → Result LinkSaid Reason
linked_line reading = reading >>= λ line. Ok (Linked line)

abbrev pub timed_line : Result GivenLinkTimer Reason → Result LinkSaid Reason
timed_line reading = reading >>= λ given. Ok (Timed given)

-- a line of a kind, from the fields after the first, in an exchange with `external` external lines; a message and a change of a link are refused on a
-- line with a data link, and the restart of a line is not
abbrev pub by_link_kind : LinkSoFar → ℕ → LinkKind → List (List ℕ) → Result (Option LinkSaid) Reason
by_link_kind k external kind.Received others = found (received external k.linked others)
by_link_kind k external kind.Link others = found (before_first k (linked_line (link external k.linked others)))
by_link_kind k external kind.Timer others = if names_link_timer others then found (before_first k (timed_line (link_timer k.timers others))) else Ok None
by_link_kind k external kind.Direct others = if names_linked external k.linked others then Err reason.Slot else Ok None
by_link_kind k external kind.Other others = Ok None

abbrev pub by_link_words : LinkSoFar → ℕ → List (List ℕ) → Result (Option LinkSaid) Reason
by_link_words k external [] = Ok None
by_link_words k external (first ∷ others) = by_link_kind k external (link_kind_of first) others

-- no line before the header concerns a data link, and no line with an octet that is not printable
abbrev pub by_header : LinkSoFar → Option Sizes → List ℕ → Result (Option LinkSaid) Reason
by_header k None line = Ok None
by_header k (Some sizes) line = if list_all is_printable line then by_link_words k sizes.external (words line) else Ok None

-- the content of a line that concerns a data link, without the last check; any other line has none
abbrev pub link_said : LinkSoFar → List ℕ → Result (Option LinkSaid) Reason
link_said k line = by_header k k.plain.sizes line

-- the last check of such a line: at most 32 lines have a data link, and the events do not exceed their limit
abbrev pub joins_link : Limits → LinkSoFar → LinkSaid → Result LinkSaid Reason
joins_link limits k (Linked line) = if length k.linked == 32 then Err reason.Slot else Ok (Linked line)
joins_link limits k (Received line octets) = if nat_lt k.plain.events limits.max_events then Ok (Received line octets) else Err reason.Limit
joins_link limits k other = Ok other

-- the content of a line of a trace with data links: a content of a trace without them, or one that concerns a link
pub data Content : Type 0 where
  Plain : Said → Content
  On_link : LinkSaid → Content

abbrev pub says_by : Limits → LinkSoFar → List ℕ → Option LinkSaid → Result Content Reason
says_by limits k line None = says limits k.plain line >>= λ said. Ok (Plain said)
says_by limits k line (Some said) = joins_link limits k said >>= λ joined. Ok (On_link joined)

-- the content of a line after the lines so far, or its first failing check
abbrev pub says_in_turn : Limits → LinkSoFar → List ℕ → Result Content Reason
says_in_turn limits k line = link_said k line >>= says_by limits k line

-- ---- the effect of a line

-- the effect of a line that concerns a data link: the event of a received frame, or none
abbrev pub happening_of_link : LinkSaid → LinkHappening
happening_of_link (Received line octets) = effect.Received line octets
happening_of_link other = effect.Plain happening.Nothing

abbrev pub effect_of : Content → LinkHappening
effect_of (Plain said) = effect.Plain (happening_of said)
effect_of (On_link said) = happening_of_link said

-- the result of the lines after one more line that concerns a data link
abbrev pub with_link_said : LinkSoFar → LinkSaid → LinkSoFar
with_link_said k (Linked line) = record k { linked = k.linked ++ line ∷ [] }
with_link_said k (Received line octets) = record k { plain = with_event k.plain }
with_link_said k (Timed given) = record k { timers = with_link_timer k.timers given }

abbrev pub with_content : LinkSoFar → Content → LinkSoFar
with_content k (Plain said) = record k { plain = with_said k.plain said }
with_content k (On_link said) = with_link_said k said

-- the content of the line for a reader of traces without data links: a received frame is an event, as a message of its line would be, and a link or a
-- timer of links is nothing
abbrev pub plain_of_link : LinkSaid → Said
plain_of_link (Received line octets) = Happens (Message line octets)
plain_of_link other = Nothing

abbrev pub plain_of : Content → Said
plain_of (Plain said) = said
plain_of (On_link said) = plain_of_link said
