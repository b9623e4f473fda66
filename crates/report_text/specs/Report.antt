-- The text of a report, line by line. Source: this project.
use Rattle.std.specs.Prelude.{ℕ, ◌+◌, ◌==◌, List, [], ◌∷◌, ◌++◌, length, map, codes, decimal, slice_index, slice_index_or, if◌then◌else◌, Option, Some, None}
use Rattle.std.specs.List.{list_all, range_with_len}
use Rattle.hex.specs.Hex.{encode_upper}
use Rattle.circuit_model.specs.declared.channel.Slot.{Slot}
use Rattle.circuit_model.specs.FrameInput.{idle_octet}
use Rattle.exchange_events.specs.declared.answer.Answer.{Answer}
use Rattle.exchange_events.specs.declared.answer.Kept.{Kept}
use Rattle.exchange_events.specs.declared.answer.Kept.TheVariants.{Granted, Busy, Seated, NoPort, Freed, NotNailed, Sent, Frame}
use Rattle.exchange_events.specs.declared.outbox.Outbox.{Outbox}
use Rattle.exchange_events.specs.declared.outbox.Response.{Response}
use Rattle.exchange_events.specs.declared.outbox.Response.TheVariants as response
use Rattle.exchange_events.specs.declared.signal.Signal.{Signal}
use Rattle.exchange_events.specs.Kept.{kept_of}
use Rattle.exchange_events.specs.Responses.{reply_of}

-- the 30 octets of a line, in order of place
unfoldable pub line_octets : (Slot → ℕ) → ℕ → List ℕ
line_octets octet line = map (λ place. octet (record { line = line; place = place })) (range_with_len 0 30)

-- the octets that each of n lines is sent, from the octet of each slot
abbrev pub lines_sent : (Slot → ℕ) → ℕ → List (List ℕ)
lines_sent octet lines = map (line_octets octet) (range_with_len 0 lines)

-- the octet of a slot in rows of octets, one row for each line
abbrev pub octet_of : List (List ℕ) → Slot → ℕ
octet_of rows at = slice_index (slice_index_or rows at.line []) at.place

-- octets of a line, after its number
abbrev pub on_line : ℕ → List ℕ → List ℕ
on_line line octets = codes " " ++ decimal line ++ codes ":" ++ encode_upper octets

-- a line's part of a frame: its number and its octets, or nothing if all of them are idle
abbrev pub part : ℕ → List ℕ → List ℕ
part line octets = if list_all (λ octet. octet == idle_octet) octets then [] else on_line line octets

-- the parts of a frame, from a line on
abbrev pub parts : ℕ → List (List ℕ) → List ℕ
parts line [] = []
parts line (octets ∷ rest) = part line octets ++ parts (line + 1) rest

-- the messages that were sent, each after the number of its line
abbrev pub messages : List Signal → List ℕ
messages [] = []
messages (sent ∷ rest) = on_line sent.line sent.octets ++ messages rest

-- the numbers of live paths that a connection or a seat moved, if there was one
abbrev pub moves : Option (ℕ × ℕ) → List ℕ
moves None = []
moves (Some (a, b)) = codes " moved " ++ decimal a ++ codes " " ++ decimal b

-- the line of a message, with the messages sent in reply
abbrev pub message_line : ℕ → Option (ℕ × ℕ) → List Signal → List ℕ
message_line n moved sends = decimal n ++ codes " message" ++ moves moved ++ messages sends ++ codes "\n"

-- the messages that were sent at a boundary, each after the word `send` and the number of its line
abbrev pub frame_messages : List Signal → List ℕ
frame_messages [] = []
frame_messages (sent ∷ rest) = codes " send" ++ on_line sent.line sent.octets ++ frame_messages rest

-- the line of frame k, with the messages that were sent at its boundary and the octets of each line
abbrev pub frame_line : List (List ℕ) → ℕ → ℕ → List Signal → List ℕ
frame_line octets n k sends = decimal n ++ codes " frame " ++ decimal k ++ frame_messages sends ++ parts 0 octets ++ codes "\n"

-- the report line for event number n, from the octets of each line if the event is a frame; it has no call records
abbrev pub report_line : List (List ℕ) → ℕ → Kept → List ℕ
report_line octets n (Granted a b) = decimal n ++ codes " granted " ++ decimal a ++ codes " " ++ decimal b ++ codes "\n"
report_line octets n Busy = decimal n ++ codes " busy\n"
report_line octets n (Seated a b) = decimal n ++ codes " seated " ++ decimal a ++ codes " " ++ decimal b ++ codes "\n"
report_line octets n NoPort = decimal n ++ codes " noport\n"
report_line octets n Freed = decimal n ++ codes " freed\n"
report_line octets n NotNailed = decimal n ++ codes " notnailed\n"
report_line octets n (Sent sends moved records) = message_line n moved sends
report_line octets n (Frame k sends records) = frame_line octets n k sends

-- the line of an answer
abbrev pub answer_line : Answer → List ℕ
answer_line answer = report_line (lines_sent (octet_of answer.octets) (length answer.octets)) answer.event answer.reply

-- the lines of consecutive answers
abbrev pub answer_lines : List Answer → List ℕ
answer_lines [] = []
answer_lines (a ∷ answers) = answer_line a ++ answer_lines answers

-- the line of an event, from the response and the outbox of its step
abbrev pub response_line : List (List ℕ) → ℕ → Response → Outbox → List ℕ
response_line octets n said outbox = report_line (lines_sent (octet_of octets) (length octets)) n (kept_of (reply_of said outbox))

-- the stored reply of a response with these moves and messages; no line has call records
abbrev pub kept_with : Response → Option (ℕ × ℕ) → List Signal → Kept
kept_with (response.Granted a b) moved sends = Granted a b
kept_with response.Busy moved sends = Busy
kept_with (response.Seated a b) moved sends = Seated a b
kept_with response.NoPort moved sends = NoPort
kept_with response.Freed moved sends = Freed
kept_with response.NotNailed moved sends = NotNailed
kept_with response.Sent moved sends = Sent sends moved []
kept_with (response.Frame n) moved sends = Frame n sends []

abbrev pub parts_line : List (List ℕ) → ℕ → Response → Option (ℕ × ℕ) → List Signal → List ℕ
parts_line octets n said moved sends = report_line (lines_sent (octet_of octets) (length octets)) n (kept_with said moved sends)

-- the response, the paths moved and the messages sent of a kept reply
abbrev pub response_kept : Kept → Response
response_kept (Granted a b) = response.Granted a b
response_kept Busy = response.Busy
response_kept (Seated a b) = response.Seated a b
response_kept NoPort = response.NoPort
response_kept Freed = response.Freed
response_kept NotNailed = response.NotNailed
response_kept (Sent sends moved records) = response.Sent
response_kept (Frame n sends records) = response.Frame n

abbrev pub moved_kept : Kept → Option (ℕ × ℕ)
moved_kept (Sent sends moved records) = moved
moved_kept _ = None

abbrev pub sends_kept : Kept → List Signal
sends_kept (Sent sends moved records) = sends
sends_kept (Frame number sends records) = sends
sends_kept _ = []
