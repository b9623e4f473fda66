-- The report lines of a trace with data links. Source: this project.
use Rattle.std.specs.Prelude.{ℕ, List, [], ◌∷◌, ◌++◌, length, codes, decimal, Option, Some, None}
use Rattle.link_procedures.specs.declared.state.Indication.{Indication}
use Rattle.link_procedures.specs.declared.state.Indication.TheVariants as indication
use Rattle.link_table.specs.declared.notice.Change.{Change}
use Rattle.link_table.specs.declared.notice.Change.TheVariants as change
use Rattle.report_text.specs.Report.{lines_sent, moves, octet_of, on_line, parts}

-- the messages and frames that were sent, each after the number of its line
abbrev pub on_lines : List ℕ → List (List ℕ) → List ℕ
on_lines [] sent = []
on_lines (line ∷ lines) [] = []
on_lines (line ∷ lines) (octets ∷ sent) = on_line line octets ++ on_lines lines sent

-- the same at the boundary of a frame, each after the word `send`
abbrev pub sent_on_lines : List ℕ → List (List ℕ) → List ℕ
sent_on_lines [] sent = []
sent_on_lines (line ∷ lines) [] = []
sent_on_lines (line ∷ lines) (octets ∷ sent) = codes " send" ++ on_line line octets ++ sent_on_lines lines sent

-- the effect of a received frame on call control: a message, or a change of the link
abbrev pub indication_text : Option Indication → List ℕ
indication_text None = []
indication_text (Some indication.Data) = codes " took"
indication_text (Some indication.Established) = codes " up"
indication_text (Some indication.Released) = codes " down"

-- the line of a frame that a link received: its effect on call control, the paths moved, and everything that was sent
abbrev pub link_line : ℕ → Option Indication → Option (ℕ × ℕ) → List ℕ → List (List ℕ) → List ℕ
link_line n told moved lines sent = decimal n ++ codes " link" ++ indication_text told ++ moves moved ++ on_lines lines sent ++ codes "\n"

-- the line of a message, of the restart of a line, or of a change of a link that is not in this exchange
abbrev pub sent_message_line : ℕ → Option (ℕ × ℕ) → List ℕ → List (List ℕ) → List ℕ
sent_message_line n moved lines sent = decimal n ++ codes " message" ++ moves moved ++ on_lines lines sent ++ codes "\n"

-- ---- the line of a frame of the exchange

-- its start: the number of the frame, and everything that was sent at its boundary
abbrev pub frame_start : ℕ → ℕ → List ℕ → List (List ℕ) → List ℕ
frame_start n k lines sent = decimal n ++ codes " frame " ++ decimal k ++ sent_on_lines lines sent

-- the change of the link of a line in its turn
abbrev pub change_text : ℕ → Option Change → List ℕ
change_text line None = []
change_text line (Some change.Up) = codes " up " ++ decimal line
change_text line (Some change.Down) = codes " down " ++ decimal line

-- the turn of the link of a line: its change, and everything that was sent in it
abbrev pub turn_text : ℕ → Option Change → List ℕ → List (List ℕ) → List ℕ
turn_text line told lines sent = change_text line told ++ sent_on_lines lines sent

-- its end: the octets of each line
abbrev pub frame_end : List (List ℕ) → List ℕ
frame_end octets = parts 0 (lines_sent (octet_of octets) (length octets)) ++ codes "\n"
