-- Lines in one text, each with its entry. Source: this project.
use Rattle.std.specs.Prelude.{◌≡◌, ℕ, ◌+◌, ◌<◌, ◌≤◌, List, [], ◌∷◌, ◌++◌, length, take, drop, All}
use Rattle.exchange_events.specs.declared.record.CallRecord.{CallRecord}
use Rattle.call_processor.specs.Borrowed.{Borrowed}
use Rattle.report_lines.specs.declared.lines.Buffers.{Buffers}
use Rattle.report_lines.specs.declared.lines.LineEntry.{LineEntry}
use Rattle.report_lines.specs.declared.lines.Extent.{Extent}
use Rattle.report_lines.specs.Lines.{Line}

-- the entry of a line
abbrev pub entry_of : Line → LineEntry
entry_of l = record { place = l.place; octets = length l.text; records = length l.records }

-- the number of octets of these lines, and of their records
abbrev pub octets_in : List LineEntry → ℕ
octets_in [] = 0
octets_in (m ∷ ms) = m.octets + octets_in ms

abbrev pub records_in : List LineEntry → ℕ
records_in [] = 0
records_in (m ∷ ms) = m.records + records_in ms

-- the lines of a text, each with its part of these records
abbrev pub lines_in : List ℕ → List CallRecord → List LineEntry → List Line
lines_in text records [] = []
lines_in text records (m ∷ ms) =
    record { place = m.place; text = take m.octets text; records = take m.records records } ∷ lines_in (drop m.octets text) (drop m.records records) ms

-- the lines after those that were moved
abbrev pub lines_left : List ℕ → List CallRecord → List LineEntry → Extent → List Line
lines_left text records entries handed = lines_in (drop handed.octets text) (drop handed.records records) (drop handed.lines entries)

-- the text and the records end with the last line
pub record AreMarked (text : List ℕ) (records : List CallRecord) (entries : List LineEntry) (handed : Extent) : Type 0 where
  pub lines : handed.lines ≤ length entries
  pub octets : length text ≡ handed.octets + octets_in (drop handed.lines entries)
  pub calls : length records ≡ handed.records + records_in (drop handed.lines entries)

-- each line comes before a position
abbrev pub AreBefore : ℕ → List LineEntry → Type 0
AreBefore below entries = All (λ (m : LineEntry). m.place < below) entries

-- there is no line, or the first one comes at this position or after it
abbrev pub BeginFrom : ℕ → List LineEntry → Type 0
BeginFrom below entries = All (λ (m : LineEntry). below ≤ m.place) (take 1 entries)

-- a call appended this text, these records and these entries to the buffers
pub record AreAppended (text : List ℕ) (records : List CallRecord) (entries : List LineEntry) (b : Borrowed Buffers) : Type 0 where
  pub text_is : b.exit.now.text.items ≡ b.entry.now.text.items ++ text
  pub records_are : b.exit.now.records.items ≡ b.entry.now.records.items ++ records
  pub marks_are : b.exit.now.entries.items ≡ b.entry.now.entries.items ++ entries

-- a call appended this line to the buffers, with its records and its entry
abbrev pub IsAppended : Line → Borrowed Buffers → Type 0
IsAppended line b = AreAppended line.text line.records (entry_of line ∷ []) b

-- a call left the text, the records and the entries of the buffers unchanged
abbrev pub AreUnchanged : Borrowed Buffers → Type 0
AreUnchanged b = (b.exit.now.text.items ≡ b.entry.now.text.items) × (b.exit.now.records.items ≡ b.entry.now.records.items) × (b.exit.now.entries.items ≡ b.entry.now.entries.items)
