-- The lines of events, stored until they are written. Source: this project.
use Rattle.std.specs.Prelude.{◌≡◌, ℕ, ◌<◌, ◌≤◌, List, [], ◌∷◌, ◌++◌, length, drop, All, Option, Some, None}
use Rattle.exchange_events.specs.declared.record.CallRecord.{CallRecord}
use Rattle.report_text.specs.Report.{answer_line}
use Rattle.call_processor.specs.declared.worked.Placed.{Placed}
use Rattle.report_lines.specs.declared.listing.Listing.{Listing}
use Rattle.report_lines.specs.declared.listing.Listing.TheVariants as listing
use Rattle.call_profile.specs.CallsTold.{calls_kept}

-- the stored result of an event: its position in the history, its line, and the records of the calls that ended with it
pub record Line : Type 0 where
  pub place : ℕ
  pub text : List ℕ
  pub records : List CallRecord

-- the part of a report that a run writes
abbrev pub listed : Listing → List ℕ → List ℕ
listed listing.Report text = text
listed listing.Nothing text = []

-- the line of an answer at its position, which is empty if nothing is listed
abbrev pub line_of : Listing → Placed → Line
line_of l p = record { place = p.place; text = listed l (answer_line p.answer); records = calls_kept p.answer.reply }

-- the text of consecutive lines
abbrev pub text_of : List Line → List ℕ
text_of [] = []
text_of (l ∷ ls) = l.text ++ text_of ls

-- the records of consecutive lines
abbrev pub calls_of : List Line → List CallRecord
calls_of [] = []
calls_of (l ∷ ls) = l.records ++ calls_of ls

-- the position of the first of these lines
abbrev pub first_line : List Line → Option ℕ
first_line [] = None
first_line (l ∷ ls) = Some l.place

-- The first lines moved to the end of others: the first one, and the next ones as long as they come before a position.
pub record HandsLines (below : ℕ) (lines others from to : List Line) : Type 0 where
  pub run : List Line
  pub parts : lines ≡ run ++ from
  pub some : 0 < length lines → 0 < length run
  pub before : All (λ (l : Line). l.place < below) (drop 1 run)
  pub stops : (place : ℕ) → first_line from ≡ Some place → below ≤ place
  pub got : to ≡ others ++ run
