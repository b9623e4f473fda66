-- The lines that end a call without a run, and the ways in which such a line is written. Source: this project.
use Rattle.std.specs.Prelude.{ℕ, List, [], codes, decimal, ◌++◌, ◌≡◌}
use Rattle.trace_text.specs.declared.fault.Reason.{Reason}
use Rattle.trace_text.specs.declared.fault.Reason.TheVariants as reason
use Rattle.run_verifier.specs.declared.ending.Ending.{Ending}
use Rattle.run_verifier.specs.declared.ending.Ending.TheVariants as ended
use Rattle.ex_io.specs.Streams.{HasFailed, IsWritten, IsWrittenInPart, Stream}

-- the name of a reason in a refusal
abbrev pub reason_name : Reason → List ℕ
reason_name reason.Header = codes "header"
reason_name reason.Word = codes "word"
reason_name reason.Slot = codes "slot"
reason_name reason.Hex = codes "hex"
reason_name reason.Length = codes "length"
reason_name reason.Number = codes "number"
reason_name reason.Prefix = codes "prefix"
reason_name reason.Limit = codes "limit"

-- the line that refuses an input, at its first line that fails
abbrev pub refusal : ℕ → Reason → List ℕ
refusal number why = codes "refused " ++ decimal number ++ codes " " ++ reason_name why ++ codes "\n"

-- the line that refuses arguments that are not a command
abbrev pub words_refusal : List ℕ
words_refusal = codes "refused words\n"

-- the line for a correct report, and the line with the first wrong or missing line of another report
abbrev pub valid_line : List ℕ
valid_line = codes "valid\n"

abbrev pub invalid_line : ℕ → List ℕ
invalid_line number = codes "invalid " ++ decimal number ++ codes "\n"

-- the line of each ending without a run
abbrev pub line_of : Ending → List ℕ
line_of ended.Completed = valid_line
line_of (ended.Refused line reason) = refusal line reason
line_of ended.WrongArguments = words_refusal
line_of ended.ReadFailed = []
line_of ended.WriteFailed = []
line_of ended.OutOfMemory = []
line_of (ended.Invalid line) = invalid_line line

-- the ending after this line: the line was written and the ending is the wanted one, or the write failed
pub data Says (wanted : Ending) (line : List ℕ) (ending : Ending) (output : Stream) : Type 0 where
  Told_so : ending ≡ wanted → IsWritten output line → Says wanted line ending output
  Untold : ending ≡ ended.WriteFailed → HasFailed output → IsWrittenInPart output line → Says wanted line ending output
