-- The calls to one line, and a count of them: an example of a program's own meter. Source: this project.
use Rattle.std.specs.Prelude.{◌≡◌, ℕ, ◌+◌, ◌==◌, Bool, false, List, ◌++◌, codes, decimal}
use Rattle.std.specs.List.{count_by}
use Rattle.exchange_events.specs.declared.record.Party.{Party}
use Rattle.exchange_events.specs.declared.record.Party.TheVariants.{Line, Room}
use Rattle.exchange_events.specs.declared.record.CallRecord.{CallRecord}
use Rattle.meters.specs.Registers.{register_value}

-- whether a call to this party is one to a slot of this line
abbrev pub is_to : ℕ → Party → Bool
is_to line (Line at) = at.line == line
is_to line (Room number) = false

-- the number of calls to this line
abbrev pub calls_to : ℕ → List CallRecord → ℕ
calls_to line calls = count_by (λ call. is_to line call.called) calls

-- a count of the calls to one line
pub record LineCount : Type 0 where
  pub line : ℕ
  pub calls : ℕ

-- the count represents a list of calls
abbrev pub IsCountOf : List CallRecord → LineCount → Type 0
IsCountOf calls count = count.calls ≡ register_value (calls_to count.line calls)

-- the text of a count of the calls to a line
abbrev pub to_line : ℕ → ℕ → List ℕ
to_line line calls = codes "to " ++ decimal line ++ codes ": " ++ decimal calls ++ codes "\n"

-- the text of a count after further calls
abbrev pub to_text_with : LineCount → List CallRecord → List ℕ
to_text_with count more = to_line count.line (register_value (count.calls + calls_to count.line more))
