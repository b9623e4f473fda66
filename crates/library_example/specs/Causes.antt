-- The calls that were cleared with one cause, and a count of them. Source: this project.
use Rattle.std.specs.Prelude.{◌≡◌, ℕ, ◌+◌, ◌==◌, List, ◌++◌, codes, decimal}
use Rattle.std.specs.List.{count_by}
use Rattle.exchange_events.specs.declared.record.CallRecord.{CallRecord}
use Rattle.meters.specs.Registers.{register_value}

-- the number of calls that were cleared with this cause
abbrev pub calls_with : ℕ → List CallRecord → ℕ
calls_with cause calls = count_by (λ call. call.cause == cause) calls

-- a count of the calls that were cleared with one cause
pub record CauseCalls : Type 0 where
  pub cause : ℕ
  pub calls : ℕ

-- the count represents a list of calls
abbrev pub IsCountOf : List CallRecord → CauseCalls → Type 0
IsCountOf calls count = count.calls ≡ register_value (calls_with count.cause calls)

-- the text of a count of the calls with a cause
abbrev pub cause_line : ℕ → ℕ → List ℕ
cause_line cause calls = codes "cause " ++ decimal cause ++ codes ": " ++ decimal calls ++ codes "\n"

-- the text of a count after it records these calls too
abbrev pub text_with : CauseCalls → List CallRecord → List ℕ
text_with count more = cause_line count.cause (register_value (count.calls + calls_with count.cause more))
