-- A report that is read with its trace, and the verdict on it. Source: this project.
use Rattle.std.specs.Prelude.{ℕ, Bool, List, [], ◌∷◌, ◌++◌, ◌≡◌, ◌≢◌, ◌<◌, ◌≤◌, All, codes, length}
use Rattle.exchange_events.specs.declared.trace.Trace.{Trace}
use Rattle.trace_text.specs.declared.fault.Reason.{Reason}
use Rattle.trace_text.specs.declared.fault.Reason.TheVariants as reason
use Rattle.trace_text.specs.TraceGrammar.{IsTrace, IsRefused}
use Rattle.trace_text.specs.TraceWords.{AreEnded, lines}
use Rattle.run_verifier.specs.Verdicts.{IsInvalidAt, IsValid}
use Rattle.ex_io.specs.Inputs.{IsInputWithin}
use Rattle.run_verifier.specs.Fabrics.{slots_of}
use Rattle.run_verifier.specs.Refusals.{Says, line_of}
use Rattle.ex_io.specs.Streams.{HasFailed, IsUntouched, Stream}
use Rattle.run_verifier.specs.declared.ending.Ending.{Ending}
use Rattle.run_verifier.specs.declared.ending.Ending.TheVariants as ended

-- ---- a trace and its report in one input

-- the maximum number of bytes in a trace and a report together, with the line between them
abbrev pub max_checked : ℕ
max_checked = 268435456

-- the line that divides a trace from a report
abbrev pub divider : List ℕ
divider = codes "report"

-- none of their lines is the divider
abbrev pub HaveNoDivider : List ℕ → Type 0
HaveNoDivider octets = All (λ line. line ≢ divider) (lines octets)

-- the first line of some octets, which ends before their first line feed or with them, and the octets after it
pub data IsFirstLine (octets line others : List ℕ) : Type 0 where
  Fed : All (λ octet. octet ≢ 10) line → octets ≡ line ++ 10 ∷ others → IsFirstLine octets line others
  Unfed : All (λ octet. octet ≢ 10) line → octets ≡ line → others ≡ [] → IsFirstLine octets line others

-- the first line of an input that is exactly `report` divides the trace before it from the report after it; it lacks
-- its line feed only at the end of the input; without such a line, all of the input is the trace, and the report is
-- empty
pub data IsDivided (bytes trace report : List ℕ) : Type 0 where
  By_line : AreEnded trace → HaveNoDivider trace → bytes ≡ trace ++ (divider ++ 10 ∷ report) → IsDivided bytes trace report
  By_end : AreEnded trace → HaveNoDivider trace → bytes ≡ trace ++ divider → report ≡ [] → IsDivided bytes trace report
  By_none : HaveNoDivider bytes → trace ≡ bytes → report ≡ [] → IsDivided bytes trace report

-- the input has a trace and a report
pub record IsChecked (bytes : List ℕ) (t : Trace) (report : List ℕ) : Type 0 where
  pub few : length bytes ≤ max_checked
  pub trace : List ℕ
  pub divided : IsDivided bytes trace report
  pub is_trace : IsTrace trace t

-- the input has no trace and report: it is too long, which is line 0, or its trace is refused
pub data IsUnchecked (bytes : List ℕ) (number : ℕ) (why : Reason) : Type 0 where
  Too_much : max_checked < length bytes → number ≡ 0 → why ≡ reason.Limit → IsUnchecked bytes number why
  No_trace : length bytes ≤ max_checked → (trace report : List ℕ) → IsDivided bytes trace report → IsRefused trace number why → IsUnchecked bytes number why

-- ---- the verdict

-- the finding on an input, by the ending of the call that reports it
abbrev pub Finds : Bool → List ℕ → Ending → Type 0
Finds strict bytes ended.Completed = (t : Trace) × (report : List ℕ) × IsChecked bytes t report × IsValid (slots_of strict) t report
Finds strict bytes (ended.Refused line reason) = IsUnchecked bytes line reason
Finds strict bytes ended.WrongArguments = ⊥
Finds strict bytes ended.ReadFailed = ⊥
Finds strict bytes ended.WriteFailed = ⊥
Finds strict bytes ended.OutOfMemory = ⊥
Finds strict bytes (ended.Invalid line) = (t : Trace) × (report : List ℕ) × IsChecked bytes t report × IsInvalidAt (slots_of strict) t report line

-- the ending of a check of an input: the finding was reported, or its write failed; a read failed; or an allocation
-- failed
pub data Checks (strict : Bool) (input output : Stream) (ending : Ending) : Type 0 where
  Said : (bytes : List ℕ) → IsInputWithin max_checked input.old input.new bytes → (found : Ending) → Finds strict bytes found → Says found (line_of found) ending output
      → Checks strict input output ending
  Not_read : ending ≡ ended.ReadFailed → HasFailed input → IsUntouched output → Checks strict input output ending
  No_memory : ending ≡ ended.OutOfMemory → IsUntouched output → Checks strict input output ending
