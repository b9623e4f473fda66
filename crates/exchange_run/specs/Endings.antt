-- The endings of a call, with one definition for each. Source: this project.
use Rattle.std.specs.Prelude.{ℕ, Bool, false, List, [], Some, String, ◌≡◌, ◌⊎◌}
use Rattle.std.specs.declared.option.Option.{Option}
use Rattle.exchange_events.specs.declared.trace.Trace.{Trace}
use Rattle.trace_text.specs.declared.fault.Reason.{Reason}
use Rattle.trace_text.specs.TraceGrammar.{IsTrace, IsRefused, max_bytes}
use Rattle.generated_trace.specs.Generated.{IsTrafficOf}
use Rattle.run_verifier.specs.Verdicts.{IsInvalidAt, IsValid}
use Rattle.report_lines.specs.declared.listing.Listing.TheVariants as listing
use Rattle.run_verifier.specs.declared.ending.Ending.{Ending}
use Rattle.run_verifier.specs.declared.ending.Ending.TheVariants as ended
use Rattle.run_verifier.specs.Checking.{Finds, IsChecked, IsUnchecked, max_checked}
use Rattle.run_verifier.specs.Fabrics.{slots_of}
use Rattle.exchange_run.specs.Commands.{IsCheck, IsCheckOn, IsGeneration, IsNoCommand, IsReading, IsRun, IsRunOn, fabric_of, texts}
use Rattle.ex_io.specs.Inputs.{IsInputWithin, IsWholeInput}
use Rattle.exchange_run.specs.Outcomes.{IsIdle, IsHandedOut, IsRunInterrupted, IsRunUnwritten, IsRunWhole, IsRunWritten, Part, Parties, Whole}
use Rattle.run_verifier.specs.Refusals.{invalid_line, line_of, refusal, valid_line, words_refusal}
use Rattle.run_verifier.specs.Statuses.{status_of}
use Rattle.ex_io.specs.Streams.{HasFailed, IsUntouched, IsWritten, IsWrittenInPart, Stream}
use Rattle.exchange_run.specs.Summary.{summary_text}

-- ---- the command of a call

-- the command runs this trace, which is all of the input, on a strict fabric or on the other
pub record IsTraceRead (arguments : List (List ℕ)) (input : Stream) (strict : Bool) (trace : Trace) : Type 0 where
  pub asked : IsRunOn arguments strict
  pub bytes : List ℕ
  pub read : IsWholeInput input.old input.new bytes
  pub is_trace : IsTrace bytes trace

-- the command runs this generated trace
pub record IsTraceGenerated (arguments : List (List ℕ)) (trace : Trace) : Type 0 where
  pub seed : ℕ
  pub calls : ℕ
  pub asked : IsGeneration arguments seed calls
  pub generated : IsTrafficOf seed calls trace

-- ---- the finding of a call without a run

-- all of the input was read, and its report is the report of its trace in a lawful order
pub record IsReportValid (arguments : List (List ℕ)) (input : Stream) : Type 0 where
  pub strict : Bool
  pub asked : IsCheckOn arguments strict
  pub bytes : List ℕ
  pub read : IsWholeInput input.old input.new bytes
  pub trace : Trace
  pub report : List ℕ
  pub checked : IsChecked bytes trace report
  pub valid : IsValid (slots_of strict) trace report

-- all of the input was read, and this line of its report is the first that is wrong or missing
pub record IsReportInvalid (arguments : List (List ℕ)) (input : Stream) (line : ℕ) : Type 0 where
  pub strict : Bool
  pub asked : IsCheckOn arguments strict
  pub bytes : List ℕ
  pub read : IsWholeInput input.old input.new bytes
  pub trace : Trace
  pub report : List ℕ
  pub checked : IsChecked bytes trace report
  pub invalid : IsInvalidAt (slots_of strict) trace report line

-- the input of `run` is not a trace, or the input of `check` has none: this is its first line that fails, for this
-- reason
pub data IsNoTrace (arguments : List (List ℕ)) (input : Stream) (line : ℕ) (reason : Reason) : Type 0 where
  For_run : IsRun arguments → (bytes : List ℕ) → IsInputWithin max_bytes input.old input.new bytes → IsRefused bytes line reason → IsNoTrace arguments input line reason
  For_check : IsCheck arguments → (bytes : List ℕ) → IsInputWithin max_checked input.old input.new bytes → IsUnchecked bytes line reason → IsNoTrace arguments input line reason

-- the finding on an input, by the ending of the call that reports it
abbrev pub IsFound : List (List ℕ) → Stream → Ending → Type 0
IsFound arguments input ended.Completed = IsReportValid arguments input
IsFound arguments input (ended.Refused line reason) = IsNoTrace arguments input line reason
IsFound arguments input ended.WrongArguments = IsNoCommand arguments
IsFound arguments input ended.ReadFailed = ⊥
IsFound arguments input ended.WriteFailed = ⊥
IsFound arguments input ended.OutOfMemory = ⊥
IsFound arguments input (ended.Invalid line) = IsReportInvalid arguments input line

-- ---- a definition for each ending

-- The trace that was read was run, and its whole report was written, with the summary of each removed meter. Or the
-- generated trace was run, and its summary was written. Or the report that was read is correct for its trace, and the
-- line `valid` was written.
pub data IsCompleted (arguments : List (List ℕ)) (input : Stream) (x : Parties) : Type 0 where
  Reported : (strict : Bool) (trace : Trace) → IsTraceRead arguments input strict trace → IsRunWritten x listing.Report (fabric_of strict trace) trace
      → IsCompleted arguments input x
  Summed : (trace : Trace) → IsTraceGenerated arguments trace → IsRunWhole x listing.Nothing (fabric_of false trace) trace
      → IsWritten x.output (summary_text trace x.meters.summary) → IsHandedOut x (fabric_of false trace) trace → IsCompleted arguments input x
  Found_valid : IsReportValid arguments input → IsWritten x.output valid_line → IsIdle x → IsCompleted arguments input x

-- The input is not a trace, or for `check` has none, and the line of the refusal was written. No event was processed.
pub record IsInputRefused (arguments : List (List ℕ)) (input : Stream) (x : Parties) (line : ℕ) (reason : Reason) : Type 0 where
  pub found : IsNoTrace arguments input line reason
  pub text : IsWritten x.output (refusal line reason)
  pub idle : IsIdle x

-- The arguments are not a command, and the line of the refusal was written. No event was processed.
pub record AreArgumentsWrong (arguments : List (List ℕ)) (x : Parties) : Type 0 where
  pub found : IsNoCommand arguments
  pub text : IsWritten x.output words_refusal
  pub idle : IsIdle x

-- A read of the input of `run` or of `check` failed. Nothing was written, and no event was processed.
pub record HasReadFailed (arguments : List (List ℕ)) (input : Stream) (x : Parties) : Type 0 where
  pub reading : IsReading arguments
  pub failed : HasFailed input
  pub text : IsUntouched x.output
  pub idle : IsIdle x

-- a prefix of this text was written: a refusal or a verdict, the report of whole segments, or the summary of a whole
-- run
pub data IsWriting (arguments : List (List ℕ)) (input : Stream) (x : Parties) : Type 0 where
  In_line : (due : Ending) → IsFound arguments input due → IsWrittenInPart x.output (line_of due) → IsIdle x → IsWriting arguments input x
  In_report : (strict : Bool) (trace : Trace) → IsTraceRead arguments input strict trace → IsRunUnwritten x listing.Report (fabric_of strict trace).slots trace
      → IsWriting arguments input x
  In_generation : (trace : Trace) → IsTraceGenerated arguments trace → IsRunUnwritten x listing.Nothing (fabric_of false trace).slots trace
      → IsWriting arguments input x
  In_summary : (trace : Trace) → IsTraceGenerated arguments trace → IsRunWhole x listing.Nothing (fabric_of false trace) trace
      → IsWrittenInPart x.output (summary_text trace x.meters.summary) → x.no_engine → IsWriting arguments input x

-- A write failed.
pub record HasWriteFailed (arguments : List (List ℕ)) (input : Stream) (x : Parties) : Type 0 where
  pub failed : HasFailed x.output
  pub writing : IsWriting arguments input x

-- An allocation failed: before anything was written or processed, in the run of the trace that was read or generated,
-- or before the summary of a whole run.
pub data HasRunOutOfMemory (arguments : List (List ℕ)) (input : Stream) (x : Parties) : Type 0 where
  At_once : IsUntouched x.output → IsIdle x → HasRunOutOfMemory arguments input x
  In_run : (strict : Bool) (trace : Trace) → IsTraceRead arguments input strict trace → IsRunInterrupted x listing.Report (fabric_of strict trace).slots trace
      → HasRunOutOfMemory arguments input x
  In_generated : (trace : Trace) → IsTraceGenerated arguments trace → IsRunInterrupted x listing.Nothing (fabric_of false trace).slots trace
      → HasRunOutOfMemory arguments input x
  Before_summary : (trace : Trace) → IsTraceGenerated arguments trace → IsRunWhole x listing.Nothing (fabric_of false trace) trace → IsWritten x.output []
      → x.no_engine → HasRunOutOfMemory arguments input x

-- A line of the report is wrong or missing, and the line with its number was written. No event was processed.
pub record IsReportRejected (arguments : List (List ℕ)) (input : Stream) (x : Parties) (line : ℕ) : Type 0 where
  pub found : IsReportInvalid arguments input line
  pub text : IsWritten x.output (invalid_line line)
  pub idle : IsIdle x

-- the facts about a call, by its ending
abbrev pub HasEnded : List (List ℕ) → Stream → Parties → Ending → Type 0
HasEnded arguments input x ended.Completed = IsCompleted arguments input x
HasEnded arguments input x (ended.Refused line reason) = IsInputRefused arguments input x line reason
HasEnded arguments input x ended.WrongArguments = AreArgumentsWrong arguments x
HasEnded arguments input x ended.ReadFailed = HasReadFailed arguments input x
HasEnded arguments input x ended.WriteFailed = HasWriteFailed arguments input x
HasEnded arguments input x ended.OutOfMemory = HasRunOutOfMemory arguments input x
HasEnded arguments input x (ended.Invalid line) = IsReportRejected arguments input x line

-- a whole call with these arguments and this input ended, with the facts for its ending
abbrev pub Ends : {A : Type 0} → List (String A) → Stream → Whole → Type 0
Ends arguments input call = (ending : Ending) × (call.status ≡ status_of ending) × HasEnded (texts arguments) input call.parties ending

-- ---- the required ending for the arguments and the input

-- the required ending for these arguments, and for an input with these bytes left
pub data IsDue (arguments : List (List ℕ)) (left : Option (List ℕ)) (due : Ending) : Type 0 where
  Arguments_decide : IsNoCommand arguments → due ≡ ended.WrongArguments → IsDue arguments left due
  Trace_decides : IsRun arguments → (bytes : List ℕ) (trace : Trace) → left ≡ Some bytes → IsTrace bytes trace → due ≡ ended.Completed → IsDue arguments left due
  Line_decides : IsRun arguments → (bytes : List ℕ) (line : ℕ) (reason : Reason) → left ≡ Some bytes → IsRefused bytes line reason → due ≡ ended.Refused line reason
      → IsDue arguments left due
  Seed_decides : (seed calls : ℕ) → IsGeneration arguments seed calls → due ≡ ended.Completed → IsDue arguments left due
  Report_decides : (strict : Bool) → IsCheckOn arguments strict → (bytes : List ℕ) → left ≡ Some bytes → Finds strict bytes due → IsDue arguments left due

-- a call ends so, unless a read, a write or an allocation fails
abbrev pub EndsAs : Ending → ℕ → Type 0
EndsAs due status = (status ≡ status_of due) ⊎ (status ≡ status_of ended.ReadFailed) ⊎ (status ≡ status_of ended.WriteFailed) ⊎ (status ≡ status_of ended.OutOfMemory)

-- ---- the endings of the parts of a call

-- a part of a call with these arguments and this input ended, with the facts for its ending
abbrev pub PartEnds : List (List ℕ) → Stream → Part → Type 0
PartEnds arguments input p = HasEnded arguments input p.parties p.ending

-- the same for any arguments that request a run on this fabric, for any of them with an input of these bytes, and for
-- any that request a generation
abbrev pub RunEnds : Bool → Stream → Part → Type 0
RunEnds strict input p = (arguments : List (List ℕ)) → IsRunOn arguments strict → PartEnds arguments input p

abbrev pub InputEnds : Bool → List ℕ → Part → Type 0
InputEnds strict bytes p =
    (arguments : List (List ℕ)) (input : Stream) → IsRunOn arguments strict → IsInputWithin max_bytes input.old input.new bytes → PartEnds arguments input p

abbrev pub GenerationEnds : ℕ → ℕ → Part → Type 0
GenerationEnds seed calls p = (arguments : List (List ℕ)) (input : Stream) → IsGeneration arguments seed calls → PartEnds arguments input p
