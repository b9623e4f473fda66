-- The commands, and the fabric that each requests. Source: this project.
use Rattle.std.specs.Prelude.{ℕ, Bool, true, false, List, Some, None, String, map, string_bytes, ◌+◌, ◌≡◌, ◌⊎◌}
use Rattle.std.specs.declared.option.Option.{Option}
use Rattle.exchange_events.specs.declared.trace.Trace.{Trace}
use Rattle.fabric_map.specs.Map.{max_moves}
use Rattle.strict_map.specs.Strict.{max_moves as max_strict_moves}
use Rattle.trace_text.specs.TraceGrammar.{max_bytes}
use Rattle.command_words.specs.Words.{command_of}
use Rattle.command_words.specs.declared.command.Command.{Command}
use Rattle.command_words.specs.declared.command.Command.TheVariants.{Run, Generate, Check}
use Rattle.run_verifier.specs.Checking.{max_checked}
use Rattle.run_verifier.specs.Fabrics.{slots_of}
use Rattle.ex_io.specs.Inputs.{max_bytes_read}
use Rattle.exchange_run.specs.Outcomes.{Fabric}

-- ---- the commands

-- the arguments request a run of the trace that is read, on a strict fabric or on the other
abbrev pub IsRunOn : List (List ℕ) → Bool → Type 0
IsRunOn words strict = command_of words ≡ Some (Run strict)

-- the arguments request a run on either fabric
abbrev pub IsRun : List (List ℕ) → Type 0
IsRun words = (strict : Bool) × IsRunOn words strict

-- the arguments request a run of the trace generated from this seed with n calls
abbrev pub IsGeneration : List (List ℕ) → ℕ → ℕ → Type 0
IsGeneration words seed calls = command_of words ≡ Some (Generate seed calls)

-- the arguments request the verdict on a report that is read with its trace, for a strict fabric or for the other
abbrev pub IsCheckOn : List (List ℕ) → Bool → Type 0
IsCheckOn words strict = command_of words ≡ Some (Check strict)

-- the arguments request a verdict for either fabric
abbrev pub IsCheck : List (List ℕ) → Type 0
IsCheck words = (strict : Bool) × IsCheckOn words strict

-- the arguments request a run or a verdict, each of which reads an input
abbrev pub IsReading : List (List ℕ) → Type 0
IsReading words = IsRun words ⊎ IsCheck words

-- the arguments are not a command
abbrev pub IsNoCommand : List (List ℕ) → Type 0
IsNoCommand words = command_of words ≡ None

-- the arguments of a command as octets
abbrev pub texts : {A : Type 0} → List (String A) → List (List ℕ)
texts words = map string_bytes words

-- the maximum number of bytes that a command reads: the maximum for a trace, or for a trace and a report, and one piece
-- more
abbrev pub max_read_by : Option Command → ℕ
max_read_by None = 0
max_read_by (Some (Run strict)) = max_bytes_read max_bytes
max_read_by (Some (Generate seed calls)) = 0
max_read_by (Some (Check strict)) = max_bytes_read max_checked

abbrev pub max_read : List (List ℕ) → ℕ
max_read words = max_read_by (command_of words)

-- the fabric for a trace, and the maximum number of live paths that a new path moves: 59 internal slots and no move for
-- a strict one, and 30 internal slots otherwise
abbrev pub fabric_of : Bool → Trace → Fabric
fabric_of true trace = record { slots = slots_of true; max_moves = max_strict_moves (trace.external + trace.bridges) }
fabric_of false trace = record { slots = slots_of false; max_moves = max_moves (trace.external + trace.bridges) }
