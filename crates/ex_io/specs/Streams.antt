-- A source and a sink before and after a call, and the bytes that were moved if a read or a write failed. Source: this
-- project.
use Rattle.std.specs.Prelude.{ℕ, ◌≤◌, List, length, take}
use Rattle.std.specs.Io.KnownBytes.{Appends, Consumes, Keeps}
use Rattle.std.specs.declared.option.Option.{Option}
use Rattle.ex_io.specs.Ends.{Rose}

-- at most n bytes were read from the start, perhaps none
abbrev pub ConsumesAtMost : ℕ → Option (List ℕ) → Option (List ℕ) → Type 0
ConsumesAtMost most old new = (bytes : List ℕ) × (length bytes ≤ most) × Consumes old new bytes

-- a prefix of the bytes was written, perhaps none of them
abbrev pub AppendsFront : Option (List ℕ) → Option (List ℕ) → List ℕ → Type 0
AppendsFront old new bytes = (n : ℕ) × (n ≤ length bytes) × Appends old new (take n bytes)

-- a source or a sink before and after a call: the bytes that are left to read or that were written, and its error count
pub record Stream : Type 0 where
  pub old : Option (List ℕ)
  pub new : Option (List ℕ)
  pub before : ℕ
  pub after : ℕ

-- a source or a sink before and after a call, by the definitions of its type
abbrev pub stream : {E : Type 0} → (E → Option (List ℕ)) → (E → ℕ) → (old new : E) → Stream
stream bytes errors old new = record { old = bytes old; new = bytes new; before = errors old; after = errors new }

-- exactly these bytes were written to it, a prefix of them, or nothing
abbrev pub IsWritten : Stream → List ℕ → Type 0
IsWritten output bytes = Appends output.old output.new bytes

abbrev pub IsWrittenInPart : Stream → List ℕ → Type 0
IsWrittenInPart output bytes = AppendsFront output.old output.new bytes

abbrev pub IsUntouched : Stream → Type 0
IsUntouched output = Keeps output.old output.new

-- its error count rose
abbrev pub HasFailed : Stream → Type 0
HasFailed s = Rose s.before s.after
