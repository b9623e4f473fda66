-- The source and the sink over a reader and a writer of the system. Source: this project.
use Rattle.std.specs.Prelude.{ℕ, Result, is_err, if◌then◌else◌}
use Rattle.ex_io.specs.Ends.{counted}

-- a reader or writer with the number of its failed calls
pub record Endpoint (T : Type 0) : Type 0 where
  pub inner : T
  pub faults : ℕ

-- the error count after a call
abbrev pub faults_after : {T E : Type 0} → ℕ → Result T E → ℕ
faults_after faults result = if is_err result then counted faults else faults
