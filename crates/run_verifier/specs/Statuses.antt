-- The status of each ending of a call. Source: this project.
use Rattle.std.specs.Prelude.{ℕ}
use Rattle.run_verifier.specs.declared.ending.Ending.{Ending}
use Rattle.run_verifier.specs.declared.ending.Ending.TheVariants as ended

-- the status of each ending
abbrev pub status_of : Ending → ℕ
status_of ended.Completed = 0
status_of (ended.Refused line reason) = 1
status_of ended.WrongArguments = 2
status_of ended.ReadFailed = 3
status_of ended.WriteFailed = 4
status_of ended.OutOfMemory = 5
status_of (ended.Invalid line) = 6
