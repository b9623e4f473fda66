-- The exchange's operations for a message (`Course`). Source: this project.
use Rattle.std.specs.Prelude.{ℕ, List, [], Option, None}
use Rattle.call_profile.specs.Operations.{Operation}

-- the operations, in order; and the cause in the record of a call that they begin to clear, if they may clear one
pub record Course : Type 0 where
  pub operations : List Operation
  pub cause : Option ℕ

-- operations that clear no call
abbrev pub only : List Operation → Course
only operations = record { operations = operations; cause = None }

abbrev pub nothing : Course
nothing = only []
