-- The size of an exchange. Source: this project.
use Rattle.std.specs.Prelude.{ℕ}

-- the numbers of external lines, bridge lines and internal slots
pub record Dimensions : Type 0 where
  pub external : ℕ
  pub bridges : ℕ
  pub slots : ℕ
