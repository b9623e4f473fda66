-- Information elements without their positions in memory (ITU-T Q.931 (05/98), 4.5.1).
use Rattle.std.specs.Prelude.{ℕ, List, [], ◌∷◌, Option, Some, None, ◌==◌, if◌then◌else◌}

-- an identifier and the contents; a single octet information element is only an identifier
pub record InformationElement : Type 0 where
  pub code : ℕ
  pub contents : List ℕ

-- the contents of the first element with this identifier; repeated ones are ignored (5.8.5.2)
abbrev pub first_of : ℕ → List InformationElement → Option (List ℕ)
first_of code [] = None
first_of code (e ∷ es) = if e.code == code then Some e.contents else first_of code es
