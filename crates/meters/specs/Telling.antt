-- A meter before and after it recorded calls, by the calls that it represents and its text. Source: this project.
use Rattle.std.specs.Prelude.{◌≡◌, ℕ, List, ◌++◌}
use Rattle.exchange_events.specs.declared.record.CallRecord.{CallRecord}

-- the meter recorded these calls: it represents its earlier calls and these, and its text after further calls is its
-- earlier text after these calls and the further ones
pub record IsTold (calls : List CallRecord) (stood stands : List CallRecord → Type 0) (said says : List CallRecord → List ℕ) : Type 0 where
  pub stands_for_all : (before : List CallRecord) → stood before → stands (before ++ calls)
  pub says_of_all : (more : List CallRecord) → says more ≡ said (calls ++ more)

-- the meter recorded a prefix of these calls
abbrev pub IsToldFront : List CallRecord → (stood stands : List CallRecord → Type 0) → (said says : List CallRecord → List ℕ) → Type 0
IsToldFront calls stood stands said says = (front rest : List CallRecord) × (calls ≡ front ++ rest) × IsTold front stood stands said says
