-- Steps that find something or nothing, one after another.
use Rattle.std.proofs.Common.{◌≡◌, Bool, true, false, Option, Some, None}
use Rattle.report_reader.specs.Reading.{passing, ◌>>=◌}

-- what the first of two steps found, where the next step found something
pub record Both {A B : Type 0} (first : Option A) (step : A → Option B) (found : B) : Type 0 where
  pub here : A
  pub is : first ≡ Some here
  pub later : step here ≡ Some found

pub both : {A B : Type 0} (first : Option A) (step : A → Option B) (found : B) → (first >>= step) ≡ Some found → Both first step found
both None step found e = absurd cc
both (Some here) step found e = record { here = here; is = cc; later = e }

-- what passed a test
pub passed : {A : Type 0} (test : Bool) (x y : A) → passing test x ≡ Some y → (test ≡ true) × (x ≡ y)
passed true x y e = (cc, cc)
passed false x y e = absurd cc
