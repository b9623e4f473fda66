-- What tests say.
use Rattle.std.proofs.Common.{◌≡◌, ◌⊎◌, Bool, true, false, refl}
use Rattle.std.specs.Prelude.{◌&&◌, ◌||◌}
use mathlib.Core.Logic.{inl, inr}

pub false_unless : (b : Bool) → (b ≡ true → ⊥) → b ≡ false
false_unless true not_true = absurd (not_true refl)
false_unless false not_true = refl

pub both_true : (a b : Bool) → (a && b) ≡ true → (a ≡ true) × (b ≡ true)
both_true true true e = (refl, refl)
both_true true false e = absurd (cc)
both_true false b e = absurd (cc)

pub or_cases : (a b : Bool) → (a || b) ≡ true → (a ≡ true) ⊎ (b ≡ true)
or_cases true b e = inl refl
or_cases false b e = inr e
