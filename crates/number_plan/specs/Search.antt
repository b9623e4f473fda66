-- The result of a search of a plan for digits.
use Rattle.std.specs.Prelude.{◌≡◌, ℕ, ◌<◌, ◌≤◌, List, length}
use Rattle.std.specs.List.{AllWithin, HoldsAt}
use Rattle.std.specs.declared.cmp.Ordering.TheVariants.{Less, Equal, Greater}
use Rattle.number_plan.specs.declared.plan.Number.{Number}
use Rattle.number_plan.specs.Plan.{side_by_side}

-- the number at this place begins the digits or begins with them
pub record IsBesideAt (plan : List Number) (digits : List ℕ) (place : ℕ) : Type 0 where
  pub in_range : place < length plan
  pub beside : HoldsAt (λ n. side_by_side n.digits digits ≡ Equal) plan place

-- the numbers before this place are lower than the digits, and the numbers from it on are higher
pub record IsPlaceFor (plan : List Number) (digits : List ℕ) (place : ℕ) : Type 0 where
  pub in_range : place ≤ length plan
  pub before : AllWithin (λ n. side_by_side n.digits digits ≡ Less) plan 0 place
  pub after : AllWithin (λ n. side_by_side n.digits digits ≡ Greater) plan place (length plan)
