-- What a search says of a plan.
use Rattle.std.proofs.Common.{◌≡◌, ℕ, true, false, List, length, Result, Ok, Err}
use Rattle.std.specs.Prelude.{IfOk, IfErr, IsTrue}
use Rattle.std.specs.List.Sorted.{IsSearchInRange, IsBinarySearchResult}
use Rattle.number_plan.specs.declared.plan.Number.{Number}
use Rattle.number_plan.specs.Plan.{side_by_side, in_order, is_number_taken, AreApart}
use Rattle.number_plan.specs.Search.{IsBesideAt, IsPlaceFor}
use Rattle.number_plan.proofs.OrderFacts.{searched, order_apart}
use Rattle.number_plan.proofs.Looks.{taken_beside, free_at_place}

pub record Says (xs : List Number) (d : List ℕ) (r : Result ℕ ℕ) : Type 0 where
  pub beside : IfOk r (IsBesideAt xs d)
  pub taken : IfOk r (λ _. IsTrue (is_number_taken xs d))
  pub place : IfErr r (IsPlaceFor xs d)
  pub free : IfErr r (λ _. is_number_taken xs d ≡ false)
  pub apart : AreApart xs

pub says : (xs : List Number) (d : List ℕ) (r : Result ℕ ℕ) → in_order xs ≡ true → IsSearchInRange r (length xs) → IsBinarySearchResult (λ n. side_by_side n.digits d) xs r → Says xs d r
says xs d (Ok i) order range is =
    let parts = searched xs d (Ok i) order range is in
    record { beside = parts.0; taken = taken_beside xs d i order parts.0; place = tt; free = tt; apart = order_apart xs order }
says xs d (Err i) order range is =
    let parts = searched xs d (Err i) order range is in
    record { beside = tt; taken = tt; place = parts.1; free = free_at_place xs d i parts.1; apart = order_apart xs order }
