use Rattle.std.proofs.Common.{rules}
use Rattle.std.proofs.lemmas.Fn.{always_returns_same}
use Rattle.number_plan.specs.Plan.{side_by_side}
use Rattle.number_plan.proofs.Searches.{Says, says}
use Rattle.number_plan.proofs.plan.Plan.search.Goals as goal

-- the closure sets a number's digits beside those that are looked for, and the slice is the plan's numbers
told : (c : goal.After-binary_search_by) → Says c.args.self.now c.args.digits.now c.binary_search_by.result
told c =
    let by_digits = c.binary_search_by.ensures.position (λ n. side_by_side n.digits c.args.digits.now) (always_returns_same _ _ _ (λ a r g called. (search rules, search rules))) in
    rw (← c.self.view_is, ← c.deref.ensures.value) (says _ c.args.digits.now _ (rw c.deref.ensures.value c.self.invariant.0) c.binary_search_by.ensures.bound by_digits)

pub returns-clause-beside : goal.returns-clause-beside
returns-clause-beside c = (told c).beside

pub returns-clause-taken : goal.returns-clause-taken
returns-clause-taken c = (told c).taken

pub returns-clause-place : goal.returns-clause-place
returns-clause-place c = (told c).place

pub returns-clause-free : goal.returns-clause-free
returns-clause-free c = (told c).free

pub returns-clause-apart : goal.returns-clause-apart
returns-clause-apart c = (told c).apart
