use Rattle.std.proofs.Common.{◌≡◌, ℕ, ◌-◌, ◌≤◌, nat_lt, List, length, Option, Some, None, IfSome, slice_index_or, Bor, subst, ◌∙◌, arith}
use Rattle.std.specs.Option.{is_some}
use Rattle.std.proofs.lemmas.Bool.Decides.{nat_tests}
use Rattle.exchange_events.specs.declared.trace.Event.{Event}
use Rattle.exchange_events.specs.Orders.{event_at}
use Rattle.exchange_events.proofs.EventNumbers.{event_at_number}
use Rattle.exchange_tests.proofs.tests.work.event_numbered.Goals as goal

-- what is found one place before a number is the event with that number
found : (o : Option (Bor Event)) (events : List Event) (n : ℕ) → 1 ≤ n → is_some o ≡ nat_lt (n - 1) (length events)
    → IfSome o (λ x. x.now ≡ slice_index_or events (n - 1) x.now) → IfSome o (λ x. event_at events n ≡ Some x.now)
found None events n low some is = tt
found (Some x) events n low some is = event_at_number events n x.now (low, grind (arith, nat_tests, some, low)) is

pub returns-clause-number : goal.returns-clause-number
returns-clause-number c =
    let events = c.args.trace.now.events in
    let r = c.get.result in
    let at = c.in_ok-index.ensures in
    let same = c.as_slice.ensures in
    found r events c.args.event at.0 (c.get.ensures.lookup.0 ∙ (λ i. nat_lt (at.1 i) (length (same i))))
    (subst (λ (k : ℕ). IfSome r (λ x. x.now ≡ slice_index_or events k x.now)) at.1
    (subst (λ (l : List Event). IfSome r (λ x. x.now ≡ slice_index_or l c.in_ok-index.index x.now)) same c.get.ensures.lookup.1))
