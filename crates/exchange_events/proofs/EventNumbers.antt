-- The events of a trace by their numbers.
use Rattle.std.proofs.Common.{◌≡◌, ℕ, zero, suc, ◌-◌, ◌≤◌, List, [], ◌∷◌, get_or, length, Some, refl, sym, ◌∙◌, ap, subst, arith}
use Rattle.std.specs.Prelude.{All, slice_get}
use Rattle.std.proofs.lemmas.Option.{slice_get_within, slice_get-get_or, get_or_from_slice_get}
use Rattle.exchange_events.specs.declared.trace.Event.{Event}
use Rattle.exchange_events.specs.declared.trace.Trace.{Trace}
use Rattle.exchange_events.specs.Orders.{IsEvent, event_at}

-- an event is found one place before its number
pub event_at-is : (events : List Event) (n : ℕ) → 1 ≤ n → event_at events n ≡ slice_get events (n - 1)
unfolding event_at
event_at-is events zero some = absurd (omega (arith, some))
event_at-is events (suc n) some = ap (slice_get events) (omega arith)

-- and what is read there is the one with the number
pub event_at_number : (events : List Event) (n : ℕ) (e : Event) → (1 ≤ n) × (n ≤ length events) → e ≡ get_or events (n - 1) e → event_at events n ≡ Some e
event_at_number events n e known is = event_at-is events n known.0 ∙ slice_get-get_or events (n - 1) e (omega (arith, known.0, known.1)) ∙ ap (λ (one : Event). Some one) (sym is)

there : (events : List Event) (n : ℕ) → 1 ≤ n → n ≤ length events → (e : Event) × (event_at events n ≡ Some e)
unfolding event_at
there [] n low high = absurd (omega (arith, low, high))
there (e ∷ events) zero low high = absurd (omega (arith, low))
there (e ∷ events) (suc zero) low high = (e, refl)
there (e ∷ events) (suc (suc n)) low high = there events (suc n) (omega arith) (omega (arith, high))

-- each number of an event has one
pub event_there : (trace : Trace) (n : ℕ) → IsEvent trace n → (e : Event) × (event_at trace.events n ≡ Some e)
event_there trace n is = there trace.events n is.0 is.1

-- what holds of all events holds of the one with a number
pub of_event_at : (P : Event → Type 0) (events : List Event) (n : ℕ) (e : Event) → All P events → event_at events n ≡ Some e → P e
unfolding event_at
of_event_at P events zero e all is = absurd (cc is)
of_event_at P events (suc n) e all is = subst P (get_or_from_slice_get events n e e is) (all n e (slice_get_within events n e is))
