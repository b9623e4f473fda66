-- The one answer that a row of bytes can have, but where memory runs out.
use Rattle.std.proofs.Common.{◌≡◌, ℕ, ◌⊎◌, inl, inr, List, Result, Ok, Err, refl, ap}
use Rattle.std.specs.Prelude.{IfOk, IfErr}
use Rattle.trace_text.specs.declared.fault.Reason.{Reason}
use Rattle.trace_text.specs.declared.fault.TraceFault.{TraceFault}
use Rattle.trace_text.specs.declared.fault.TraceFault.TheVariants.{Memory, Line}
use Rattle.exchange_events.specs.declared.trace.Trace.{Trace}
use Rattle.trace_text.specs.TraceGrammar.{IsTrace, IsRefused}
use Rattle.trace_text.specs.TraceDraft.{IsFault}
use Rattle.trace_text.proofs.TraceReadings.{one_trace, never_both, one_fault}

abbrev pub Answer : Type 0
Answer = Result Trace TraceFault

fault_at : (bytes : List ℕ) (r : Answer) (number : ℕ) (why : Reason) → IfErr r (λ e. IsFault bytes e) → r ≡ Err (Line number why) → IsRefused bytes number why
fault_at bytes (Ok t) number why h e = absurd cc
fault_at bytes (Err Memory) number why h e = absurd cc
fault_at bytes (Err (Line n other)) number why h e =
    let p : n ≡ number = cc in
    let q : other ≡ why = cc in
    rw (p, q) at h

pub refused : (bytes : List ℕ) (r : Answer) → IfErr r (λ e. IsFault bytes e) → (number : ℕ) (why : Reason) → r ≡ Err (Line number why) → IsRefused bytes number why
refused bytes r h number why e = fault_at bytes r number why h e

pub reads_each : (bytes : List ℕ) (r : Answer) → IfOk r (λ t. IsTrace bytes t) → IfErr r (λ e. IsFault bytes e) → (t : Trace) → IsTrace bytes t → (r ≡ Ok t) ⊎ (r ≡ Err Memory)
reads_each bytes (Ok u) is fault t x = inl (ap (λ (v : Trace). Ok v) (one_trace bytes u t is x))
reads_each bytes (Err Memory) is fault t x = inr refl
reads_each bytes (Err (Line number why)) is fault t x = absurd (never_both bytes t number why x fault)

pub refuses_each : (bytes : List ℕ) (r : Answer) → IfOk r (λ t. IsTrace bytes t) → IfErr r (λ e. IsFault bytes e) → (number : ℕ) (why : Reason) → IsRefused bytes number why → (r ≡ Err (Line number why)) ⊎ (r ≡ Err Memory)
refuses_each bytes (Ok t) is fault number why x = absurd (never_both bytes t number why is x)
refuses_each bytes (Err Memory) is fault number why x = inr refl
refuses_each bytes (Err (Line n other)) is fault number why x =
    let same = one_fault bytes n number other why fault x in
    inl (rw (same.0, same.1) refl)
