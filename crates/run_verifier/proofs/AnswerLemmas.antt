-- What an answer of the verifier says, each way.
use Rattle.std.proofs.Common.{◌≡◌, ◌⊎◌, ℕ, List, Result, Ok, Err, refl, subst, ap, inl, inr}
use Rattle.exchange_events.specs.declared.trace.Trace.{Trace}
use Rattle.trace_text.specs.declared.fault.Reason.{Reason}
use Rattle.trace_text.specs.TraceGrammar.{IsRefused, IsTrace}
use Rattle.trace_text.proofs.TraceReadings.{one_fault, one_trace, never_both as never_refused}
use Rattle.run_verifier.specs.declared.verdict.Verdict.{Verdict}
use Rattle.run_verifier.specs.declared.verdict.Verdict.TheVariants.{Valid, Invalid}
use Rattle.run_verifier.specs.declared.verdict.VerifyFault.{VerifyFault}
use Rattle.run_verifier.specs.declared.verdict.VerifyFault.TheVariants.{Memory, Trace as Refused}
use Rattle.run_verifier.specs.Verdicts.{IsInvalidAt, IsValid}
use Rattle.run_verifier.specs.Verifying.{IsAnswer, IsRight}
use Rattle.run_verifier.proofs.VerdictLemmas.{never_both, one_line}

module _ (slots : ℕ) (trace report : List ℕ) where
  -- a verdict is right of whichever trace the bytes are
  right_of : (t u : Trace) (verdict : Verdict) → IsTrace trace t → IsTrace trace u → IsRight slots t report verdict → IsRight slots u report verdict
  right_of t u verdict is also right = subst (λ (v : Trace). IsRight slots v report verdict) (one_trace trace t u is also) right

  pub finds_valid : (result : Result Verdict VerifyFault) → IsAnswer slots trace report result → (t : Trace) → IsTrace trace t → IsValid slots t report → (result ≡ Ok Valid) ⊎ (result ≡ Err Memory)
  finds_valid (Ok Valid) answer t is valid = inl refl
  finds_valid (Ok (Invalid n)) answer t is valid = absurd (never_both slots t report n valid (right_of answer.0 t (Invalid n) answer.1 is answer.2))
  finds_valid (Err Memory) answer t is valid = inr refl
  finds_valid (Err (Refused number why)) answer t is valid = absurd (never_refused trace t number why is answer)

  pub finds_invalid : (result : Result Verdict VerifyFault) → IsAnswer slots trace report result → (t : Trace) (n : ℕ) → IsTrace trace t → IsInvalidAt slots t report n
      → (result ≡ Ok (Invalid n)) ⊎ (result ≡ Err Memory)
  finds_invalid (Ok Valid) answer t n is invalid = absurd (never_both slots t report n (right_of answer.0 t Valid answer.1 is answer.2) invalid)
  finds_invalid (Ok (Invalid m)) answer t n is invalid = inl (ap (λ (k : ℕ). Ok (Invalid k)) (one_line slots t report m n (right_of answer.0 t (Invalid m) answer.1 is answer.2) invalid))
  finds_invalid (Err Memory) answer t n is invalid = inr refl
  finds_invalid (Err (Refused number why)) answer t n is invalid = absurd (never_refused trace t number why is answer)

  pub refuses_each : (result : Result Verdict VerifyFault) → IsAnswer slots trace report result → (number : ℕ) (why : Reason) → IsRefused trace number why
      → (result ≡ Err (Refused number why)) ⊎ (result ≡ Err Memory)
  refuses_each (Ok verdict) answer number why refused = absurd (never_refused trace answer.0 number why answer.1 refused)
  refuses_each (Err Memory) answer number why refused = inr refl
  refuses_each (Err (Refused m other)) answer number why refused =
      let same = one_fault trace m number other why answer refused in inl (λ i. Err (Refused (same.0 i) (same.1 i)))
