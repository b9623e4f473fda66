-- What is due for an input with a report, of which there is one thing alone.
use Rattle.std.proofs.Common.{◌≡◌, ℕ, Bool, List, arith, refl, subst, sym}
use Rattle.exchange_events.specs.declared.trace.Trace.{Trace}
use Rattle.trace_text.specs.declared.fault.Reason.{Reason}
use Rattle.trace_text.specs.TraceGrammar.{IsTrace, IsRefused}
use Rattle.trace_text.proofs.TraceReadings.{never_both, one_trace}
use Rattle.run_verifier.specs.Verdicts.{IsInvalidAt, IsValid}
use Rattle.run_verifier.proofs.VerdictLemmas.{never_both as never_verdicts}
use Rattle.run_verifier.specs.declared.ending.Ending.{Ending}
use Rattle.run_verifier.specs.declared.ending.Ending.TheVariants as ended
use Rattle.run_verifier.specs.Checking.{Finds, IsChecked, IsUnchecked, Too_much, No_trace}
use Rattle.run_verifier.specs.Fabrics.{slots_of}
use Rattle.run_verifier.specs.Statuses.{status_of}
use Rattle.run_verifier.proofs.Divisions.{one_division}

-- an input has one trace and one report
same_checked : (bytes report other : List ℕ) (t u : Trace) → IsChecked bytes t report → IsChecked bytes u other → (t ≡ u) × (report ≡ other)
same_checked bytes report other t u one also =
    let same = one_division bytes one.trace report also.trace other one.divided also.divided in
    (one_trace also.trace t u (subst (λ (b : List ℕ). IsTrace b t) same.0 one.is_trace) also.is_trace, same.1)

-- or none
never_unchecked : (bytes report : List ℕ) (t : Trace) (number : ℕ) (why : Reason) → IsChecked bytes t report → IsUnchecked bytes number why → ⊥
never_unchecked bytes report t number why checked (Too_much long at named) = let few = checked.few in omega (arith, few, long)
never_unchecked bytes report t number why checked (No_trace few trace other divided refused) =
    let same = one_division bytes checked.trace report trace other checked.divided divided in
    never_both checked.trace t number why checked.is_trace (subst (λ (b : List ℕ). IsRefused b number why) (sym same.0) refused)

module _ (strict : Bool) (bytes : List ℕ) where
  moved : (P : Trace → List ℕ → Type 0) (t u : Trace) (report other : List ℕ) → IsChecked bytes t report → IsChecked bytes u other → P u other → P t report
  moved P t u report other has also holds =
      let same = same_checked bytes report other t u has also in
      subst (λ (v : Trace). P v report) (sym same.0) (subst (λ (o : List ℕ). P u o) (sym same.1) holds)

  -- a report is not found both valid and invalid
  never_two : (t u : Trace) (report other : List ℕ) (line : ℕ) → IsChecked bytes t report → IsValid (slots_of strict) t report → IsChecked bytes u other → IsInvalidAt (slots_of strict) u other line → ⊥
  never_two t u report other line has valid also invalid =
      never_verdicts (slots_of strict) t report line valid (moved (λ v o. IsInvalidAt (slots_of strict) v o line) t u report other has also invalid)

  -- of an input one thing is found
  pub status_of_finds_one : (e d : Ending) → Finds strict bytes e → Finds strict bytes d → status_of e ≡ status_of d
  status_of_finds_one ended.ReadFailed d one other = absurd one
  status_of_finds_one ended.WriteFailed d one other = absurd one
  status_of_finds_one ended.OutOfMemory d one other = absurd one
  status_of_finds_one ended.WrongArguments d one other = absurd one
  status_of_finds_one ended.Completed ended.Completed one other = refl
  status_of_finds_one ended.Completed (ended.Refused line reason) one other = absurd (never_unchecked bytes one.1 one.0 line reason one.2 other)
  status_of_finds_one ended.Completed ended.WrongArguments one other = absurd other
  status_of_finds_one ended.Completed ended.ReadFailed one other = absurd other
  status_of_finds_one ended.Completed ended.WriteFailed one other = absurd other
  status_of_finds_one ended.Completed ended.OutOfMemory one other = absurd other
  status_of_finds_one ended.Completed (ended.Invalid line) one other = absurd (never_two one.0 other.0 one.1 other.1 line one.2 one.3 other.2 other.3)
  status_of_finds_one (ended.Refused line reason) ended.Completed one other = absurd (never_unchecked bytes other.1 other.0 line reason other.2 one)
  status_of_finds_one (ended.Refused line reason) (ended.Refused l r) one other = refl
  status_of_finds_one (ended.Refused line reason) ended.WrongArguments one other = absurd other
  status_of_finds_one (ended.Refused line reason) ended.ReadFailed one other = absurd other
  status_of_finds_one (ended.Refused line reason) ended.WriteFailed one other = absurd other
  status_of_finds_one (ended.Refused line reason) ended.OutOfMemory one other = absurd other
  status_of_finds_one (ended.Refused line reason) (ended.Invalid l) one other = absurd (never_unchecked bytes other.1 other.0 line reason other.2 one)
  status_of_finds_one (ended.Invalid line) ended.Completed one other = absurd (never_two other.0 one.0 other.1 one.1 line other.2 other.3 one.2 one.3)
  status_of_finds_one (ended.Invalid line) (ended.Refused l r) one other = absurd (never_unchecked bytes one.1 one.0 l r one.2 other)
  status_of_finds_one (ended.Invalid line) ended.WrongArguments one other = absurd other
  status_of_finds_one (ended.Invalid line) ended.ReadFailed one other = absurd other
  status_of_finds_one (ended.Invalid line) ended.WriteFailed one other = absurd other
  status_of_finds_one (ended.Invalid line) ended.OutOfMemory one other = absurd other
  status_of_finds_one (ended.Invalid line) (ended.Invalid l) one other = refl
