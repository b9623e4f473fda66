use Rattle.std.proofs.Common.{rules, arith, ℕ, ap, refl, sym, subst, Ok, Err, IfOk, Result}
use Rattle.run_verifier.specs.Verdicts.{IsInvalidAt, IsValid}
use Rattle.run_verifier.specs.declared.ending.Ending.{Ending}
use Rattle.run_verifier.specs.Checking.{Finds, No_trace, Too_much}
use Rattle.run_verifier.proofs.checking.found.Goals as goal

-- what is said of a value that there may be says something else of it
ok_then : {T E : Type 0} (P Q : T → Type 0) → ((x : T) → P x → Q x) → (r : Result T E) → IfOk r P → IfOk r Q
ok_then P Q then (Ok x) p = then x p
ok_then P Q then (Err e) p = tt

pub returns-then-bytes-gt-MAX_CHECKED : goal.returns-then-bytes-gt-MAX_CHECKED
returns-then-bytes-gt-MAX_CHECKED g c =
    let none = Too_much (omega (arith, c.if-bytes-gt-MAX_CHECKED.true)) refl refl in
    ok_then _ _ (λ f is. (subst (λ (e : Ending). Finds c.args.strict c.args.bytes.now e) (sym is.0) none, is.1)) c.refused.result c.refused.ensures

pub returns-in_ok-from_slice-in-Ok-Valid : goal.returns-in_ok-from_slice-in-Ok-Valid
returns-in_ok-from_slice-in-Ok-Valid g c =
    let found = c.in-Ok-Valid.ensures.valid (ap Ok c.in-Ok-Valid.field-0-is) in (
      (
        found.0,
        c.divided.result.1.now,
        record { few = omega (arith, c.if-bytes-gt-MAX_CHECKED.false); trace = c.divided.result.0.now; divided = c.divided.ensures; is_trace = found.1 },
        subst (λ (slots : ℕ). IsValid slots found.0 c.divided.result.1.now) c.slots_of.ensures.is found.2,
      ),
      search rules,
    )

pub returns-in_ok-invalid_line-in-Ok-Invalid : goal.returns-in_ok-invalid_line-in-Ok-Invalid
returns-in_ok-invalid_line-in-Ok-Invalid g c =
    let number = c.in-Ok-Invalid.number in
    let found = c.in-Ok-Invalid.ensures.invalid number (ap Ok c.in-Ok-Invalid.field-0-is) in (
      (
        found.0,
        c.divided.result.1.now,
        record { few = omega (arith, c.if-bytes-gt-MAX_CHECKED.false); trace = c.divided.result.0.now; divided = c.divided.ensures; is_trace = found.1 },
        subst (λ (slots : ℕ). IsInvalidAt slots found.0 c.divided.result.1.now number) c.slots_of.ensures.is found.2,
      ),
      c.in_ok-invalid_line-in-Ok-Invalid.ensures,
    )

pub returns-in-Err-Trace : goal.returns-in-Err-Trace
returns-in-Err-Trace g c =
    let number = c.in-Err-Trace.number in
    let why = c.in-Err-Trace.reason in
    let none = No_trace (omega (arith, c.if-bytes-gt-MAX_CHECKED.false)) c.divided.result.0.now c.divided.result.1.now c.divided.ensures
    (c.in-Err-Trace.ensures.refused number why (ap Err c.in-Err-Trace.field-0-is)) in
    ok_then _ _ (λ f is. (subst (λ (e : Ending). Finds c.args.strict c.args.bytes.now e) (sym is.0) none, is.1)) c.refused-in-Err-Trace.result c.refused-in-Err-Trace.ensures
