-- A count of the calls with a cause that records one more call.
use Rattle.std.proofs.Common.{◌≡◌, ℕ, true, ◌==◌, ◌+◌, if◌then◌else◌, List, [], ◌∷◌, ◌++◌, ap, arith}
use Rattle.std.proofs.lemmas.List.Sums.{sum_by-append}
use Rattle.exchange_events.specs.declared.record.CallRecord.{CallRecord}
use Rattle.meters.specs.Registers.{register_value}
use Rattle.library_example.specs.Causes.{CauseCalls, IsCountOf, calls_with}

-- a count of the calls with a cause that records one more of them
pub count_more : (calls : List CallRecord) (call : CallRecord) (old : CauseCalls) (cause now : ℕ) → old.cause ≡ cause → (call.cause == cause) ≡ true
    → now ≡ register_value (old.calls + 1) → IsCountOf calls old → now ≡ register_value (calls_with cause (calls ++ call ∷ []))
count_more calls call old cause now same has more is =
    let before = ap (λ number. calls_with number calls) same in
    let one = ap {B = ℕ} (λ b. if b then 1 else 0) has in
    let sums = sum_by-append (λ told. if told.cause == cause then 1 else 0) calls (call ∷ []) in
    omega (arith, before, one, sums, more, is)
