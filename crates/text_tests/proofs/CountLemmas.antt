-- A count of the calls to a line that notes one more call.
use Rattle.std.proofs.Common.{◌≡◌, ℕ, true, ◌+◌, if◌then◌else◌, List, [], ◌∷◌, ◌++◌, ap, arith}
use Rattle.std.proofs.lemmas.List.Sums.{sum_by-append}
use Rattle.exchange_events.specs.declared.record.CallRecord.{CallRecord}
use Rattle.meters.specs.Registers.{register_value}
use Rattle.text_tests.specs.CallsTo.{LineCount, IsCountOf, is_to, calls_to}

-- a count of the calls to a line that notes one more of them
pub count_more : (calls : List CallRecord) (call : CallRecord) (old : LineCount) (line now : ℕ) → old.line ≡ line → is_to line call.called ≡ true
    → now ≡ register_value (old.calls + 1) → IsCountOf calls old → now ≡ register_value (calls_to line (calls ++ call ∷ []))
count_more calls call old line now same to more is =
    let before = ap (λ number. calls_to number calls) same in
    let one = ap {B = ℕ} (λ b. if b then 1 else 0) to in
    let sums = sum_by-append (λ told. if is_to line told.called then 1 else 0) calls (call ∷ []) in
    omega (arith, before, one, sums, more, is)
