-- Registers that note one more call, and what they say of some more.
use Rattle.std.proofs.Common.{◌≡◌, ◌+◌, ◌-◌, ◌^◌, ◌≤◌, max, if◌then◌else◌, List, [], ◌∷◌, ◌++◌, length, length-append, ap, ◌∙◌, arith}
use Rattle.std.proofs.lemmas.List.Sums.{sum_by-append}
use Rattle.exchange_events.specs.declared.record.CallRecord.{CallRecord}
use Rattle.meters.specs.Registers.{Held, Pegs, ArePegsOf, IsHeldBy, register_value, frames_held, total_held, max_frames_held, answered_calls, peg_line, holding_line, peg_text, peg_text_with, holding_text, holding_text_with}

-- the longest of two lists of calls
pub max_frames_held-append : (calls more : List CallRecord) → max_frames_held (calls ++ more) ≡ max (max_frames_held calls) (max_frames_held more)
max_frames_held-append [] more = omega arith
max_frames_held-append (call ∷ calls) more = let e = max_frames_held-append calls more in omega (arith, e)

-- a holding time that notes one more call
pub held_more : (calls : List CallRecord) (call : CallRecord) (old now : Held) → now.total ≡ register_value (old.total + frames_held call) → now.longest ≡ max old.longest (frames_held call) → frames_held call ≤ 2 ^ 64 - 1
    → IsHeldBy calls old → IsHeldBy (calls ++ call ∷ []) now
held_more calls call old now total longest small held =
    let sums = sum_by-append frames_held calls (call ∷ []) in
    let most = max_frames_held-append calls (call ∷ []) in record {
      total_is = omega (arith, total, sums, held.total_is);
      longest_is = omega (arith, longest, most, small, held.longest_is);
    }

-- what registers say of more calls is what they say of all
pub peg_law : (pegs : Pegs) (calls more : List CallRecord) → ArePegsOf calls pegs → peg_text_with pegs more ≡ peg_text (calls ++ more)
peg_law pegs calls more are =
    let count = length-append calls more in
    let answered = sum_by-append (λ call. if call.answered then 1 else 0) calls more in
    ap (λ n. peg_line n (register_value (pegs.answered + answered_calls more))) (omega (arith, count, are.calls_are))
    ∙ ap (λ n. peg_line (register_value (length (calls ++ more))) n) (omega (arith, answered, are.answered_are))

pub holding_law : (held : Held) (calls more : List CallRecord) → IsHeldBy calls held → holding_text_with held more ≡ holding_text (calls ++ more)
holding_law held calls more is =
    let sums = sum_by-append frames_held calls more in
    let most = max_frames_held-append calls more in
    ap (λ n. holding_line n (register_value (max held.longest (max_frames_held more)))) (omega (arith, sums, is.total_is))
    ∙ ap (λ n. holding_line (register_value (total_held (calls ++ more))) n) (omega (arith, most, is.longest_is))
