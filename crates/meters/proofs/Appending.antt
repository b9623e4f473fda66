-- Texts of lists, one after the other.
use Rattle.std.proofs.Common.{◌≡◌, ℕ, List, [], ◌∷◌, ◌++◌, codes, ap, refl, sym, ◌∙◌}
use Rattle.std.proofs.lemmas.List.{append_assoc}
use Rattle.exchange_events.specs.declared.record.CallRecord.{CallRecord}
use Rattle.meters.specs.Details.{call_line, call_lines, slot_text, party_text, figure}

-- the lines of calls, piece by piece
lines-append : (calls more : List CallRecord) → call_lines (calls ++ more) ≡ call_lines calls ++ call_lines more
lines-append [] more = refl
lines-append (call ∷ calls) more = ap (λ text. call_line call ++ text) (lines-append calls more) ∙ sym (append_assoc (call_line call) (call_lines calls) (call_lines more))

pub lines_of_pieces : (out : List ℕ) (calls more all : List CallRecord) → calls ++ more ≡ all → out ++ call_lines calls ++ call_lines more ≡ out ++ call_lines all
lines_of_pieces out calls more all is = append_assoc out (call_lines calls) (call_lines more) ∙ ap (λ text. out ++ text) (sym (lines-append calls more) ∙ ap call_lines is)

-- the line of a call, word by word
pub line_of_words : (out first second : List ℕ) (call : CallRecord) → first ≡ out ++ codes "call " ++ slot_text call.caller → second ≡ first ++ codes " " ++ party_text call.called
    → second ++ figure call.from ++ figure call.to ++ figure call.cause ++ codes "\n" ≡ out ++ call_line call
line_of_words out first second call caller called =
    let before : second ≡ out ++ codes "call " ++ slot_text call.caller ++ codes " " ++ party_text call.called = called ∙ ap (λ text. text ++ codes " " ++ party_text call.called) caller in
    ap (λ text. text ++ figure call.from ++ figure call.to ++ figure call.cause ++ codes "\n") before ∙ simp append_assoc
