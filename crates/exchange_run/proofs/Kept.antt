-- The lines of answers that an answer sink of lines has.
use Rattle.std.proofs.Common.{◌≡◌, ℕ, ◌≤◌, List, [], ◌∷◌, ◌++◌, length, map, drop, refl, sym, ap, subst, ◌∙◌, arith, append_assoc, length-append}
use Rattle.std.proofs.lemmas.List.{drop_at, map-append}
use Rattle.std.specs.Prelude.{All}
use Rattle.exchange_events.specs.declared.record.CallRecord.{CallRecord}
use Rattle.exchange_events.specs.declared.trace.Trace.{Trace}
use Rattle.exchange_events.specs.Orders.{IsEvent}
use Rattle.seat_history.specs.declared.seat_knowledge.SeatKnowledge.{SeatKnowledge}
use Rattle.exchange_core.specs.Boards.{Board}
use Rattle.tone_rules.specs.Tables.{table_of}
use Rattle.call_processor.specs.Frames.{Plays}
use Rattle.segment_run.specs.Segment.{AddsAnswers, AreAnswered, Ran, new_events}
use Rattle.segment_run.proofs.OrderLemmas.{grown_known}
use Rattle.call_processor.specs.declared.worked.Placed.{Placed}
use Rattle.report_lines.specs.declared.listing.Listing.{Listing}
use Rattle.report_lines.specs.declared.listing.Listing.TheVariants as listing
use Rattle.report_lines.specs.Lines.{Line, calls_of, line_of, listed, text_of}
use Rattle.call_profile.specs.CallsTold.{calls_kept}
use Rattle.report_text.specs.Report.{answer_line, answer_lines}
use Rattle.exchange_run.specs.Running.{AreOfAnswers, IsAdded, grown_calls}
use Rattle.exchange_run.specs.Telling.{calls_answered}
use Rattle.exchange_run.proofs.Answered.{calls_told_of, few_told, lines_told}

text_append : (xs ys : List Line) → text_of (xs ++ ys) ≡ text_of xs ++ text_of ys
text_append [] ys = refl
text_append (x ∷ xs) ys = ap (λ (l : List ℕ). x.text ++ l) (text_append xs ys) ∙ sym (append_assoc x.text (text_of xs) (text_of ys))

calls_append : (xs ys : List Line) → calls_of (xs ++ ys) ≡ calls_of xs ++ calls_of ys
calls_append [] ys = refl
calls_append (x ∷ xs) ys = ap (λ (l : List CallRecord). x.records ++ l) (calls_append xs ys) ∙ sym (append_assoc x.records (calls_of xs) (calls_of ys))

-- the text of answers' lines, where they are listed, and their calls
text_answers : (l : Listing) (ps : List Placed) → text_of (map (line_of l) ps) ≡ listed l (answer_lines (map (λ (p : Placed). p.answer) ps))
text_answers listing.Report [] = refl
text_answers listing.Report (p ∷ ps) = ap (λ (t : List ℕ). answer_line p.answer ++ t) (text_answers listing.Report ps)
text_answers listing.Nothing [] = refl
text_answers listing.Nothing (p ∷ ps) = text_answers listing.Nothing ps

calls_answers : (l : Listing) (ps : List Placed) → calls_of (map (line_of l) ps) ≡ calls_answered (map (λ (p : Placed). p.answer) ps)
calls_answers l [] = refl
calls_answers l (p ∷ ps) = ap (λ (rs : List CallRecord). calls_kept p.answer.reply ++ rs) (calls_answers l ps)

-- answers were put behind the answers of these lines
module _ (l : Listing) (before after : List Line) (kept answers : List Placed) (are : before ≡ map (line_of l) kept) (is : after ≡ map (line_of l) (kept ++ answers)) where
  grown : after ≡ before ++ map (line_of l) answers
  grown = is ∙ map-append (line_of l) kept answers ∙ ap (λ (ls : List Line). ls ++ map (line_of l) answers) (sym are)

  pub text_added : text_of after ≡ text_of before ++ listed l (answer_lines (map (λ (p : Placed). p.answer) answers))
  text_added = ap text_of grown ∙ text_append before (map (line_of l) answers) ∙ ap (λ (t : List ℕ). text_of before ++ t) (text_answers l answers)

  pub calls_added : calls_of after ≡ calls_of before ++ calls_answered (map (λ (p : Placed). p.answer) answers)
  calls_added = ap calls_of grown ∙ calls_append before (map (line_of l) answers) ∙ ap (λ (rs : List CallRecord). calls_of before ++ rs) (calls_answers l answers)

pub added : (plays : Plays) (l : Listing) (board : Board) (trace : Trace) (segment : ℕ) (v w : SeatKnowledge) (before after : List Line) → trace ≡ board.trace → Ran trace segment v w → AreOfAnswers l before
    → ((kept : List Placed) → before ≡ map (line_of l) kept → AddsAnswers (λ (ls : List Line) (ps : List Placed). ls ≡ map (line_of l) ps) plays (table_of trace.tones) board v w kept after)
    → IsAdded plays l board v w before after
added plays l board trace segment v w before after same ran are adds =
    let a = adds are.0 are.1 in
    let tones = table_of board.trace.tones in
    let answers = map (λ (p : Placed). p.answer) a.answers in
    let known = subst (λ (t : Trace). All (IsEvent t) (new_events v w)) same (grown_known trace segment v w ran) in
    let answered = subst (λ (t : Trace). AreAnswered plays (table_of t.tones) board v w answers) same a.answered in
    record {
      kept = (are.0 ++ a.answers, a.held);
      lines = text_added l before after are.0 a.answers are.1 a.held ∙ ap (λ (t : List ℕ). text_of before ++ listed l t) (lines_told plays tones board v w answers answered ran.begins known);
      few = few_told plays tones board v w answers answered ran.begins known;
      calls = calls_added l before after are.0 a.answers are.1 a.held ∙ ap (λ (rs : List CallRecord). calls_of before ++ rs) (calls_told_of plays tones board v w answers answered ran.begins known);
    }

module _ (plays : Plays) (l : Listing) (board : Board) (v w : SeatKnowledge) (before after : List Line) (a : IsAdded plays l board v w before after) (told : ℕ) (count : told ≡ length (calls_of before)) where
  -- behind the records that were noted before come the calls that ended since
  pub told_behind : drop told (calls_of after) ≡ grown_calls board v w
  told_behind = ap (drop told) a.calls ∙ drop_at (calls_of before) (grown_calls board v w) told (sym count)

  pub told_within : told ≤ length (calls_of after)
  told_within = let long = ap (λ (rs : List CallRecord). length rs) a.calls in omega (arith, count, long, length-append (calls_of before) (grown_calls board v w))
