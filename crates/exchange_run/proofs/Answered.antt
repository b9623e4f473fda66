-- The answers of a run and the lines of its report.
use Rattle.std.proofs.Common.{◌≡◌, ℕ, suc, ◌+◌, List, [], ◌∷◌, ◌++◌, length, map, take, drop, Option, Some, slice_get, slice_index, refl, sym, ap, subst, ◌∙◌, arith, append_assoc, length-append}
use Rattle.std.specs.Prelude.{All}
use Rattle.std.specs.List.{cons_option}
use Rattle.std.proofs.lemmas.List.Elements.{All-nil, All-cons, All-head, All-tail, All-append, filter_map-append}
use Rattle.std.proofs.Math.Seq.{take-append_seam, drop-append_seam}
use Rattle.circuit_model.specs.declared.circuit.Kind.{Kind}
use Rattle.circuit_model.specs.FrameInput.{Input}
use Rattle.exchange_events.specs.declared.answer.Answer.{Answer}
use Rattle.exchange_events.specs.declared.reply.Reply.{Reply}
use Rattle.exchange_events.specs.declared.trace.Event.{Event}
use Rattle.exchange_events.specs.declared.trace.Event.TheVariants.{Frame}
use Rattle.exchange_events.specs.declared.trace.Trace.{Trace}
use Rattle.exchange_events.specs.Kept.{kept_of}
use Rattle.exchange_events.specs.Orders.{IsEvent, event_at}
use Rattle.exchange_events.proofs.EventNumbers.{event_there}
use Rattle.seat_history.specs.declared.seat_knowledge.SeatKnowledge.{SeatKnowledge}
use Rattle.seat_history.specs.Histories.{StartsWith, before, unseen}
use Rattle.exchange_core.specs.Boards.{Board, AnswersAt, setting_at, world_at}
use Rattle.call_profile.specs.Step.{MovesAtMost, events_of, next, reply, run}
use Rattle.exchange_core.specs.Working.{Entry, IsNumbered, order_of}
use Rattle.call_profile.proofs.QuietEventLemmas.{passed_same}
use Rattle.call_profile.specs.Expiring.{outcome_of_frame}
use Rattle.call_profile.specs.World.{World, pass, start}
use Rattle.exchange_core.proofs.StepLemmas.{world_more}
use Rattle.call_processor.specs.Frames.{IsPlayed, Plays}
use Rattle.segment_run.specs.Segment.{AreAnswered, IsAnswered, new_events}
use Rattle.segment_run.proofs.OrderLemmas.{order_grown}
use Rattle.report_text.specs.Report.{answer_line, answer_lines, frame_line, lines_sent, octet_of, report_line}
use Rattle.exchange_run.specs.Outcomes.{MovesFew}
use Rattle.report_text.specs.RunReport.{event_line, event_lines, sent_at}
use Rattle.exchange_run.specs.Running.{GrewFew, fabric_at, grown_calls}
use Rattle.exchange_run.specs.Telling.{calls_answered}
use Rattle.call_profile.specs.CallsTold.{calls_ended, calls_kept}
use Rattle.report_text.proofs.KeptLines.{same_line}
use Rattle.linked_exchange.proofs.Runs.{run-append}
use Rattle.exchange_run.proofs.Reports.{sent_played}

-- ---- an order that goes on

pub events_long : (trace : Trace) (order : List ℕ) → All (IsEvent trace) order → length order ≡ length (events_of trace.events order)
events_long trace [] known = refl
events_long trace (n ∷ order) known =
    let e = event_there trace n (All-head (IsEvent trace) n order known) in
    ap suc (events_long trace order (All-tail (IsEvent trace) n order known)) ∙ sym (ap (λ (o : Option Event). length (cons_option o (events_of trace.events order))) e.1)

pub events_append : (trace : Trace) (order more : List ℕ) → events_of trace.events (order ++ more) ≡ events_of trace.events order ++ events_of trace.events more
events_append trace order more = filter_map-append (event_at trace.events) order more

-- ---- the line of an answer

module _ (plays : Plays) (tones : Kind → List ℕ) (board : Board) (front : List Entry) (a : Answer) (n : ℕ)
    (played : (input : Input) → IsNumbered board.trace n (Frame input) → IsPlayed plays tones board.trace.external (world_at board front) input a.octets) where
  abbrev here : World
  here = world_at board front

  abbrev kept_rows : List (List ℕ)
  kept_rows = lines_sent (octet_of a.octets) (length a.octets)

  abbrev sent : Event → List (List ℕ)
  sent e = sent_at (plays tones) (setting_at board) here e

  -- an answer of a frame has its octets
  frame_rows : (input : Input) → IsNumbered board.trace n (Frame input)
      → report_line kept_rows n (kept_of (reply (setting_at board) here (Frame input))) ≡ report_line (sent (Frame input)) n (kept_of (reply (setting_at board) here (Frame input)))
  frame_rows input is =
      let p = played input is in
      let same = passed_same (setting_at board) here input in
      let lines : kept_rows ≡ lines_sent (octet_of a.octets) board.trace.external = ap (lines_sent (octet_of a.octets)) p.lines in
      ap (λ (rows : List (List ℕ)). frame_line rows n here.holding.next (outcome_of_frame (setting_at board) here input).making.sends)
      (lines
      ∙ sent_played board.trace.external (plays tones (pass here input).inputs (pass here input).held here.holding.next) a.octets p.played
      ∙ (λ i. lines_sent (λ y. plays tones (sym same.inputs i) (sym same.held i) here.holding.next y) board.trace.external))

  -- the line of an answer is its event's, after this history
  answer_is : (e : Event) (r : Reply) → a.event ≡ n → IsNumbered board.trace n e → AnswersAt board front n r → a.reply ≡ kept_of r
      → answer_line a ≡ event_line (plays tones) (setting_at board) here n e
  answer_is e r same number given keeps = (λ i. report_line kept_rows (same i) ((keeps ∙ ap kept_of (given e number)) i))
      ∙ same_line kept_rows n (setting_at board) here sent (IsNumbered board.trace n) frame_rows e number

-- ---- the answers of what came behind a history

-- they have the lines of these events, which moved few paths
record AreReplied (plays : Plays) (tones : Kind → List ℕ) (board : Board) (front : List Entry) (order : List ℕ) (answers : List Answer) : Type 0 where
  lines : answer_lines answers ≡ event_lines (plays tones) (setting_at board) (world_at board front) order (events_of board.trace.events order)
  few : All (MovesAtMost board.bound) (run (setting_at board) (world_at board front) (events_of board.trace.events order))
  calls : calls_answered answers ≡ calls_ended (run (setting_at board) (world_at board front) (events_of board.trace.events order))

module _ (plays : Plays) (tones : Kind → List ℕ) (board : Board) (history : List Entry) where
  told_more : (front : List Entry) (entry : Entry) (order : List ℕ) (a : Answer) (answers : List Answer) → IsEvent board.trace entry.1 → a.event ≡ entry.1 → before (length front) history ≡ front
      → IsAnswered plays tones board history (length front) a → AreReplied plays tones board (front ++ entry ∷ []) order answers → AreReplied plays tones board front (entry.1 ∷ order) (a ∷ answers)
  told_more front entry order a answers is same at here rest =
      let n = entry.1 in
      let s = setting_at board in
      let w = world_at board front in
      let trace = board.trace in
      let more = events_of trace.events order in
      let e = event_there trace n is in
      let split : events_of trace.events (n ∷ order) ≡ e.0 ∷ more = ap (λ (o : Option Event). cons_option o more) e.1 in
      let after : world_at board (front ++ entry ∷ []) ≡ next s w e.0 =
      world_more (record { trace = trace; slots = board.slots; bound = board.bound; journal = front }) entry.0 n e.0 e.1 in
      let given : AnswersAt board front n here.reply =
      subst (λ (m : ℕ). AnswersAt board front m here.reply) same (subst (λ (h : List Entry). AnswersAt board h a.event here.reply) at here.given) in
      let line : answer_line a ≡ event_line (plays tones) s w n e.0 =
      answer_is plays tones board front a n (λ input number.
      subst (λ (h : List Entry). IsPlayed plays tones trace.external (world_at board h) input a.octets) at
      (here.played input (subst (λ (m : ℕ). IsNumbered trace m (Frame input)) (sym same) number)))
      e.0 here.reply same e.1 given here.keeps in
      record {
        lines = (λ i. line i ++ rest.lines i)
            ∙ (ap (λ (v : World). event_line (plays tones) s w n e.0 ++ event_lines (plays tones) s v order more) after
            ∙ sym (ap (event_lines (plays tones) s w (n ∷ order)) split));
        few = subst (λ (es : List Event). All (MovesAtMost board.bound) (run s w es)) (sym split)
            (All-cons (MovesAtMost board.bound) (reply s w e.0) (run s (next s w e.0) more) (subst (MovesAtMost board.bound) (given e.0 e.1) here.few)
            (subst (λ (v : World). All (MovesAtMost board.bound) (run s v more)) after rest.few));
        calls = (λ i. calls_kept ((here.keeps ∙ ap kept_of (given e.0 e.1)) i) ++ rest.calls i)
            ∙ (ap (λ (v : World). calls_kept (kept_of (reply s w e.0)) ++ calls_ended (run s v more)) after
            ∙ ap (λ (es : List Event). calls_ended (run s w es)) (sym split));
      }

  told : (front rest : List Entry) (answers : List Answer) → history ≡ front ++ rest → All (IsEvent board.trace) (order_of rest) → map (λ (a : Answer). a.event) answers ≡ order_of rest
      → ((i : ℕ) (a : Answer) → slice_get answers i ≡ Some a → IsAnswered plays tones board history (length front + i) a) → AreReplied plays tones board front (order_of rest) answers
  told front [] [] is known same each = record { lines = refl; few = All-nil (MovesAtMost board.bound); calls = refl }
  told front [] (a ∷ answers) is known same each = absurd (omega (arith, ap length same))
  told front (entry ∷ rest) [] is known same each = absurd (omega (arith, ap length same))
  told front (entry ∷ rest) (a ∷ answers) is known same each =
      let at : before (length front) history ≡ front = ap (take (length front)) is ∙ take-append_seam front (entry ∷ rest) in
      let first : length front + 0 ≡ length front = omega arith in
      let long : length (front ++ entry ∷ []) ≡ length front + 1 = length-append front (entry ∷ []) in
      told_more front entry (order_of rest) a answers (All-head (IsEvent board.trace) entry.1 (order_of rest) known) (ap (λ (l : List ℕ). slice_index l 0) same) at
      (subst (λ (p : ℕ). IsAnswered plays tones board history p a) first (each 0 a refl))
      (told (front ++ entry ∷ []) rest answers (is ∙ sym (append_assoc front (entry ∷ []) rest)) (All-tail (IsEvent board.trace) entry.1 (order_of rest) known) (ap (drop 1) same)
      (λ i b found. let place : length front + suc i ≡ length (front ++ entry ∷ []) + i = omega (arith, long) in
      subst (λ (p : ℕ). IsAnswered plays tones board history p b) place (each (suc i) b found)))

-- ---- a run that was answered

module _ (plays : Plays) (tones : Kind → List ℕ) (board : Board) (v w : SeatKnowledge) (answers : List Answer) (answered : AreAnswered plays tones board v w answers) (begins : StartsWith w.seen v.seen)
    (known : All (IsEvent board.trace) (new_events v w)) where
  all_told : AreReplied plays tones board v.seen (new_events v w) answers
  all_told =
      let new : unseen v.seen w.seen ≡ begins.0 = ap (drop (length v.seen)) begins.1 ∙ drop-append_seam v.seen begins.0 in
      told plays tones board w.seen v.seen (unseen v.seen w.seen) answers (begins.1 ∙ ap (λ (l : List Entry). v.seen ++ l) (sym new)) known answered.events answered.each

  -- the answers have the lines of the events, in the order of the history
  pub lines_told : answer_lines answers ≡ event_lines (plays tones) (setting_at board) (world_at board v.seen) (new_events v w) (events_of board.trace.events (new_events v w))
  lines_told = all_told.lines

  -- few paths were moved
  pub few_told : GrewFew board v w
  few_told = all_told.few

  -- the calls that ended are the answers'
  pub calls_told_of : calls_answered answers ≡ grown_calls board v w
  calls_told_of = all_told.calls

-- ---- what the history grew by

-- few paths were moved, also in these events
pub few_grown : (board : Board) (v w : SeatKnowledge) → StartsWith w.seen v.seen → MovesFew (fabric_at board) board.trace (order_of v.seen) → GrewFew board v w → MovesFew (fabric_at board) board.trace (order_of w.seen)
few_grown board v w begins few more =
    let s = setting_at board in
    let old = events_of board.trace.events (order_of v.seen) in
    let new = events_of board.trace.events (new_events v w) in
    let split : events_of board.trace.events (order_of w.seen) ≡ old ++ new = ap (events_of board.trace.events) (order_grown v w begins) ∙ events_append board.trace (order_of v.seen) (new_events v w) in
    subst (All (MovesAtMost board.bound)) (sym (ap (run s (start s.dimensions)) split ∙ run-append s (start s.dimensions) old new))
    (All-append (MovesAtMost board.bound) (run s (start s.dimensions) old) (run s (world_at board v.seen) new) few more)
