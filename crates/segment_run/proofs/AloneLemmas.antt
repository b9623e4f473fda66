-- A segment that seat 0 did alone, in the order of the file, and what a run promises of it.
use Rattle.std.proofs.Common.{◌≡◌, ℕ, ◌+◌, ◌<◌, ◌≤◌, ◌&&◌, Bool, true, false, cond, IsTrue, List, [], ◌∷◌, ◌++◌, map, filter, length, refl, sym, ap, ◌∙◌, subst, arith, length-append}
use Rattle.std.specs.Prelude.{nat_eq}
use Rattle.std.specs.List.{All}
use Rattle.std.proofs.lemmas.Bool.Decides.{nat_tests}
use Rattle.std.proofs.lemmas.List.Elements.{filter-append}
use Rattle.circuit_model.specs.declared.circuit.Kind.{Kind}
use Rattle.exchange_events.specs.declared.answer.Answer.{Answer}
use Rattle.exchange_events.specs.declared.trace.Trace.{Trace}
use Rattle.exchange_events.specs.Orders.{Worker, segment_of, file_order}
use Rattle.exchange_core.specs.Boards.{Board}
use Rattle.exchange_core.specs.Working.{Entry, order_of}
use Rattle.seat_history.proofs.HistoryLemmas.{unseen_front}
use Rattle.seat_history.specs.declared.seat_knowledge.SeatKnowledge.{SeatKnowledge}
use Rattle.seat_history.specs.declared.seat_knowledge.JoinedSeat.{JoinedSeat}
use Rattle.seat_history.specs.Histories.{unseen}
use Rattle.seat_history.specs.Seats.{Settled}
use Rattle.call_processor.specs.declared.worked.Placed.{Placed}
use Rattle.call_processor.specs.Alone.{DidInOrder, HasOctets, HoldsBehind}
use Rattle.call_processor.specs.Frames.{Plays}
use Rattle.call_processor.specs.Keeping.{KeepsWork}
use Rattle.call_processor.specs.Parts.{events_of_segment, is_its, part_of}
use Rattle.call_processor.specs.Work.{IsAnswer, answered_events, entries_for}
use Rattle.segment_run.specs.Segment.{AddsAnswers, AreAnswered, IsAnswered, IsChief, IsOfSegment, Ran, RanWhole, new_events}
use Rattle.segment_run.proofs.AnswerLemmas.{got_map}
use Rattle.segment_run.proofs.ListLemmas.{In, all_in, filter_in, got_in, got_within, in_all, in_left, length_of_map, range_in}
use Rattle.segment_run.proofs.MergeLemmas.{each_place}

-- ---- the parts of a segment

filter_both : (p q : ℕ → Bool) (xs : List ℕ) → filter (λ (n : ℕ). p n && q n) xs ≡ filter q (filter p xs)
filter_both p q [] = refl
filter_both p q (x ∷ xs) = one (p x) (filter_both p q xs)
  where
    one : (a : Bool) → filter (λ (n : ℕ). p n && q n) xs ≡ filter q (filter p xs) → cond (a && q x) (x ∷ filter (λ (n : ℕ). p n && q n) xs) (filter (λ (n : ℕ). p n && q n) xs) ≡ filter q (cond a (x ∷ filter p xs) (filter p xs))
    one true rest = ap (λ (l : List ℕ). cond (q x) (x ∷ l) l) rest
    one false rest = rest

-- a part is what its worker does of the segment's events
part_among : (trace : Trace) (segment : ℕ) (worker : Worker) → part_of trace segment worker ≡ filter (is_its trace worker) (events_of_segment trace segment)
part_among trace segment worker = filter_both (λ (n : ℕ). nat_eq (segment_of trace.segments n) segment) (is_its trace worker) (file_order (length trace.events))

of_segment : (trace : Trace) (segment n : ℕ) → In n (events_of_segment trace segment) → IsOfSegment trace segment n
of_segment trace segment n i =
    let f = filter_in (λ (m : ℕ). nat_eq (segment_of trace.segments m) segment) (file_order (length trace.events)) n i in
    let here = f.0 in
    let r = range_in 1 (length trace.events) n f.1 in
    let low = r.0 in
    let high = r.1 in
    ((low, omega (arith, high)), grind (arith, nat_tests, here))

-- ---- what the history grew by

orders : (number : ℕ) (events : List ℕ) → order_of (entries_for number events) ≡ events
orders number [] = refl
orders number (n ∷ events) = ap (λ (l : List ℕ). n ∷ l) (orders number events)

map_events : (ps : List Placed) → map (λ (a : Answer). a.event) (map (λ (p : Placed). p.answer) ps) ≡ answered_events ps
map_events [] = refl
map_events (p ∷ ps) = ap (λ (l : List ℕ). p.answer.event ∷ l) (map_events ps)

module _ (trace : Trace) (segment : ℕ) (v w : SeatKnowledge) (whole : Bool) (d : DidInOrder (events_of_segment trace segment) v whole w) where
  new_are : new_events v w ≡ d.done
  new_are =
      ap (λ (l : List Entry). order_of (unseen v.seen l)) d.grew
      ∙ (ap order_of (unseen_front v.seen (entries_for v.number d.done)) ∙ orders v.number d.done)

  pub alone_chief : (turns : ℕ) → IsChief turns v → (Settled turns v → Settled turns w) → IsChief turns w
  alone_chief turns chief settled = record {
    number = d.did.number ∙ chief.number;
    baton = subst IsTrue (sym d.did.baton) chief.baton;
    joined = d.did.made ∙ (chief.joined ∙ sym (ap (λ (l : List JoinedSeat). length l) d.did.others));
    settled = settled chief.settled;
  }

  pub alone_ran : Ran trace segment v w
  alone_ran = record {
    begins = (entries_for v.number d.done, d.grew);
    only = subst (All (IsOfSegment trace segment)) (sym new_are) (in_all (IsOfSegment trace segment) d.done (λ n i.
        of_segment trace segment n (subst (λ (l : List ℕ). In n l) (sym d.first.1) (in_left d.done d.first.0 n i))));
    fronts = λ worker. (
      filter (is_its trace worker) d.first.0,
      part_among trace segment worker
          ∙ (ap (filter (is_its trace worker)) d.first.1
          ∙ (filter-append (is_its trace worker) d.done d.first.0
          ∙ ap (λ (l : List ℕ). filter (is_its trace worker) l ++ filter (is_its trace worker) d.first.0) (sym new_are))),
    );
    turns = let a = ap length new_are in let b = d.did.turns in omega (arith, a, b);
    few = let a = d.did.made in omega (arith, a);
  }

  module _ (all : IsTrue whole) where
    pub alone_whole : RanWhole trace segment v w
    alone_whole worker = ap (filter (is_its trace worker)) (new_are ∙ d.all all) ∙ sym (part_among trace segment worker)

    pub alone_long : length w.seen ≡ length v.seen + length (events_of_segment trace segment)
    alone_long =
        let a = ap length d.grew in
        let b = length-append v.seen (entries_for v.number d.done) in
        let c = length_of_map {Y = Entry} (λ (n : ℕ). (v.number, n)) d.done in
        let e = ap length (d.all all) in
        omega (arith, a, b, c, e)

    module _ {K : Type 0} (holds : K → List Placed → Type 0) (plays : Plays) (tones : Kind → List ℕ) (board : Board) (first k : K)
        (works : KeepsWork (HoldsBehind holds first) board (HasOctets plays tones board) (events_of_segment trace segment) v k whole w) where
      many : length works.answers ≡ length (events_of_segment trace segment)
      many = sym (length_of_map (λ (p : Placed). p.answer.event) works.answers) ∙ ap length (works.works.all all)

      given : (p : Placed) → In p works.answers → IsAnswered plays tones board w.seen p.place p.answer
      given p i =
          let a = all_in (IsAnswer board w) works.answers works.works.each p i in
          let said = all_in (HasOctets plays tones board w) works.answers works.said p i in
          record { reply = a.reply; given = a.given; few = a.few; keeps = a.keeps; played = said.0; silent = said.1 }

      placed_within : (p : Placed) → In p works.answers → (length v.seen ≤ p.place) × (p.place < length v.seen + length works.answers)
      placed_within p i =
          let a = all_in (IsAnswer board w) works.answers works.works.each p i in
          let low = all_in (λ (q : Placed). length v.seen ≤ q.place) works.answers works.works.beyond p i in
          let high = got_within w.seen p.place (w.number, p.answer.event) a.entry in
          (low, omega (arith, high, alone_long, many))

      answered : AreAnswered plays tones board v w (map (λ (p : Placed). p.answer) works.answers)
      answered = record {
        events = map_events works.answers ∙ (works.works.all all ∙ (sym (d.all all) ∙ sym new_are));
        each = λ i a at.
            let g = got_map (λ (p : Placed). p.answer) works.answers i a at in
            let place = each_place (length v.seen) works.answers works.works.rising placed_within i g.0 g.1 in
            subst (λ (x : ℕ). IsAnswered plays tones board w.seen x a) place
            (subst (IsAnswered plays tones board w.seen g.0.place) g.2 (given g.0 (got_in works.answers i g.0 g.1)));
      }

      pub alone_answers : (kept : List Placed) → holds first kept → AddsAnswers holds plays tones board v w kept k
      alone_answers kept have = record { answers = works.answers; answered = answered; held = works.held kept have }
