-- The answers of all workers, each at its place in the history.
use Rattle.std.proofs.Common.{◌≡◌, ◌≢◌, ℕ, zero, suc, ◌+◌, ◌<◌, ◌≤◌, ◌⊎◌, inl, inr, Bool, true, false, ◌&&◌, IsTrue, List, [], ◌∷◌, ◌++◌, map, length, reverse, take, slice_get, Option, Some, None, refl, sym, ap, ◌∙◌, subst, arith, length-append}
use Rattle.std.specs.Prelude.{nat_eq}
use Rattle.std.specs.List.{All, AllZip}
use Rattle.std.proofs.lemmas.Bool.{cases_lt}
use Rattle.std.proofs.lemmas.List.{reverse-append}
use lib.Seq.{take-append-le}
use Rattle.circuit_model.specs.declared.circuit.Kind.{Kind}
use Rattle.circuit_model.specs.FrameInput.{Input}
use Rattle.exchange_events.specs.declared.answer.Answer.{Answer}
use Rattle.exchange_events.specs.declared.trace.Event.{Event}
use Rattle.exchange_events.specs.declared.trace.Event.TheVariants.{Nail, Seat, Free, Message, Frame, LinkUp, LinkDown, RestartLine}
use Rattle.exchange_events.specs.declared.trace.Trace.{Trace}
use Rattle.exchange_events.specs.Orders.{Worker, Processor, Frame_worker, event_at, segment_of}
use Rattle.seat_history.specs.declared.seat_knowledge.SeatKnowledge.{SeatKnowledge}
use Rattle.seat_history.specs.Histories.{StartsWith, before}
use Rattle.exchange_core.specs.Boards.{Board, AnswersAt, world_at, IsFrame}
use Rattle.exchange_core.specs.Working.{Entry, IsNumbered, order_of}
use Rattle.call_processor.specs.declared.worked.Placed.{Placed}
use Rattle.call_processor.specs.Frames.{Plays, IsPlayed}
use Rattle.call_processor.specs.Parts.{does, is_its}
use Rattle.call_processor.specs.Work.{IsAnswer, Works, answered_events}
use Rattle.segment_run.specs.Jobs.{HasItsOctets}
use Rattle.segment_run.specs.Merging.{AreApart}
use Rattle.segment_run.specs.Merging.{IsMerged}
use Rattle.segment_run.specs.Merging.{all_of}
use Rattle.segment_run.specs.Segment.{IsAnswered, AreAnswered, new_events}
use Rattle.segment_run.specs.Workers.{AreDealt, load, part_numbered, turns_left, worker_numbered}
use Rattle.segment_run.proofs.ListLemmas.{In, all_in, in_either, in_left, in_map, filter_in, length_of_map, range_in, both, got_in, slice_get-append_left, slice_get-append_right, got_within}
use Rattle.segment_run.proofs.DoerLemmas.{numbered_frames, numbered_processor}
use Rattle.segment_run.proofs.MergeLemmas.{all_of_last, all_of_none, apart_last, each_place, events_are}
use Rattle.segment_run.proofs.RunLemmas.{zip_right}

reverse_cons : {X : Type 0} (x : X) (xs : List X) → reverse (x ∷ xs) ≡ reverse xs ++ x ∷ []
reverse_cons x xs = reverse-append (x ∷ []) xs

-- the number of an entry, 0 for none
abbrev number_of : Option Entry → ℕ
number_of None = 0
number_of (Some e) = e.0

-- what the frame worker does is a frame
its_frame : (trace : Trace) (n : ℕ) → is_its trace Frame_worker n ≡ true → IsFrame trace n
its_frame trace n its = go (event_at trace.events n) its
  where
    go : (o : Option Event) → does trace.processors Frame_worker o ≡ true → (input : Input) × (o ≡ Some (Frame input))
    go None off = absurd (cc off)
    go (Some (Frame input)) on = (input, refl)
    go (Some (Nail x y)) off = absurd (cc off)
    go (Some (Seat x room)) off = absurd (cc off)
    go (Some (Free x)) off = absurd (cc off)
    go (Some (Message line octets)) off = absurd (cc off)
    go (Some (LinkUp line)) off = absurd (cc off)
    go (Some (LinkDown line)) off = absurd (cc off)
    go (Some (RestartLine line)) off = absurd (cc off)

pub got_map : {X Y : Type 0} (f : X → Y) (xs : List X) (i : ℕ) (y : Y) → slice_get (map f xs) i ≡ Some y → (x : X) × (slice_get xs i ≡ Some x) × (f x ≡ y)
got_map f [] i y at = absurd (cc at)
got_map f (x ∷ xs) zero y at = (x, refl, cc at)
got_map f (x ∷ xs) (suc i) y at = got_map f xs i y at

-- a frame is no event of a call processor
pub no_frame : (trace : Trace) (p n : ℕ) (input : Input) → is_its trace (Processor p) n ≡ true → IsNumbered trace n (Frame input) → ⊥
no_frame trace p n input its number = let e : false ≡ true = ap (does trace.processors (Processor p)) (sym number) ∙ its in absurd (cc e)

module _ {J U : Type 0} (plays : Plays) (tones : Kind → List ℕ) (board : Board) (trace : Trace) (segment : ℕ) (wj : J → ℕ) (kj : J → SeatKnowledge) (ku : U → SeatKnowledge) (au : U → List Placed) (bu : U → Bool) where
  abbrev pub Octets : J → U → Type 0
  Octets j u = All (HasItsOctets plays tones board trace (wj j) (ku u)) (au u)

  abbrev pub Answers : J → U → Type 0
  Answers j u = Works board (part_numbered trace segment (wj j)) (kj j) (au u) (bu u) (ku u) × Octets j u

  abbrev pub rows_of : List J → List (ℕ × SeatKnowledge)
  rows_of js = map (λ (j : J). (wj j, kj j)) js

  -- what holds of a worker's answer once seat 0 knows k
  record Good (lo : ℕ) (k : SeatKnowledge) (n : ℕ) (p : Placed) : Type 0 where
    entry : slice_get k.seen p.place ≡ Some (n, p.answer.event)
    low : lo ≤ p.place
    event : p.answer.event ≢ 0
    given : IsAnswered plays tones board k.seen p.place p.answer

  module _ (same : trace ≡ board.trace) (v k : SeatKnowledge) where
    good : (j : J) (u : U) → Answers j u → wj j ≤ trace.processors → (kj j).seen ≡ v.seen → StartsWith k.seen (ku u).seen → (p : Placed) → In p (au u) → Good (length v.seen) k (kj j).number p
    good j u r few started s p i =
        let w = r.0 in
        let a = all_in (IsAnswer board (ku u)) (au u) w.each p i in
        let here = got_within (ku u).seen p.place ((ku u).number, p.answer.event) a.entry in
        let as_before : before p.place k.seen ≡ before p.place (ku u).seen = ap (take p.place) s.1 ∙ take-append-le p.place (ku u).seen s.0 (omega (arith, here)) in
        let beyond = all_in (λ (q : Placed). length (kj j).seen ≤ q.place) (au u) w.beyond p i in
        let long = ap length started in
        let part = part_numbered trace segment (wj j) in
        let said : In p.answer.event (answered_events (au u)) = in_map (λ (q : Placed). q.answer.event) (au u) p i in
        let done : In p.answer.event w.done = subst (λ (l : List ℕ). In p.answer.event l) (sym w.told.1) (in_left (answered_events (au u)) w.told.0 p.answer.event said) in
        let its : In p.answer.event part = subst (λ (l : List ℕ). In p.answer.event l) (sym w.first.1) (in_left w.done w.first.0 p.answer.event done) in
        let worker = worker_numbered trace.processors (wj j) in
        let f = filter_in (λ (m : ℕ). nat_eq (segment_of trace.segments m) segment && is_its trace worker m) _ p.answer.event its in
        let mine = (both (nat_eq (segment_of trace.segments p.answer.event) segment) (is_its trace worker p.answer.event) f.0).1 in
        let r1 = (range_in 1 (length trace.events) p.answer.event f.1).0 in
        record {
          entry = ap (λ (l : List Entry). slice_get l p.place) s.1
              ∙ (slice_get-append_left (ku u).seen s.0 p.place ((ku u).number, p.answer.event) a.entry ∙ ap (λ (m : ℕ). Some (m, p.answer.event)) w.did.number);
          low = omega (arith, beyond, long);
          event = λ e. omega (arith, e, r1);
          given = record {
            reply = a.reply;
            given = subst (λ (l : List Entry). AnswersAt board l p.answer.event a.reply) (sym as_before) a.given;
            few = a.few;
            keeps = a.keeps;
            played = λ input number. subst (λ (l : List Entry). IsPlayed plays tones board.trace.external (world_at board l) input p.answer.octets) (sym as_before)
                (octets mine input number (cases_lt (wj j) trace.processors));
            silent = λ never. silent mine never (cases_lt (wj j) trace.processors);
          };
        }
      where
        octets : is_its trace (worker_numbered trace.processors (wj j)) p.answer.event ≡ true → (input : Input) → IsNumbered board.trace p.answer.event (Frame input)
            → (wj j < trace.processors) ⊎ (trace.processors ≤ wj j)
            → IsPlayed plays tones board.trace.external (world_at board (before p.place (ku u).seen)) input p.answer.octets
        octets mine input number (inl inside) =
            absurd (no_frame trace (wj j) p.answer.event input (ap (λ (w : Worker). is_its trace w p.answer.event) (sym (numbered_processor trace.processors (wj j) inside)) ∙ mine)
            (subst (λ (t : Trace). IsNumbered t p.answer.event (Frame input)) (sym same) number))
        octets mine input number (inr past) = (all_in (HasItsOctets plays tones board trace (wj j) (ku u)) (au u) r.1 p i).0 (omega (arith, past, few)) input number

        silent : is_its trace (worker_numbered trace.processors (wj j)) p.answer.event ≡ true → (IsFrame board.trace p.answer.event → ⊥) → (wj j < trace.processors) ⊎ (trace.processors ≤ wj j) → p.answer.octets ≡ []
        silent mine never (inl inside) = (all_in (HasItsOctets plays tones board trace (wj j) (ku u)) (au u) r.1 p i).1 inside
        silent mine never (inr past) =
            absurd (never (subst (λ (t : Trace). IsFrame t p.answer.event) same
            (its_frame trace p.answer.event (ap (λ (w : Worker). is_its trace w p.answer.event) (sym (numbered_frames trace.processors (wj j) past)) ∙ mine))))

    -- ---- all answers

    abbrev pub lists : List U → List (List Placed)
    lists us = reverse (map au us)

    lists_cons : (u : U) (us : List U) → all_of (lists (u ∷ us)) ≡ all_of (lists us) ++ (au u)
    lists_cons u us = ap all_of (reverse_cons (au u) (map au us)) ∙ all_of_last (lists us) (au u)

    in_lists : (us : List U) (p : Placed) → In p (all_of (lists us)) → (u : U) × In u us × In p (au u)
    in_lists [] p i = absurd (subst (λ (l : List Placed). In p l) all_of_none i)
    in_lists (u ∷ us) p i = pick (in_lists us p) (in_either (all_of (lists us)) (au u) p (subst (λ (l : List Placed). In p l) (lists_cons u us) i))
      where
        pick : (In p (all_of (lists us)) → (x : U) × In x us × In p (au x)) → In p (all_of (lists us)) ⊎ In p (au u) → (x : U) × In x (u ∷ us) × In p (au x)
        pick tail (inl h) = let r = tail h in (r.0, inr r.1, r.2)
        pick tail (inr h) = (u, inl refl, h)

    record Since (n : ℕ) (j : J) : Type 0 where
      number : n ≤ (kj j).number
      few : wj j ≤ trace.processors
      started : (kj j).seen ≡ v.seen
      turns : (kj j).left ≡ load trace segment (wj j)

    since_in : (n low : ℕ) (js : List J) → AreDealt trace segment v n low (rows_of js) → (j : J) → In j js → Since n j
    since_in n low [] d j i = absurd i
    since_in n low (x ∷ js) d j (inl e) = let is = d.2.number_is in subst (Since n) e (record { number = omega (arith, is); few = d.1; started = d.2.seen_is; turns = d.2.turns_are })
    since_in n low (x ∷ js) d j (inr more) =
        let r = since_in (n + 1) (wj x + 1) js d.3 j more in
        let a = r.number in
        record { number = omega (arith, a); few = r.few; started = r.started; turns = r.turns }

    abbrev Seen : U → Type 0
    Seen u = StartsWith k.seen (ku u).seen

    record Known_answer (n : ℕ) (p : Placed) : Type 0 where
      number : ℕ
      high : n ≤ number
      good : Good (length v.seen) k number p

    -- each answer of these workers is a good one
    one_good : (n low : ℕ) (js : List J) (us : List U) → AllZip Answers js us → AreDealt trace segment v n low (rows_of js) → All Seen us → (p : Placed) → In p (all_of (lists us)) → Known_answer n p
    one_good n low js us z d seen p i =
        let q = in_lists us p i in
        let u = q.0 in
        let r = zip_right Answers js us z u q.1 in
        let since = since_in n low js d r.0 r.1 in
        record { number = (kj r.0).number; high = since.number; good = good r.0 u r.2 since.few since.started (all_in Seen us seen u q.1) p q.2 }

    pub apart : (n low : ℕ) (js : List J) (us : List U) → AllZip Answers js us → AreDealt trace segment v n low (rows_of js) → All Seen us → AreApart (lists us)
    apart n low [] [] z d seen = tt
    apart n low [] (u ∷ us) z d seen = absurd z
    apart n low (j ∷ js) [] z d seen = absurd z
    apart n low (j ∷ js) (u ∷ us) z d seen =
        let tail : All Seen us = λ i x h. seen (suc i) x (omega (arith, h)) in
        subst AreApart (sym (reverse_cons (au u) (map au us)))
        (apart_last (lists us) (au u) (apart (n + 1) (wj j + 1) js us z.1 d.3 tail) z.0.0.rising
        (λ p q a b e.
        let older = one_good (n + 1) (wj j + 1) js us z.1 d.3 tail p a in
        let mine = good j u z.0 d.1 d.2.seen_is (seen 0 u (omega arith)) q b in
        let both_there : Some ((kj j).number, q.answer.event) ≡ Some (older.number, p.answer.event) = sym mine.entry ∙ (ap (slice_get k.seen) e ∙ older.good.entry) in
        let numbers : (kj j).number ≡ older.number = ap number_of both_there in
        let high = older.high in
        let is = d.2.number_is in
        omega (arith, numbers, high, is)))

    -- where all is whole, there are as many answers as turns were given
    pub length-all_of : (n low : ℕ) (js : List J) (us : List U) → AllZip Answers js us → AreDealt trace segment v n low (rows_of js) → All (λ (u : U). IsTrue (bu u)) us → length (all_of (lists us)) ≡ turns_left (rows_of js)
    length-all_of n low [] [] z d whole = ap length all_of_none
    length-all_of n low [] (u ∷ us) z d whole = absurd z
    length-all_of n low (j ∷ js) [] z d whole = absurd z
    length-all_of n low (j ∷ js) (u ∷ us) z d whole =
        let a = ap length (lists_cons u us) in
        let b = length-append (all_of (lists us)) (au u) in
        let c = length-all_of (n + 1) (wj j + 1) js us z.1 d.3 (λ i x h. whole (suc i) x (omega (arith, h))) in
        let told = ap length (z.0.0.all (whole 0 u (omega arith))) in
        let e = length_of_map (λ (q : Placed). q.answer.event) (au u) in
        let turns = d.2.turns_are in
        omega (arith, a, b, c, told, e, turns)

    module _ (rest : List Entry) (grew : k.seen ≡ v.seen ++ rest) (grown_is : new_events v k ≡ order_of rest) (n low : ℕ) (js : List J) (us : List U) (z : AllZip Answers js us) (d : AreDealt trace segment v n low (rows_of js)) (seen : All Seen us) where
      within : (p : Placed) → In p (all_of (lists us)) → (length v.seen ≤ p.place) × (p.place < length v.seen + length rest)
      within p i =
          let g = (one_good n low js us z d seen p i).good in
          let high = got_within k.seen p.place _ g.entry in
          let a = ap length grew in
          let b = length-append v.seen rest in
          (g.low, omega (arith, high, a, b))

      pub are_answered : length (all_of (lists us)) ≡ length rest → (m : List Placed) → IsMerged (lists us) m → AreAnswered plays tones board v k (map (λ (p : Placed). p.answer) m)
      are_answered many m merged = record {
        events = events_are rest (map (λ (p : Placed). p.answer) m) (omega (arith, length_of_map (λ (p : Placed). p.answer) m, merged_many, many)) (λ i a at.
            let t = there i a at in
            let g = (one_good n low js us z d seen t.0 t.1).good in
            let number = (one_good n low js us z d seen t.0 t.1).number in
            (number, sym (slice_get-append_right v.seen rest i) ∙ (ap (λ (l : List Entry). slice_get l (length v.seen + i)) (sym grew) ∙ (ap (slice_get k.seen) (sym t.2) ∙ (g.entry ∙ ap (λ (x : Answer). Some (number, x.event)) t.3)))))
            ∙ sym grown_is;
        each = λ i a at.
            let t = there i a at in
            let g = (one_good n low js us z d seen t.0 t.1).good in
            subst (λ (x : ℕ). IsAnswered plays tones board k.seen x a) t.2 (subst (IsAnswered plays tones board k.seen t.0.place) t.3 g.given);
      }
        where
          merged_many : length m ≡ length (all_of (lists us))
          merged_many = merged.many

          there : (i : ℕ) (a : Answer) → slice_get (map (λ (p : Placed). p.answer) m) i ≡ Some a → (p : Placed) × In p (all_of (lists us)) × (p.place ≡ length v.seen + i) × (p.answer ≡ a)
          there i a at =
              let g = got_map (λ (p : Placed). p.answer) m i a at in
              let long = merged_many in (
                g.0,
                merged.each g.0 (got_in m i g.0 g.1),
                each_place (length v.seen) m merged.rising (λ q j. let w = within q (merged.each q j) in let high = w.1 in (w.0, omega (arith, high, long, many))) i g.0 g.1,
                g.2,
              )
