-- Segments that are done one after another make a lawful order.
use Rattle.std.proofs.Common.{◌≡◌, ◌≢◌, ℕ, zero, suc, ◌+◌, ◌-◌, ◌*◌, ◌^◌, ◌<◌, ◌≤◌, ◌&&◌, Bool, true, cond, nat_eq, List, [], ◌∷◌, ◌++◌, length, take, drop, get_or, slice_index, Some, Contains, filter, refl, sym, ap, subst, ◌∙◌, arith, inl, inr, length-append, length-take-le, append_assoc}
use Rattle.std.specs.Prelude.{All, AllPairs}
use Rattle.std.specs.List.{range_with_len}
use Rattle.std.proofs.lemmas.Bool.{cases_lt}
use Rattle.std.proofs.lemmas.Bool.Decides.{nat_tests}
use Rattle.std.proofs.lemmas.List.{length-map, get_or_default, get_or-take, get_or-append-add, map-append, take-append-drop, take-append-le, get_or_append_left}
use Rattle.std.proofs.lemmas.List.Elements.{All-nil, All-append, All-weaker, All-contains, All-contains_itself, All-filter, Contains-append_left, Contains-append_right, Contains-append_cases, Contains-get_or, filter-append}
use Rattle.std.proofs.lemmas.List.FromFn.{length-range_with_len, get_or-range_with_len}
use Rattle.std.proofs.lemmas.List.Kept.{AllPairs-cons, AllPairs-filter}
use Rattle.std.proofs.Math.Seq.{drop-cons, drop-append_seam, take-append-add}
use Rattle.exchange_events.specs.declared.trace.Event.{Event}
use Rattle.exchange_events.specs.declared.trace.Trace.{Trace}
use Rattle.exchange_events.specs.Orders.{Worker, Processor, Frame_worker, event_at, worker_of, segment_of, Precedes, IsEvent, IsLawful, IsLawfulPrefix, file_order}
use Rattle.seat_history.specs.declared.seat_knowledge.JoinedSeat.{JoinedSeat}
use Rattle.seat_history.specs.declared.seat_knowledge.SeatKnowledge.{SeatKnowledge}
use Rattle.seat_history.specs.Histories.{StartsWith, entries_of, unseen}
use Rattle.seat_history.specs.Seats.{Accounts, first_seat}
use Rattle.exchange_events.specs.Sound.{IsSound, last_of}
use Rattle.exchange_events.proofs.EventNumbers.{event_there}
use Rattle.exchange_core.specs.Working.{Entry, order_of}
use Rattle.call_processor.specs.Parts.{is_worker, does, is_its, part_of}
use Rattle.call_processor.proofs.PartLemmas.{segment_of_at_least, segment_of_at_most, in_segment, ends_rise, below_last}
use Rattle.segment_run.specs.Segment.{new_events, of_worker, IsChief, IsOfSegment, Ran, RanWhole}
use Rattle.segment_run.specs.Segments.{IsDoneBelow, events_before}

-- ---- lists of numbers that rise

abbrev Rises : List ℕ → Type 0
Rises xs = AllPairs (λ (m n : ℕ). m < n) xs

rises_tail : (x : ℕ) (xs : List ℕ) → Rises (x ∷ xs) → Rises xs
rises_tail x xs r i j d below within = r (suc i) (suc j) d (omega arith) (omega arith)

rises_front : (xs ys : List ℕ) → Rises (xs ++ ys) → Rises xs
rises_front xs ys r i j d below within =
    let long = length-append xs ys in
    let low : get_or (xs ++ ys) i d ≡ get_or xs i d = get_or_append_left xs ys d i (omega (arith, below, within)) in
    let high : get_or (xs ++ ys) j d ≡ get_or xs j d = get_or_append_left xs ys d j within in
    let lt = r i j d below (omega (arith, within, long)) in
    omega (arith, low, high, lt)

-- what comes before a number is smaller, and what comes behind it is not
smaller_before : (xs ys : List ℕ) (m n : ℕ) → Rises (xs ++ n ∷ ys) → Contains xs m → m < n
smaller_before [] ys m n r at = absurd (let within = at.1 in omega (arith, within))
smaller_before (x ∷ xs) ys m n r (zero, within, is) =
    let long = length-append xs (n ∷ ys) in
    let last : get_or (xs ++ n ∷ ys) (length xs) 0 ≡ n = at_seam xs in
    let lt = r 0 (suc (length xs)) 0 (omega arith) (omega (arith, long)) in
    omega (arith, lt, last, is)
  where
    at_seam : (zs : List ℕ) → get_or (zs ++ n ∷ ys) (length zs) 0 ≡ n
    at_seam [] = refl
    at_seam (z ∷ zs) = at_seam zs
smaller_before (x ∷ xs) ys m n r (suc k, within, is) = smaller_before xs ys m n (rises_tail x (xs ++ n ∷ ys) r) (k, omega (arith, within), is)

not_smaller_after : (xs ys : List ℕ) (m n : ℕ) → Rises (xs ++ n ∷ ys) → Contains (n ∷ ys) m → n ≤ m
not_smaller_after [] ys m n r (zero, within, is) = omega (arith, is)
not_smaller_after [] ys m n r (suc k, within, is) = let lt = r 0 (suc k) m (omega arith) within in omega (arith, lt, is)
not_smaller_after (x ∷ xs) ys m n r at = not_smaller_after xs ys m n (rises_tail x (xs ++ n ∷ ys) r) at

rises_range : (a n : ℕ) → Rises (range_with_len a n)
rises_range a n i j d below within =
    let long = length-range_with_len a n in
    let low = get_or-range_with_len a n i d (omega (arith, below, within, long)) in
    let high = get_or-range_with_len a n j d (omega (arith, within, long)) in
    omega (arith, low, high, below)

-- ---- what passes a test

pairs_append : (R : ℕ → ℕ → Type 0) (xs ys : List ℕ) → AllPairs R xs → AllPairs R ys → ((m n : ℕ) → Contains xs m → Contains ys n → R m n) → AllPairs R (xs ++ ys)
pairs_append R [] ys first second across = second
pairs_append R (x ∷ xs) ys first second across =
    AllPairs-cons R x (xs ++ ys)
    (All-append (R x) xs ys (λ k d within. first 0 (suc k) d (omega arith) (omega arith)) (λ k d within. across x (get_or ys k d) (0, omega arith, refl) (Contains-get_or ys k d within)))
    (pairs_append R xs ys (λ i j d less within. first (suc i) (suc j) d (omega arith) (omega arith)) second (λ m n at there. across m n (suc at.0, let inside = at.1 in omega (arith, inside), at.2) there))

split_at : (xs : List ℕ) (k d : ℕ) → k < length xs → xs ≡ take k xs ++ get_or xs k d ∷ drop (suc k) xs
split_at xs k d within = sym (take-append-drop k xs) ∙ ap (λ (l : List ℕ). take k xs ++ l) (drop-cons xs k d within)

module _ (p : ℕ → Bool) where
  filter_split : (xs ys : List ℕ) (n : ℕ) → p n ≡ true → filter p (xs ++ n ∷ ys) ≡ filter p xs ++ n ∷ filter p ys
  filter_split xs ys n passes =
      filter-append p xs (n ∷ ys) ∙ ap (λ (b : Bool). filter p xs ++ cond b (n ∷ filter p ys) (filter p ys)) passes

  filter_at : (xs : List ℕ) (k n d : ℕ) → k < length xs → get_or xs k d ≡ n → p n ≡ true → filter p xs ≡ filter p (take k xs) ++ n ∷ filter p (drop (suc k) xs)
  filter_at xs k n d within is passes =
      ap (filter p) (split_at xs k d within ∙ ap (λ (m : ℕ). take k xs ++ m ∷ drop (suc k) xs) is) ∙ filter_split (take k xs) (drop (suc k) xs) n passes

  filter_within : (xs : List ℕ) (n : ℕ) → Contains (filter p xs) n → Contains xs n
  filter_within xs n at = All-contains (Contains xs) (filter p xs) n (All-filter p (Contains xs) xs (All-contains_itself xs)) at

  passes_on : (xs : List ℕ) (n : ℕ) → p n ≡ true → Contains xs n → Contains (filter p xs) n
  passes_on xs n passes at =
      subst (λ (l : List ℕ). Contains l n) (sym (filter_at xs at.0 n n at.1 at.2 passes))
      (Contains-append_right (filter p (take at.0 xs)) (n ∷ filter p (drop (suc at.0) xs)) n (0, omega arith, refl))

-- ---- events and their workers

is_itself : (w : Worker) → is_worker w w ≡ true
is_itself (Processor n) = grind (arith, nat_tests)
is_itself Frame_worker = refl

its : (trace : Trace) (n : ℕ) (e : Event) → event_at trace.events n ≡ Some e → is_its trace (worker_of trace.processors e) n ≡ true
its trace n e is = ap (does trace.processors (worker_of trace.processors e)) is ∙ is_itself (worker_of trace.processors e)

-- every event has a worker that does it
worker_for : (trace : Trace) (n : ℕ) → IsEvent trace n → (worker : Worker) × (is_its trace worker n ≡ true)
worker_for trace n is =
    let e = event_there trace n is in
    (worker_of trace.processors e.0, its trace n e.0 e.1)

rises_part : (trace : Trace) (k : ℕ) (worker : Worker) → Rises (part_of trace k worker)
rises_part trace k worker =
    AllPairs-filter (λ (m n : ℕ). m < n) (λ n. nat_eq (segment_of trace.segments n) k && is_its trace worker n) (file_order (length trace.events)) (rises_range 1 (length trace.events))

in_file : (count n : ℕ) → 1 ≤ n → n ≤ count → Contains (file_order count) n
in_file count n low high =
    let same : 1 + (n - 1) ≡ n = omega (arith, low) in
    (n - 1, omega (arith, length-range_with_len 1 count, low, high), get_or-range_with_len 1 count (n - 1) n (omega (arith, low, high)) ∙ same)

-- the events of a segment are in the parts of their workers
in_part : (trace : Trace) (k n : ℕ) (worker : Worker) → IsOfSegment trace k n → is_its trace worker n ≡ true → Contains (part_of trace k worker) n
in_part trace k n worker is does_it =
    let here : nat_eq (segment_of trace.segments n) k ≡ true = let e = is.1 in grind (arith, nat_tests, e) in
    passes_on (λ m. nat_eq (segment_of trace.segments m) k && is_its trace worker m) (file_order (length trace.events)) n
    (ap (λ (b : Bool). b && is_its trace worker n) here ∙ does_it)
    (in_file (length trace.events) n is.0.0 is.0.1)

-- ---- a segment more

-- the numbers were done of the segment, by each worker the first of its part
abbrev Fronts : Trace → ℕ → List ℕ → Type 0
Fronts trace k more = (worker : Worker) → (rest : List ℕ) × (part_of trace k worker ≡ of_worker trace worker more ++ rest)

module _ (trace : Trace) (k : ℕ) (order more : List ℕ) (below : IsDoneBelow trace k order) (only : All (IsOfSegment trace k) more) (fronts : Fronts trace k more) where
  -- the one with the lower number of two that one worker does was done first
  rises_own : (worker : Worker) → Rises (of_worker trace worker more)
  rises_own worker = let f = fronts worker in rises_front (of_worker trace worker more) f.0 (subst Rises f.1 (rises_part trace k worker))

  apart_more : AllPairs (λ (m n : ℕ). m ≢ n) more
  apart_more i j d lt within same =
      let n = get_or more j d in
      let w = worker_for trace n (only j d within).0 in
      let p = is_its trace w.0 in
      let split = filter_at p more j n d within refl w.1 in
      let long = length-take-le j more (omega (arith, within)) in
      let read : get_or (take j more) i n ≡ get_or more i d = get_or-take j more i n lt ∙ get_or_default more i n d (omega (arith, lt, within)) in
      let early : Contains (take j more) n = (i, omega (arith, long, lt), read ∙ same) in
      let smaller = smaller_before (filter p (take j more)) (filter p (drop (suc j) more)) n n (subst Rises split (rises_own w.0)) (passes_on p (take j more) n w.1 early) in
      absurd (omega (arith, smaller))

  apart : AllPairs (λ (m n : ℕ). m ≢ n) (order ++ more)
  apart = pairs_append (λ (m n : ℕ). m ≢ n) order more below.lawful.distinct apart_more (λ m n early late same.
      let before = All-contains (λ l. segment_of trace.segments l < k) order m below.within early in
      let here = (All-contains (IsOfSegment trace k) more n only late).1 in
      let one = ap (segment_of trace.segments) same in
      absurd (omega (arith, before, here, one)))

  done_first : (j m : ℕ) → j < length more → IsEvent trace m → Precedes trace m (slice_index more j) → Contains (order ++ take j more) m
  done_first j m within is (inl earlier) =
      let here = (only j 0 within).1 in
      Contains-append_left order (take j more) m (below.all m is (omega (arith, earlier, here)))
  done_first j m within is (inr same) =
      let n = slice_index more j in
      let here = (only j 0 within).1 in
      let own = same.2 in
      let worker = worker_of trace.processors own.second in
      let p = is_its trace worker in
      let m_its : p m ≡ true = subst (λ (w : Worker). is_its trace w m ≡ true) own.same (its trace m own.first own.is_first) in
      let n_its : p n ≡ true = its trace n own.second own.is_second in
      let split = filter_at p more j n 0 within refl n_its in
      let f = fronts worker in
      let whole : part_of trace k worker ≡ filter p (take j more) ++ n ∷ (filter p (drop (suc j) more) ++ f.0) =
      f.1 ∙ (ap (λ (l : List ℕ). l ++ f.0) split ∙ append_assoc (filter p (take j more)) (n ∷ filter p (drop (suc j) more)) f.0) in
      let at : Contains (part_of trace k worker) m = in_part trace k m worker (is, same.0 ∙ here) m_its in
      Contains-append_right order (take j more) m (elim (Contains-append_cases (filter p (take j more)) (n ∷ (filter p (drop (suc j) more) ++ f.0)) m (subst (λ (l : List ℕ). Contains l m) whole at)) [
        | inl early ↦ filter_within p (take j more) m early
        | inr late ↦
            let not_less = not_smaller_after (filter p (take j more)) (filter p (drop (suc j) more) ++ f.0) m n (subst Rises whole (rises_part trace k worker)) late in
            let less = same.1 in
            absurd (omega (arith, not_less, less))
      ])

  pub lawful_more : IsLawfulPrefix trace (order ++ more)
  lawful_more = record {
    known = All-append (IsEvent trace) order more below.lawful.known (All-weaker (IsOfSegment trace k) (IsEvent trace) (λ n is. is.0) more only);
    distinct = apart;
    waits = λ i inside m is precedes. elim (cases_lt i (length order)) [
      | inl left ↦
          let read : slice_index (order ++ more) i ≡ slice_index order i = get_or_append_left order more 0 i left in
          let front : take i (order ++ more) ≡ take i order = take-append-le i order more (omega (arith, left)) in
          subst (λ (l : List ℕ). Contains l m) (sym front) (below.lawful.waits i left m is (subst (Precedes trace m) read precedes))
      | inr right ↦
          let j = i - length order in
          let at : length order + j ≡ i = omega (arith, right) in
          let long = length-append order more in
          let read : slice_index (order ++ more) i ≡ slice_index more j = ap (slice_index (order ++ more)) (sym at) ∙ get_or-append-add order more j 0 in
          let front : take i (order ++ more) ≡ order ++ take j more = ap (λ (n : ℕ). take n (order ++ more)) (sym at) ∙ take-append-add order more j in
          subst (λ (l : List ℕ). Contains l m) (sym front) (done_first j m (omega (arith, inside, long, right)) is (subst (Precedes trace m) read precedes))
    ];
  }

  -- where each worker did its whole part, all events of the segment were done
  pub done_more : ((worker : Worker) → of_worker trace worker more ≡ part_of trace k worker) → IsDoneBelow trace (k + 1) (order ++ more)
  done_more whole = record {
    lawful = lawful_more;
    within = All-append (λ n. segment_of trace.segments n < k + 1) order more
        (All-weaker (λ n. segment_of trace.segments n < k) (λ n. segment_of trace.segments n < k + 1) (λ n before. omega (arith, before)) order below.within)
        (All-weaker (IsOfSegment trace k) (λ n. segment_of trace.segments n < k + 1) (λ n is. let here = is.1 in omega (arith, here)) more only);
    all = λ n is less. elim (cases_lt (segment_of trace.segments n) k) [
      | inl earlier ↦ Contains-append_left order more n (below.all n is earlier)
      | inr not_earlier ↦
          let w = worker_for trace n is in
          let here : segment_of trace.segments n ≡ k = omega (arith, less, not_earlier) in
          let at : Contains (part_of trace k w.0) n = in_part trace k n w.0 (is, here) w.1 in
          Contains-append_right order more n (filter_within (is_its trace w.0) more n (subst (λ (l : List ℕ). Contains l n) (sym (whole w.0)) at))
    ];
  }

-- ---- a run of a segment

-- what a run adds to the order
pub order_grown : (v w : SeatKnowledge) → StartsWith w.seen v.seen → order_of w.seen ≡ order_of v.seen ++ new_events v w
order_grown v w begins =
    let new : unseen v.seen w.seen ≡ begins.0 = ap (drop (length v.seen)) begins.1 ∙ drop-append_seam v.seen begins.0 in
    ap order_of begins.1
    ∙ (map-append (λ (e : Entry). e.1) v.seen begins.0 ∙ ap (λ (l : List Entry). order_of v.seen ++ order_of l) (sym new))

-- what it adds are events of the trace
pub grown_known : (trace : Trace) (k : ℕ) (v w : SeatKnowledge) → Ran trace k v w → All (IsEvent trace) (new_events v w)
grown_known trace k v w ran = All-weaker (IsOfSegment trace k) (IsEvent trace) (λ n is. is.0) (new_events v w) ran.only

-- before the first segment nothing was done
pub IsDoneBelow_none : (trace : Trace) → IsDoneBelow trace 0 []
IsDoneBelow_none trace = record {
  lawful = record {
    known = All-nil (IsEvent trace);
    distinct = λ i j d below within. absurd (omega (arith, within));
    waits = λ i within. absurd (omega (arith, within));
  };
  within = All-nil (λ n. segment_of trace.segments n < 0);
  all = λ n is less. absurd (omega (arith, less));
}

-- a segment was run whole
pub IsDoneBelow_one_more : (trace : Trace) (k : ℕ) (v w : SeatKnowledge) → IsDoneBelow trace k (order_of v.seen) → Ran trace k v w → RanWhole trace k v w → IsDoneBelow trace (k + 1) (order_of w.seen)
IsDoneBelow_one_more trace k v w below ran whole =
    subst (IsDoneBelow trace (k + 1)) (sym (order_grown v w ran.begins)) (done_more trace k (order_of v.seen) (new_events v w) below ran.only ran.fronts whole)

-- a segment was run, and cut short
pub cut_short : (trace : Trace) (k : ℕ) (v w : SeatKnowledge) → IsDoneBelow trace k (order_of v.seen) → Ran trace k v w → IsLawfulPrefix trace (order_of w.seen)
cut_short trace k v w below ran =
    subst (IsLawfulPrefix trace) (sym (order_grown v w ran.begins)) (lawful_more trace k (order_of v.seen) (new_events v w) below ran.only ran.fronts)

-- ---- all segments

-- an order of all segments holds every event
pub IsLawful_all_done : (trace : Trace) (order : List ℕ) → IsSound trace → IsDoneBelow trace (length trace.segments) order → IsLawful trace order
IsLawful_all_done trace order sound below = record {
  begun = below.lawful;
  whole = λ n is. below.all n is (in_segment trace n sound.segments is);
}

-- ---- how many events were done

-- numbers that differ and are in a list are not more than the list has
few_of : (xs ys : List ℕ) → AllPairs (λ (m n : ℕ). m ≢ n) xs → All (Contains ys) xs → length xs ≤ length ys
few_of [] ys apart within = omega arith
few_of (x ∷ xs) ys apart within =
    let at = within 0 x (omega arith) in
    let front = take at.0 ys in
    let back = drop (suc at.0) ys in
    let split : ys ≡ front ++ x ∷ back = split_at ys at.0 x at.1 ∙ ap (λ (n : ℕ). front ++ n ∷ back) at.2 in
    let rest = few_of xs (front ++ back) (λ i j d less inside. apart (suc i) (suc j) d (omega arith) (omega arith))
    (λ i d inside. other front back x (get_or xs i d) (apart 0 (suc i) d (omega arith) (omega arith))
    (subst (λ (l : List ℕ). Contains l (get_or xs i d)) split (within (suc i) d (omega arith)))) in
    omega (arith, ap length split, length-append front (x ∷ back), length-append front back, rest)
  where
    other : (front back : List ℕ) (x y : ℕ) → x ≢ y → Contains (front ++ x ∷ back) y → Contains (front ++ back) y
    other front back x y differ at = elim (Contains-append_cases front (x ∷ back) y at) [
      | inl early ↦ Contains-append_left front back y early
      | inr late ↦ Contains-append_right front back y (behind late)
    ]
      where
        behind : Contains (x ∷ back) y → Contains back y
        behind (zero, inside, same) = absurd (differ same)
        behind (suc k, inside, same) = (k, omega (arith, inside), same)

module _ (ends : List ℕ) (rising : AllPairs (λ (m n : ℕ). m < n) ends) where
  ended_by : (k n : ℕ) → k ≤ length ends → 1 ≤ n → n ≤ events_before ends k → segment_of ends n < k
  ended_by zero n within low high = absurd (omega (arith, low, high))
  ended_by (suc k) n within low high =
      let few = segment_of_at_most ends n k (λ i above inside. let later = ends_rise ends rising k i above inside in omega (arith, later, high)) in
      omega (arith, few)

  not_ended : (k n : ℕ) → k ≤ length ends → events_before ends k < n → k ≤ segment_of ends n
  not_ended zero n within low = omega arith
  not_ended (suc k) n within low = segment_of_at_least ends n (suc k) within (λ i less. let earlier = ends_rise ends rising i k (omega (arith, less)) (omega (arith, within)) in omega (arith, earlier, low))

  end_within : (k : ℕ) → k ≤ length ends → events_before ends k ≤ last_of ends
  end_within zero within = omega arith
  end_within (suc k) within = below_last ends rising k (omega (arith, within))

-- as many events were done as the first k segments have
pub count_done : (trace : Trace) (k : ℕ) (order : List ℕ) → IsSound trace → k ≤ length trace.segments → IsDoneBelow trace k order → length order ≡ events_before trace.segments k
count_done trace k order sound within below =
    let ends = trace.segments in
    let rising = sound.segments.rising in
    let count = events_before ends k in
    let most = end_within ends rising k within in
    let size = length-range_with_len 1 count in
    let here : All (Contains (file_order count)) order = λ i d inside.
    let is = below.lawful.known i d inside in
    let before = below.within i d inside in
    elim (cases_lt count (get_or order i d)) [
      | inl above ↦ let later = not_ended ends rising k (get_or order i d) within above in absurd (omega (arith, before, later))
      | inr not_above ↦ in_file count (get_or order i d) is.0 not_above
    ] in
    let there : All (Contains order) (file_order count) = λ i d inside.
    let read = get_or-range_with_len 1 count i d (omega (arith, inside, size)) in
    let low : 1 ≤ get_or (file_order count) i d = omega (arith, read) in
    let high : get_or (file_order count) i d ≤ count = omega (arith, read, inside, size) in
    below.all (get_or (file_order count) i d) (low, omega (arith, high, most, sound.segments.whole)) (ended_by ends rising k (get_or (file_order count) i d) within low high) in
    let few = few_of order (file_order count) below.lawful.distinct here in
    let many = few_of (file_order count) order (λ i j d less inside same. let lt = rises_range 1 count i j d less inside in omega (arith, lt, same)) there in
    omega (arith, few, many, size)

-- ---- what seat 0 needs for the next segment

-- the history is as long as run_segment asks
pub seen_done : (trace : Trace) (k : ℕ) (v : SeatKnowledge) → IsSound trace → k ≤ length trace.segments → IsDoneBelow trace k (order_of v.seen) → length v.seen ≡ events_before trace.segments k
seen_done trace k v sound within below = sym (length-map v.seen (λ (e : Entry). e.1)) ∙ count_done trace k (order_of v.seen) sound within below

-- each segment has an event
rises_by_one : (ends : List ℕ) → Rises ends → All (λ n. 1 ≤ n) ends → (k : ℕ) → k < length ends → k + 1 ≤ get_or ends k 0
rises_by_one ends rising some zero within = let one = some 0 0 within in omega (arith, one)
rises_by_one ends rising some (suc k) within =
    let before = rises_by_one ends rising some k (omega (arith, within)) in
    let lt = rising k (suc k) 0 (omega arith) within in
    omega (arith, before, lt)

pub few_segments : (trace : Trace) → IsSound trace → length trace.segments ≤ length trace.events
few_segments trace sound = by (length trace.segments) refl
  where
    by : (count : ℕ) → length trace.segments ≡ count → count ≤ length trace.events
    by zero is = omega arith
    by (suc k) is =
        let within : k < length trace.segments = omega (arith, is) in
        let least = rises_by_one trace.segments sound.segments.rising sound.segments.some k within in
        let last = below_last trace.segments sound.segments.rising k within in
        omega (arith, least, last, sound.segments.whole)

-- there are numbers left for the seats of the next segment, where each segment before it took nine at the most
pub numbers_left : (trace : Trace) (k made : ℕ) → IsSound trace → k < length trace.segments → made ≤ 9 * k → made + 10 < 2 ^ 32
numbers_left trace k made sound within few =
    let segments = few_segments trace sound in
    let most = sound.count in
    omega (arith, segments, most, within, few)

-- the seat that a board begins with may begin the first segment
pub first_chief : (turns : ℕ) → IsChief turns (first_seat turns)
first_chief turns = record {
  number = refl;
  baton = refl;
  joined = refl;
  settled = record {
    own = refl;
    kept = All-nil (λ (k : JoinedSeat). k.own ≡ entries_of k.number []);
    others = All-nil (λ (k : JoinedSeat). (k.number ≢ 0) × (k.number ≤ 0));
    once = λ i j d less within. absurd (omega (arith, within));
    entries_made = All-nil (λ (e : Entry). e.0 ≤ 0);
    within = omega arith;
    accounted = λ none_left. All-nil (λ (e : Entry). Accounts (first_seat turns) e.0);
    whole = λ none_left. omega arith;
  };
}
