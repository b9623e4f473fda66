-- How far the events of a trace are done, and which may come next.
use Rattle.std.proofs.Common.{◌≡◌, ◌≢◌, ℕ, zero, suc, ◌+◌, ◌-◌, ◌%◌, ◌<◌, ◌≤◌, Bool, true, false, cond, nat_eq, eqb, List, [], ◌∷◌, ◌++◌, length, get_or, set, slice_index, Contains, filter, Option, refl, sym, ap, subst, ◌∙◌, arith, inl, inr}
use Rattle.std.specs.Prelude.{All, AllPairs}
use Rattle.std.specs.List.{range_with_len}
use Rattle.std.proofs.lemmas.Bool.{cases_lt, cases_eq, ne_eqb}
use Rattle.std.proofs.lemmas.Bool.Decides.{nat_tests}
use Rattle.std.proofs.lemmas.List.{get_or-set_same, get_or-set_other}
use Rattle.std.proofs.lemmas.List.Elements.{All-contains, Contains-append_cases, Contains-append_left, Contains-append_right, filter_passes}
use Rattle.std.proofs.lemmas.List.FromFn.{length-range_with_len, get_or-range_with_len}
use Rattle.std.proofs.Math.Nat.{mod-lt}
use Rattle.exchange_events.specs.declared.trace.Event.{Event}
use Rattle.exchange_events.specs.declared.trace.Event.TheVariants.{Nail, Seat, Free, Message, Frame, LinkUp, LinkDown, RestartLine}
use Rattle.exchange_events.specs.declared.trace.Trace.{Trace}
use Rattle.exchange_events.specs.Orders.{Worker, Processor, Frame_worker, IsEvent, Precedes, SameWorker, file_order, segment_of, worker_of}
use Rattle.exchange_events.specs.Sound.{IsSound}
use Rattle.exchange_events.proofs.EventNumbers.{event_there}
use Rattle.call_processor.specs.Parts.{events_of_segment}
use Rattle.call_processor.proofs.PartLemmas.{below_last, in_segment}
use Rattle.run_verifier.specs.Verdicts.{MayFollow}
use Rattle.run_verifier.specs.Turns.{AreOwn, AreTurns, EndsAt, IsIn, IsLeft, IsNext, IsUntouched, place_at, place_in, place_of_worker}

-- ---- where a worker's next event is noted

small_place : (trace : Trace) (e : Event) → IsSound trace → place_of_worker (worker_of trace.processors e) < 9
small_place trace (Nail x y) sound = let some = sound.processors.0 in let few = sound.processors.1 in let rest : x.line % trace.processors < trace.processors = mod-lt x.line some in omega (arith, few, rest)
small_place trace (Seat x room) sound = let some = sound.processors.0 in let few = sound.processors.1 in let rest : x.line % trace.processors < trace.processors = mod-lt x.line some in omega (arith, few, rest)
small_place trace (Free x) sound = let some = sound.processors.0 in let few = sound.processors.1 in let rest : x.line % trace.processors < trace.processors = mod-lt x.line some in omega (arith, few, rest)
small_place trace (Message line octets) sound = let some = sound.processors.0 in let few = sound.processors.1 in let rest : line % trace.processors < trace.processors = mod-lt line some in omega (arith, few, rest)
small_place trace (LinkUp line) sound = let some = sound.processors.0 in let few = sound.processors.1 in let rest : line % trace.processors < trace.processors = mod-lt line some in omega (arith, few, rest)
small_place trace (LinkDown line) sound = let some = sound.processors.0 in let few = sound.processors.1 in let rest : line % trace.processors < trace.processors = mod-lt line some in omega (arith, few, rest)
small_place trace (RestartLine line) sound = let some = sound.processors.0 in let few = sound.processors.1 in let rest : line % trace.processors < trace.processors = mod-lt line some in omega (arith, few, rest)
small_place trace (Frame input) sound = omega arith

pub place_small : (trace : Trace) (n : ℕ) → IsSound trace → IsEvent trace n → place_at trace n < 9
place_small trace n sound is =
    let e = event_there trace n is in
    subst (λ (o : Option Event). place_in trace.processors o < 9) (sym e.1) (small_place trace e.0 sound)

-- events have one place exactly where one worker does them
same_place : (trace : Trace) (m n : ℕ) → SameWorker trace m n → place_at trace m ≡ place_at trace n
same_place trace m n same =
    ap (place_in trace.processors) same.is_first ∙ ap place_of_worker same.same ∙ sym (ap (place_in trace.processors) same.is_second)

abbrev worker_back : ℕ → Worker
worker_back p = cond (eqb p 8) Frame_worker (Processor p)

not_eight : (trace : Trace) (line : ℕ) → IsSound trace → worker_back (line % trace.processors) ≡ Processor (line % trace.processors)
not_eight trace line sound =
    let some = sound.processors.0 in
    let few = sound.processors.1 in
    let rest : line % trace.processors < trace.processors = mod-lt line some in
    rw (ne_eqb (line % trace.processors) 8 (λ same. absurd (omega (arith, few, rest, same)))) refl

back : (trace : Trace) (e : Event) → IsSound trace → worker_back (place_of_worker (worker_of trace.processors e)) ≡ worker_of trace.processors e
back trace (Nail x y) sound = not_eight trace x.line sound
back trace (Seat x room) sound = not_eight trace x.line sound
back trace (Free x) sound = not_eight trace x.line sound
back trace (Message line octets) sound = not_eight trace line sound
back trace (LinkUp line) sound = not_eight trace line sound
back trace (LinkDown line) sound = not_eight trace line sound
back trace (RestartLine line) sound = not_eight trace line sound
back trace (Frame input) sound = refl

one_worker : (trace : Trace) (m n : ℕ) → IsSound trace → IsEvent trace m → IsEvent trace n → place_at trace m ≡ place_at trace n → SameWorker trace m n
one_worker trace m n sound is also same =
    let e = event_there trace m is in
    let f = event_there trace n also in
    let places : place_of_worker (worker_of trace.processors e.0) ≡ place_of_worker (worker_of trace.processors f.0) =
    sym (ap (place_in trace.processors) e.1) ∙ same ∙ ap (place_in trace.processors) f.1 in
    record {
      first = e.0;
      second = f.0;
      is_first = e.1;
      is_second = f.1;
      same = sym (back trace e.0 sound) ∙ ap worker_back places ∙ back trace f.0 sound;
    }

-- ---- the numbers of a segment

module _ (trace : Trace) (k first end : ℕ) (all : events_of_segment trace k ≡ range_with_len first (end - first)) (known : (n : ℕ) → first ≤ n → n < end → IsEvent trace n) where
  abbrev here : ℕ → Bool
  here n = nat_eq (segment_of trace.segments n) k

  pub from_range : (n : ℕ) → first ≤ n → n < end → IsIn trace k n
  from_range n low high =
      let at : Contains (range_with_len first (end - first)) n =
      (n - first, omega (arith, length-range_with_len first (end - first), low, high), get_or-range_with_len first (end - first) (n - first) n (omega (arith, low, high)) ∙ omega (arith, low)) in
      let passes : here n ≡ true =
      All-contains (λ m. here m ≡ true) (events_of_segment trace k) n (filter_passes here (file_order (length trace.events))) (subst (λ (l : List ℕ). Contains l n) (sym all) at) in
      (known n low high, grind (arith, nat_tests, passes))

  pub to_range : (n : ℕ) → IsIn trace k n → (first ≤ n) × (n < end)
  to_range n is =
      let there : Contains (file_order (length trace.events)) n =
      let low = is.0.0 in let high = is.0.1 in
      (n - 1, omega (arith, length-range_with_len 1 (length trace.events), low, high), get_or-range_with_len 1 (length trace.events) (n - 1) n (omega (arith, low, high)) ∙ omega (arith, low)) in
      let passes : here n ≡ true = let e = is.1 in grind (arith, nat_tests, e) in
      let at = subst (λ (l : List ℕ). Contains l n) all (passes_on here (file_order (length trace.events)) n passes there) in
      let size = length-range_with_len first (end - first) in
      let within = at.1 in
      let read = get_or-range_with_len first (end - first) at.0 n (omega (arith, within, size)) in
      let is_n = at.2 in
      (omega (arith, read, is_n), omega (arith, read, is_n, within, size))
    where
      passes_on : (p : ℕ → Bool) (xs : List ℕ) (n : ℕ) → p n ≡ true → Contains xs n → Contains (filter p xs) n
      passes_on p [] n passes at = absurd (let within = at.1 in omega (arith, within))
      passes_on p (x ∷ xs) n passes (zero, within, is) =
          let test : p x ≡ true = ap p is ∙ passes in
          subst (λ (l : List ℕ). Contains l n) (sym (ap (λ (b : Bool). cond b (x ∷ filter p xs) (filter p xs)) test)) (zero, omega arith, is)
      passes_on p (x ∷ xs) n passes (suc k, within, is) = later (p x) (passes_on p xs n passes (k, omega (arith, within), is))
        where
          later : (b : Bool) → Contains (filter p xs) n → Contains (cond b (x ∷ filter p xs) (filter p xs)) n
          later true at = let inside = at.1 in (suc at.0, omega (arith, inside), at.2)
          later false at = at

  pub ends_at : EndsAt trace k end
  ends_at = record {
    below = λ m is. (to_range m is).1;
    between = λ m n is more less. let low = (to_range m is).0 in from_range n (omega (arith, low, more)) less;
  }

  module _ (next : List ℕ) (low : (w : ℕ) → w < 9 → first ≤ slice_index next w) where
    pub begins_own : ((w : ℕ) → w < 9 → slice_index next w < end → place_at trace (slice_index next w) ≡ w) → AreOwn trace k end next
    begins_own own w small less = (from_range (slice_index next w) (low w small) less, own w small less)

    pub begins_untouched : IsSound trace → ((w n : ℕ) → w < 9 → first ≤ n → n < slice_index next w → place_at trace n ≢ w) → IsUntouched trace k next
    begins_untouched sound passed m is = elim (cases_lt m (slice_index next (place_at trace m))) [
      | inl less ↦ absurd (passed (place_at trace m) m (place_small trace m sound is.0) (to_range m is).0 less refl)
      | inr not_less ↦ not_less
    ]

-- behind the last segment there is no event
none_in : (trace : Trace) (k m : ℕ) → IsSound trace → k ≡ length trace.segments → IsIn trace k m → ⊥
none_in trace k m sound behind is = let before = in_segment trace m sound.segments is.0 in let at = is.1 in omega (arith, before, at, behind)

pub none_ends : (trace : Trace) (k end : ℕ) → IsSound trace → k ≡ length trace.segments → EndsAt trace k end
none_ends trace k end sound behind = record {
  below = λ m is. absurd (none_in trace k m sound behind is);
  between = λ m n is more less. absurd (none_in trace k m sound behind is);
}

pub none_untouched : (trace : Trace) (k : ℕ) (next : List ℕ) → IsSound trace → k ≡ length trace.segments → IsUntouched trace k next
none_untouched trace k next sound behind m is = absurd (none_in trace k m sound behind is)

-- each segment has an event, so that there are no more of them
rises_by_one : (ends : List ℕ) → AllPairs (λ (m n : ℕ). m < n) ends → All (λ n. 1 ≤ n) ends → (k : ℕ) → k < length ends → k + 1 ≤ get_or ends k 0
rises_by_one ends rising some zero within = let one = some 0 0 within in omega (arith, one)
rises_by_one ends rising some (suc k) within =
    let before = rises_by_one ends rising some k (omega (arith, within)) in
    let lt = rising k (suc k) 0 (omega arith) within in
    omega (arith, before, lt)

few : (trace : Trace) (count : ℕ) → IsSound trace → length trace.segments ≡ count → count ≤ length trace.events
few trace zero sound is = omega arith
few trace (suc k) sound is =
    let within : k < length trace.segments = omega (arith, is) in
    let least = rises_by_one trace.segments sound.segments.rising sound.segments.some k within in
    let last = below_last trace.segments sound.segments.rising k within in
    omega (arith, least, last, sound.segments.whole)

pub few_segments : (trace : Trace) → IsSound trace → length trace.segments ≤ 65535
few_segments trace sound = let less = few trace (length trace.segments) sound refl in let most = sound.count in omega (arith, less, most)

-- ---- from segment to segment

pub first_turns : (trace : Trace) (end : ℕ) (next : List ℕ) → EndsAt trace 0 end → AreOwn trace 0 end next → IsUntouched trace 0 next → AreTurns trace 0 end next []
first_turns trace end next ends own untouched = record {
  ends = ends;
  own = own;
  earlier = λ m is less. absurd (omega (arith, less));
  later = λ m at. absurd (let within = at.1 in omega (arith, within));
  done = λ m is less. absurd (let not_less = untouched m is in omega (arith, less, not_less));
  undone = λ m is at. absurd (let within = at.1 in omega (arith, within));
}

-- a worker's next event is of the segment
pub next_in : (trace : Trace) (k end : ℕ) (next : List ℕ) (n : ℕ) → IsSound trace → AreOwn trace k end next → IsNext trace end next n → IsIn trace k n
next_in trace k end next n sound own is =
    let noted = is.noted in
    let below = is.below in
    subst (IsIn trace k) noted (own (place_at trace n) (place_small trace n sound is.known) (omega (arith, noted, below))).0

module _ (trace : Trace) (k end : ℕ) (next order : List ℕ) (sound : IsSound trace) (turns : AreTurns trace k end next order) where
  pub next_turns : (j later_end : ℕ) (later_next : List ℕ) → j ≡ k + 1 → ((w : ℕ) → w < 9 → end ≤ slice_index next w)
      → EndsAt trace j later_end → AreOwn trace j later_end later_next → IsUntouched trace j later_next → AreTurns trace j later_end later_next order
  next_turns j later_end later_next is_next over ends own untouched = record {
    ends = ends;
    own = own;
    earlier = λ m is less. elim (cases_lt (segment_of trace.segments m) k) [
      | inl before ↦ turns.earlier m is before
      | inr not_before ↦
          let here : IsIn trace k m = (is, omega (arith, less, not_before, is_next)) in
          let below = turns.ends.below m here in
          let all = over (place_at trace m) (place_small trace m sound is) in
          turns.done m here (omega (arith, below, all))
    ];
    later = λ m at. let before = turns.later m at in omega (arith, before, is_next);
    done = λ m is less. absurd (let not_less = untouched m is in omega (arith, less, not_less));
    undone = λ m is at. absurd (let before = turns.later m at in let here = is.1 in omega (arith, before, here, is_next));
  }

  -- ---- what may come next

  pub may_next : (n : ℕ) → IsNext trace end next n → MayFollow trace order n
  may_next n is = record {
    known = is.known;
    new = λ at. let more = turns.undone n here at in let noted = is.noted in omega (arith, more, noted);
    waits = λ m event precedes. before m event precedes;
  }
    where
      own : IsIn trace k (slice_index next (place_at trace n)) × (place_at trace (slice_index next (place_at trace n)) ≡ place_at trace n)
      own = turns.own (place_at trace n) (place_small trace n sound is.known) (let noted = is.noted in let below = is.below in omega (arith, noted, below))

      here : IsIn trace k n
      here = subst (IsIn trace k) is.noted own.0

      before : (m : ℕ) → IsEvent trace m → Precedes trace m n → Contains order m
      before m event (inl earlier) = turns.earlier m event (let at = here.1 in omega (arith, earlier, at))
      before m event (inr same) =
          let place : place_at trace m ≡ place_at trace n = same_place trace m n same.2 in
          let noted : slice_index next (place_at trace m) ≡ n = ap (slice_index next) place ∙ is.noted in
          let less = same.1 in
          turns.done m (event, same.0 ∙ here.1) (omega (arith, noted, less))

  pub is_next : (n : ℕ) → IsLeft trace k end next → MayFollow trace order n → IsNext trace end next n
  is_next n left may = record { known = may.known; below = turns.ends.below n here; noted = noted }
    where
      -- a worker's next event is not done
      not_done : (w : ℕ) → w < 9 → slice_index next w < end → Contains order (slice_index next w) → ⊥
      not_done w small less at =
          let own = turns.own w small less in
          let more = turns.undone (slice_index next w) own.0 at in
          let same : slice_index next (place_at trace (slice_index next w)) ≡ slice_index next w = ap (slice_index next) own.1 in
          omega (arith, more, same)

      not_later : k < segment_of trace.segments n → ⊥
      not_later more = elim left [
        | inl behind ↦ let within = in_segment trace n sound.segments may.known in omega (arith, more, behind, within)
        | inr pending ↦
            let q = slice_index next pending.0 in
            let own = turns.own pending.0 pending.1 pending.2 in
            let at = own.0.1 in
            not_done pending.0 pending.1 pending.2 (may.waits q own.0.0 (inl (omega (arith, at, more))))
      ]

      here : IsIn trace k n
      here = (
        may.known,
        elim (cases_lt (segment_of trace.segments n) k) [
          | inl before ↦ absurd (may.new (turns.earlier n may.known before))
          | inr not_before ↦ elim (cases_lt k (segment_of trace.segments n)) [
            | inl more ↦ absurd (not_later more)
            | inr not_more ↦ omega (arith, not_before, not_more)
          ]
        ],
      )

      noted : slice_index next (place_at trace n) ≡ n
      noted = elim (cases_lt (slice_index next (place_at trace n)) n) [
        | inl less ↦
            let w = place_at trace n in
            let small = place_small trace n sound may.known in
            let below = turns.ends.below n here in
            let inside : slice_index next w < end = omega (arith, less, below) in
            let own = turns.own w small inside in
            absurd (not_done w small inside (may.waits (slice_index next w) own.0.0
            (inr (own.0.1 ∙ sym here.1, less, one_worker trace (slice_index next w) n sound own.0.0 may.known own.1))))
        | inr not_less ↦ elim (cases_lt n (slice_index next (place_at trace n))) [
          | inl more ↦ absurd (may.new (turns.done n here more))
          | inr not_more ↦ omega (arith, not_less, not_more)
        ]
      ]

  -- ---- an event that came

  module _ (n w r : ℕ) (size : length next ≡ 9) (is : IsNext trace end next n) (at_w : w ≡ place_at trace n) (low : n + 1 ≤ r)
      (passed : (m : ℕ) → n + 1 ≤ m → m < r → place_at trace m ≢ w) (own_next : r < end → place_at trace r ≡ w) where
    abbrev after : List ℕ
    after = set next w r

    small : w < 9
    small = subst (λ (v : ℕ). v < 9) (sym at_w) (place_small trace n sound is.known)

    noted_w : slice_index next w ≡ n
    noted_w = ap (slice_index next) at_w ∙ is.noted

    it : IsIn trace k n
    it = next_in trace k end next n sound turns.own is

    at_own : slice_index after w ≡ r
    at_own = get_or-set_same next w r 0 (omega (arith, size, small))

    at_other : (v : ℕ) → v ≢ w → slice_index after v ≡ slice_index next v
    at_other v differ = get_or-set_other next w v r 0 differ

    pub passed_turns : AreTurns trace k end after (order ++ n ∷ [])
    passed_turns = record {
      ends = turns.ends;
      own = λ v below less. elim (cases_eq v w) [
        | inl same ↦
            let noted : slice_index after v ≡ r = ap (slice_index after) same ∙ at_own in
            let less_r : r < end = omega (arith, less, noted) in
            let there : IsIn trace k r = turns.ends.between n r it (omega (arith, low)) less_r in
            (subst (IsIn trace k) (sym noted) there, ap (place_at trace) noted ∙ own_next less_r ∙ sym same)
        | inr differ ↦
            let noted = at_other v differ in
            let own = turns.own v below (omega (arith, less, noted)) in
            (subst (IsIn trace k) (sym noted) own.0, ap (place_at trace) noted ∙ own.1)
      ];
      earlier = λ m event less. Contains-append_left order (n ∷ []) m (turns.earlier m event less);
      later = λ m at. elim (Contains-append_cases order (n ∷ []) m at) [
        | inl early ↦ turns.later m early
        | inr last ↦ let same = only m last in let there = it.1 in omega (arith, ap (segment_of trace.segments) same, there)
      ];
      done = λ m event less. elim (cases_eq (place_at trace m) w) [
        | inl same ↦
            let noted : slice_index after (place_at trace m) ≡ r = ap (slice_index after) same ∙ at_own in
            elim (cases_lt m n) [
              | inl before ↦
                  let old : slice_index next (place_at trace m) ≡ n = ap (slice_index next) same ∙ noted_w in
                  Contains-append_left order (n ∷ []) m (turns.done m event (omega (arith, before, old)))
              | inr not_before ↦ elim (cases_eq m n) [
                | inl there ↦ Contains-append_right order (n ∷ []) m (0, omega arith, sym there)
                | inr other ↦ absurd (passed m (omega (arith, not_before, other)) (omega (arith, less, noted)) same)
              ]
            ]
        | inr differ ↦ Contains-append_left order (n ∷ []) m (turns.done m event (let noted = at_other (place_at trace m) differ in omega (arith, less, noted)))
      ];
      undone = λ m event at. elim (Contains-append_cases order (n ∷ []) m at) [
        | inl early ↦ elim (cases_eq (place_at trace m) w) [
          | inl same ↦
              let noted : slice_index after (place_at trace m) ≡ r = ap (slice_index after) same ∙ at_own in
              let old : slice_index next (place_at trace m) ≡ n = ap (slice_index next) same ∙ noted_w in
              let less = turns.undone m event early in
              omega (arith, less, old, noted, low)
          | inr differ ↦ let less = turns.undone m event early in let noted = at_other (place_at trace m) differ in omega (arith, less, noted)
        ]
        | inr last ↦
            let same = only m last in
            let noted : slice_index after (place_at trace m) ≡ r = ap (λ (i : ℕ). slice_index after (place_at trace i)) (sym same) ∙ ap (slice_index after) (sym at_w) ∙ at_own in
            omega (arith, same, noted, low)
      ];
    }
      where
        only : (m : ℕ) → Contains (n ∷ []) m → n ≡ m
        only m (zero, within, is) = is
        only m (suc j, within, is) = absurd (omega (arith, within))
