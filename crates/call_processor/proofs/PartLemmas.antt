-- Which numbers a segment's events have.
use Rattle.std.proofs.Common.{append-nil, length-append, ◌≡◌, ℕ, zero, suc, ◌+◌, ◌-◌, ◌<◌, ◌≤◌, ◌&&◌, Bool, true, false, nat_lt, nat_eq, List, [], ◌∷◌, ◌++◌, length, get_or, filter, refl, sym, ap, ◌∙◌, arith, inl, inr, cond}
use Rattle.std.specs.List.{range_with_len, AllPairs}
use Rattle.std.proofs.lemmas.Bool.{le-leb, cases_lt}
use Rattle.std.proofs.lemmas.Bool.Decides.{nat_tests}
use Rattle.std.proofs.lemmas.List.Elements.{filter-append}
use Rattle.std.proofs.lemmas.List.Sums.{sum_by-cons}
use Rattle.exchange_events.specs.declared.trace.Trace.{Trace}
use Rattle.exchange_events.specs.Orders.{Worker, IsEvent, segment_of}
use Rattle.exchange_events.specs.Sound.{AreSegments, last_of}
use Rattle.call_processor.specs.Parts.{events_of_segment, is_its, part_of}

-- whether a segment ends before event n, as a number
abbrev ended_before : ℕ → ℕ → ℕ
ended_before n last = cond (nat_lt last n) 1 0

end_before : (n last : ℕ) → last < n → ended_before n last ≡ 1
end_before n last h = let yes : nat_lt last n ≡ true = le-leb (suc last) n (omega (arith, h)) in ap (λ (b : Bool). cond b 1 0) yes

not_ended : (n last : ℕ) → n ≤ last → ended_before n last ≡ 0
not_ended n last h = let no_end : nat_lt last n ≡ false = grind (arith, nat_tests) in ap (λ (b : Bool). cond b 1 0) no_end

few_ended : (n last : ℕ) → ended_before n last ≤ 1
few_ended n last = one (nat_lt last n)
  where
    one : (b : Bool) → cond b 1 0 ≤ 1
    one true = omega arith
    one false = omega arith

-- behind the last segment there is no event
segment_of_in_last : (ends : List ℕ) (n : ℕ) → 1 ≤ n → n ≤ last_of ends → segment_of ends n < length ends
segment_of_in_last [] n low high = absurd (omega (arith, low, high))
segment_of_in_last (last ∷ []) n low high = let off : nat_lt last n ≡ false = grind (arith, nat_tests, high) in rw off (omega arith)
segment_of_in_last (first ∷ second ∷ ends) n low high =
    let rest = segment_of_in_last (second ∷ ends) n low high in
    let one = few_ended n first in
    omega (arith, sum_by-cons (λ last. cond (nat_lt last n) 1 0) first (second ∷ ends), rest, one)

pub in_segment : (trace : Trace) (n : ℕ) → AreSegments (length trace.events) trace.segments → IsEvent trace n → segment_of trace.segments n < length trace.segments
in_segment trace n segments is = segment_of_in_last trace.segments n is.0 (let high = is.1 in omega (arith, high, segments.whole))

-- at least k segments end before n where the first k do
pub segment_of_at_least : (ends : List ℕ) (n k : ℕ) → k ≤ length ends → ((i : ℕ) → i < k → get_or ends i 0 < n) → k ≤ segment_of ends n
segment_of_at_least ends n zero within h = omega arith
segment_of_at_least [] n (suc k) within h = absurd (omega arith)
segment_of_at_least (last ∷ ends) n (suc k) within h =
    let one = end_before n last (h 0 (omega arith)) in
    let rest = segment_of_at_least ends n k (omega arith) (λ i lt. h (suc i) (omega arith)) in
    omega (arith, sum_by-cons (ended_before n) last ends, one, rest)

-- at most k segments end before n where none does from the one with number k on
pub segment_of_at_most : (ends : List ℕ) (n k : ℕ) → ((i : ℕ) → k ≤ i → i < length ends → n ≤ get_or ends i 0) → segment_of ends n ≤ k
segment_of_at_most [] n k h = omega arith
segment_of_at_most (last ∷ ends) n zero h =
    let one = not_ended n last (h 0 (omega arith) (omega arith)) in
    let rest = segment_of_at_most ends n zero (λ i le lt. h (suc i) (omega arith) (omega arith)) in
    omega (arith, sum_by-cons (ended_before n) last ends, one, rest)
segment_of_at_most (last ∷ ends) n (suc k) h =
    let one = few_ended n last in
    let rest = segment_of_at_most ends n k (λ i le lt. h (suc i) (omega arith) (omega arith)) in
    omega (arith, sum_by-cons (ended_before n) last ends, one, rest)

abbrev pub Rising : List ℕ → Type 0
Rising ends = AllPairs (λ (m n : ℕ). m < n) ends

pub ends_rise : (ends : List ℕ) → Rising ends → (i j : ℕ) → i ≤ j → j < length ends → get_or ends i 0 ≤ get_or ends j 0
ends_rise ends r i j le within =
    elim (cases_lt i j) [
      | inl below ↦ let h = r i j 0 below within in omega (arith, h)
      | inr above ↦ let same : i ≡ j = omega (arith, le, above) in omega (arith, ap (λ (k : ℕ). get_or ends k 0) same)
    ]

-- the last end of all is where the last segment ends
pub below_last : (ends : List ℕ) → Rising ends → (k : ℕ) → k < length ends → get_or ends k 0 ≤ last_of ends
below_last [] r k within = absurd (omega arith)
below_last (n ∷ []) r zero within = omega arith
below_last (n ∷ []) r (suc k) within = absurd (omega arith)
below_last (n ∷ m ∷ ns) r zero within =
    let first : n < m = r 0 1 0 (omega arith) (omega arith) in
    let rest = below_last (m ∷ ns) (λ i j d lt inside. r (suc i) (suc j) d (omega arith) (omega arith)) 0 (omega arith) in
    omega (arith, first, rest)
below_last (n ∷ m ∷ ns) r (suc k) within = below_last (m ∷ ns) (λ i j d lt inside. r (suc i) (suc j) d (omega arith) (omega arith)) k (omega arith)

-- the end of the segment before the k-th, 0 where there is none
abbrev before_end : List ℕ → ℕ → ℕ
before_end ends k = get_or (0 ∷ ends) k 0

segment_of_inside_one : (ends : List ℕ) → Rising ends → (k n : ℕ) → k < length ends → before_end ends k < n → n ≤ get_or ends k 0 → segment_of ends n ≡ k
segment_of_inside_one ends r k n within low high =
    let up = segment_of_at_most ends n k (λ i le lt. let h = ends_rise ends r k i le lt in omega (arith, h, high)) in
    let down = segment_of_at_least ends n k (omega arith) (first k within low) in
    omega (arith, up, down)
  where
    first : (k : ℕ) → k < length ends → before_end ends k < n → (i : ℕ) → i < k → get_or ends i 0 < n
    first zero within low i lt = absurd (omega arith)
    first (suc k) within low i lt = let h = ends_rise ends r i k (omega arith) (omega arith) in omega (arith, h, low)

segment_of_before_one : (ends : List ℕ) → Rising ends → (k n : ℕ) → k < length ends → 1 ≤ n → n ≤ before_end ends k → segment_of ends n < k
segment_of_before_one ends r zero n within some low = absurd (omega arith)
segment_of_before_one ends r (suc k) n within some low =
    let up = segment_of_at_most ends n k (λ i le lt. let h = ends_rise ends r k i le lt in omega (arith, h, low)) in
    omega (arith, up)

after_one : (ends : List ℕ) → Rising ends → (k n : ℕ) → k < length ends → get_or ends k 0 < n → k < segment_of ends n
after_one ends r k n within high =
    let down = segment_of_at_least ends n (suc k) (omega arith) (λ i lt. let h = ends_rise ends r i k (omega arith) within in omega (arith, h, high)) in
    omega (arith, down)

range_parts : (a m n : ℕ) → range_with_len a (m + n) ≡ range_with_len a m ++ range_with_len (a + m) n
range_parts a zero n = let none : 0 + n ≡ n = omega arith in let e : a ≡ a + 0 = omega arith in ap (range_with_len a) none ∙ ap (λ (b : ℕ). range_with_len b n) e
range_parts a (suc m) n =
    let long : suc m + n ≡ suc (m + n) = omega arith in
    let e : (a + 1) + m ≡ a + suc m = omega arith in
    ap (range_with_len a) long
    ∙ ap (λ (l : List ℕ). a ∷ l) (range_parts (a + 1) m n ∙ ap (λ (b : ℕ). range_with_len (a + 1) m ++ range_with_len b n) e)

module _ (p : ℕ → Bool) where
  none_pass : (a n : ℕ) → ((j : ℕ) → a ≤ j → j < a + n → p j ≡ false) → filter p (range_with_len a n) ≡ []
  none_pass a zero h = refl
  none_pass a (suc n) h =
      ap (λ (b : Bool). cond b (a ∷ filter p (range_with_len (a + 1) n)) (filter p (range_with_len (a + 1) n))) (h a (omega arith) (omega arith))
      ∙ none_pass (a + 1) n (λ j low high. h j (omega arith) (omega arith))

  alike : (q : ℕ → Bool) (a n : ℕ) → ((j : ℕ) → a ≤ j → j < a + n → p j ≡ q j) → filter p (range_with_len a n) ≡ filter q (range_with_len a n)
  alike q a zero h = refl
  alike q a (suc n) h =
      ap (λ (b : Bool). cond b (a ∷ filter p (range_with_len (a + 1) n)) (filter p (range_with_len (a + 1) n))) (h a (omega arith) (omega arith))
      ∙ ap (λ (l : List ℕ). cond (q a) (a ∷ l) l) (alike q (a + 1) n (λ j low high. h j (omega arith) (omega arith)))

-- A test over the numbers of the file that passes none outside of a segment passes of those within, from behind the end before to the segment's own
-- end, what another test passes there.
module _ (trace : Trace) (k : ℕ) (p q : ℕ → Bool) (sound : AreSegments (length trace.events) trace.segments) (within : k < length trace.segments)
    (other : (n : ℕ) → (segment_of trace.segments n ≡ k → ⊥) → p n ≡ false) (same : (n : ℕ) → segment_of trace.segments n ≡ k → p n ≡ q n) where
  passed_within : filter p (range_with_len 1 (length trace.events)) ≡ filter q (range_with_len (before_end trace.segments k + 1) (get_or trace.segments k 0 - before_end trace.segments k))
  passed_within =
      let ends = trace.segments in
      let r = sound.rising in
      let first = before_end ends k in
      let last = get_or ends k 0 in
      let count = length trace.events in
      let order = before_below ends r k within in
      let most : last ≤ count = let h = below_last ends r k within in omega (arith, h, sound.whole) in
      let len : count ≡ first + ((last - first) + (count - last)) = omega (arith, order, most) in
      let one : range_with_len 1 count ≡ range_with_len 1 first ++ range_with_len (1 + first) ((last - first) + (count - last)) =
      ap (range_with_len 1) len ∙ range_parts 1 first ((last - first) + (count - last)) in
      let two : range_with_len (1 + first) ((last - first) + (count - last)) ≡ range_with_len (1 + first) (last - first) ++ range_with_len ((1 + first) + (last - first)) (count - last) =
      range_parts (1 + first) (last - first) (count - last) in
      let front : filter p (range_with_len 1 first) ≡ [] =
      none_pass p 1 first (λ n low high. other n (let h = segment_of_before_one ends r k n within low (omega (arith, high)) in λ e. absurd (omega (arith, h, e)))) in
      let back : filter p (range_with_len ((1 + first) + (last - first)) (count - last)) ≡ [] =
      none_pass p ((1 + first) + (last - first)) (count - last) (λ n low high. other n (let h = after_one ends r k n within (omega (arith, low, order)) in λ e. absurd (omega (arith, h, e)))) in
      let middle : filter p (range_with_len (1 + first) (last - first)) ≡ filter q (range_with_len (1 + first) (last - first)) =
      alike p q (1 + first) (last - first) (λ n low high. same n (segment_of_inside_one ends r k n within (omega (arith, low)) (omega (arith, high, order)))) in
      let swap : 1 + first ≡ first + 1 = omega arith in
      ap (filter p) one
      ∙ (filter-append p (range_with_len 1 first) (range_with_len (1 + first) ((last - first) + (count - last)))
      ∙ (ap (λ (l : List ℕ). l ++ filter p (range_with_len (1 + first) ((last - first) + (count - last)))) front
      ∙ (ap (filter p) two
      ∙ (filter-append p (range_with_len (1 + first) (last - first)) (range_with_len ((1 + first) + (last - first)) (count - last))
      ∙ (ap (λ (l : List ℕ). filter p (range_with_len (1 + first) (last - first)) ++ l) back
      ∙ (append-nil (filter p (range_with_len (1 + first) (last - first)))
      ∙ (middle ∙ ap (λ (b : ℕ). filter q (range_with_len b (last - first))) swap)))))))
    where
      before_below : (ends : List ℕ) → Rising ends → (k : ℕ) → k < length ends → before_end ends k ≤ get_or ends k 0
      before_below ends r zero within = omega arith
      before_below ends r (suc k) within = ends_rise ends r k (suc k) (omega arith) within

-- a part is what the worker does of the numbers from behind the end before to the end of the segment
pub part_is : (trace : Trace) (k : ℕ) (worker : Worker) → AreSegments (length trace.events) trace.segments → k < length trace.segments
    → part_of trace k worker ≡ filter (is_its trace worker) (range_with_len (before_end trace.segments k + 1) (get_or trace.segments k 0 - before_end trace.segments k))
part_is trace k worker sound within = passed_within trace k (λ n. nat_eq (segment_of trace.segments n) k && is_its trace worker n) (is_its trace worker) sound within other same
  where
    other : (n : ℕ) → (segment_of trace.segments n ≡ k → ⊥) → (nat_eq (segment_of trace.segments n) k && is_its trace worker n) ≡ false
    other n never = let off : nat_eq (segment_of trace.segments n) k ≡ false = grind (arith, nat_tests, never) in ap (λ (t : Bool). t && is_its trace worker n) off

    same : (n : ℕ) → segment_of trace.segments n ≡ k → (nat_eq (segment_of trace.segments n) k && is_its trace worker n) ≡ is_its trace worker n
    same n e = let yes_one : nat_eq (segment_of trace.segments n) k ≡ true = grind (arith, nat_tests, e) in ap (λ (t : Bool). t && is_its trace worker n) yes_one

-- the events of a segment are these numbers
pub segment_is : (trace : Trace) (k : ℕ) → AreSegments (length trace.events) trace.segments → k < length trace.segments
    → events_of_segment trace k ≡ range_with_len (before_end trace.segments k + 1) (get_or trace.segments k 0 - before_end trace.segments k)
segment_is trace k sound within =
    passed_within trace k (λ n. nat_eq (segment_of trace.segments n) k) (λ n. true) sound within
    (λ n never. grind (arith, nat_tests, never)) (λ n e. grind (arith, nat_tests, e))
    ∙ all_pass (before_end trace.segments k + 1) (get_or trace.segments k 0 - before_end trace.segments k)
  where
    all_pass : (a n : ℕ) → filter (λ (m : ℕ). true) (range_with_len a n) ≡ range_with_len a n
    all_pass a zero = refl
    all_pass a (suc n) = ap (λ (l : List ℕ). a ∷ l) (all_pass (a + 1) n)

pub segment_at : (trace : Trace) (k : ℕ) → AreSegments (length trace.events) trace.segments → k < length trace.segments
    → (first end : ℕ) → first ≡ before_end trace.segments k + 1 → end ≡ get_or trace.segments k 0 + 1 → events_of_segment trace k ≡ range_with_len first (end - first)
segment_at trace k sound within first end low high =
    let size : get_or trace.segments k 0 - before_end trace.segments k ≡ end - first = omega (arith, low, high) in
    segment_is trace k sound within
    ∙ (ap (range_with_len (before_end trace.segments k + 1)) size
    ∙ ap (λ (n : ℕ). range_with_len n (end - first)) (sym low))

pub part_at : (trace : Trace) (k : ℕ) (worker : Worker) → AreSegments (length trace.events) trace.segments → k < length trace.segments
    → (first end : ℕ) → first ≡ before_end trace.segments k + 1 → end ≡ get_or trace.segments k 0 + 1 → part_of trace k worker ≡ filter (is_its trace worker) (range_with_len first (end - first))
part_at trace k worker sound within first end low high =
    let size : get_or trace.segments k 0 - before_end trace.segments k ≡ end - first = omega (arith, low, high) in
    part_is trace k worker sound within
    ∙ (ap (λ (n : ℕ). filter (is_its trace worker) (range_with_len (before_end trace.segments k + 1) n)) size
    ∙ ap (λ (n : ℕ). filter (is_its trace worker) (range_with_len n (end - first))) (sym low))

pub before_end_first : (ends : List ℕ) (k : ℕ) → k ≡ 0 → before_end ends k ≡ 0
before_end_first ends zero e = refl
before_end_first ends (suc k) e = absurd (omega (arith, e))

pub before_end_later : (ends : List ℕ) (k : ℕ) → 0 < k → before_end ends k ≡ get_or ends (k - 1) 0
before_end_later ends zero e = absurd (omega (arith, e))
before_end_later ends (suc k) e = let same : k ≡ suc k - 1 = omega arith in ap (λ (m : ℕ). get_or ends m 0) same

pub order_of_ends : (events : ℕ) (ends : List ℕ) (k : ℕ) → AreSegments events ends → k < length ends → (get_or ends k 0 ≤ events) × (get_or ends (k - 1) 0 ≤ get_or ends k 0)
order_of_ends events ends k sound within =
    let high = below_last ends sound.rising k within in
    let low = ends_rise ends sound.rising (k - 1) k (omega arith) within in
    (omega (arith, high, sound.whole), low)

-- ---- a worker's part, event by event

abbrev pub up_to : Trace → Worker → ℕ → ℕ → List ℕ
up_to trace worker first event = filter (is_its trace worker) (range_with_len first (event - first))

-- none comes before the first
pub up_to_none : (trace : Trace) (worker : Worker) (first : ℕ) → [] ≡ up_to trace worker first first
up_to_none trace worker first = let zero_it : 0 ≡ first - first = omega arith in ap (λ (n : ℕ). filter (is_its trace worker) (range_with_len first n)) zero_it

-- the numbers up to one, and those from it on
pub range_front : (first event end : ℕ) → first ≤ event → event ≤ end → range_with_len first (end - first) ≡ range_with_len first (event - first) ++ range_with_len event (end - event)
range_front first event end low high =
    let size : end - first ≡ (event - first) + (end - event) = omega (arith, low, high) in
    let back : first + (event - first) ≡ event = omega (arith, low) in
    ap (range_with_len first) size
    ∙ (range_parts first (event - first) (end - event)
    ∙ ap (λ (n : ℕ). range_with_len first (event - first) ++ range_with_len n (end - event)) back)

-- and one number more
pub range_next : (first event : ℕ) → first ≤ event → range_with_len first ((event + 1) - first) ≡ range_with_len first (event - first) ++ event ∷ []
range_next first event low =
    let one : (event + 1) - event ≡ suc zero = omega arith in
    range_front first event (event + 1) low (omega arith) ∙ ap (λ (n : ℕ). range_with_len first (event - first) ++ range_with_len event n) one

pub range_after : (events : List ℕ) (first event end : ℕ) → events ≡ range_with_len first (end - first) → first ≤ event → event < end
    → events ≡ (range_with_len first (event - first) ++ event ∷ []) ++ range_with_len (event + 1) (end - (event + 1))
range_after events first event end is low high =
    is ∙ (range_front first (event + 1) end (omega (arith, low)) (omega (arith, high))
    ∙ ap (λ (l : List ℕ). l ++ range_with_len (event + 1) (end - (event + 1))) (range_next first event low))

up_to_parts : (trace : Trace) (worker : Worker) (first event end : ℕ) → first ≤ event → event ≤ end → up_to trace worker first end ≡ up_to trace worker first event ++ filter (is_its trace worker) (range_with_len event (end - event))
up_to_parts trace worker first event end low high =
    ap (filter (is_its trace worker)) (range_front first event end low high)
    ∙ filter-append (is_its trace worker) (range_with_len first (event - first)) (range_with_len event (end - event))

up_to_one_more : (trace : Trace) (worker : Worker) (first event : ℕ) → first ≤ event → up_to trace worker first (event + 1) ≡ up_to trace worker first event ++ cond (is_its trace worker event) (event ∷ []) []
up_to_one_more trace worker first event low =
    let one : (event + 1) - event ≡ suc zero = omega arith in
    up_to_parts trace worker first event (event + 1) low (omega arith)
    ∙ ap (λ (n : ℕ). up_to trace worker first event ++ filter (is_its trace worker) (range_with_len event n)) one

pub up_to_next_not : (trace : Trace) (worker : Worker) (first event : ℕ) → first ≤ event → is_its trace worker event ≡ false → up_to trace worker first (event + 1) ≡ up_to trace worker first event
up_to_next_not trace worker first event low off =
    up_to_one_more trace worker first event low
    ∙ (ap (λ (b : Bool). up_to trace worker first event ++ cond b (event ∷ []) []) off ∙ append-nil (up_to trace worker first event))

pub up_to_next_its : (trace : Trace) (worker : Worker) (first event : ℕ) → first ≤ event → is_its trace worker event ≡ true → up_to trace worker first (event + 1) ≡ up_to trace worker first event ++ event ∷ []
up_to_next_its trace worker first event low its =
    up_to_one_more trace worker first event low ∙ ap (λ (b : Bool). up_to trace worker first event ++ cond b (event ∷ []) []) its

abbrev pub rest_from : Trace → Worker → ℕ → ℕ → List ℕ
rest_from trace worker event end = filter (is_its trace worker) (range_with_len event (end - event))

pub front_here : (trace : Trace) (worker : Worker) (part : List ℕ) (first event end : ℕ) → part ≡ up_to trace worker first end → first ≤ event → event < end
    → part ≡ up_to trace worker first event ++ rest_from trace worker event end
front_here trace worker part first event end is low high = is ∙ up_to_parts trace worker first event end low (omega (arith, high))

pub front_next : (trace : Trace) (worker : Worker) (part : List ℕ) (first event end : ℕ) → part ≡ up_to trace worker first end → first ≤ event → event < end → is_its trace worker event ≡ true
    → part ≡ (up_to trace worker first event ++ event ∷ []) ++ rest_from trace worker (event + 1) end
front_next trace worker part first event end is low high its =
    is ∙ (up_to_parts trace worker first (event + 1) end (omega (arith, low)) (omega (arith, high))
    ∙ ap (λ (l : List ℕ). l ++ rest_from trace worker (event + 1) end) (up_to_next_its trace worker first event low its))

-- a turn is left for each event of the part that was not done yet
pub turn_left : (part done rest : List ℕ) (n left turns : ℕ) → part ≡ (done ++ n ∷ []) ++ rest → length part ≤ turns → left + length done ≡ turns → 0 < left
turn_left part done rest n left turns front enough used =
    let long = ap length front ∙ length-append (done ++ n ∷ []) rest in
    let one = length-append done (n ∷ []) in
    omega (arith, long, one, enough, used)
