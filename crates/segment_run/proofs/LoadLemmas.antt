-- How many events all workers of a segment have to do.
use Rattle.std.proofs.Common.{◌≡◌, ℕ, zero, suc, ◌+◌, ◌-◌, ◌%◌, ◌<◌, ◌≤◌, inl, inr, Bool, true, false, cond, List, [], ◌∷◌, filter, length, get_or, refl, sym, ap, ◌∙◌, arith}
use Rattle.std.specs.List.{range_with_len}
use Rattle.std.proofs.lemmas.Bool.{cases_lt}
use Rattle.std.proofs.lemmas.Nat.{mod_below}
use Rattle.exchange_events.specs.declared.trace.Event.{Event}
use Rattle.exchange_events.specs.declared.trace.Event.TheVariants.{Nail, Seat, Free, Message, Frame, LinkUp, LinkDown, RestartLine}
use Rattle.exchange_events.specs.declared.trace.Trace.{Trace}
use Rattle.exchange_events.specs.Orders.{Worker, IsEvent, worker_of}
use Rattle.exchange_events.specs.Sound.{AreSegments, IsSound}
use Rattle.exchange_events.proofs.EventNumbers.{event_there}
use Rattle.exchange_core.specs.Boards.{Board, turns_of}
use Rattle.seat_history.specs.declared.seat_knowledge.SeatKnowledge.{SeatKnowledge}
use Rattle.call_processor.specs.Parts.{does, events_of_segment, is_its, is_worker}
use Rattle.call_processor.proofs.PartLemmas.{part_is, segment_is, order_of_ends}
use Rattle.segment_run.specs.Workers.{load, loads_below, worker_numbered}
use Rattle.segment_run.specs.Segment.{IsChief}
use Rattle.segment_run.specs.Segments.{events_before}
use Rattle.segment_run.proofs.ListLemmas.{In, range_in}
use Rattle.segment_run.proofs.DoerLemmas.{is_itself, numbered_frames, numbered_processor, other_worker}

-- ---- one event has one worker

abbrev one_if : Bool → ℕ
one_if b = cond b 1 0

-- how many of the first n workers do the event
abbrev count_doers : Trace → ℕ → ℕ → ℕ
count_doers trace x zero = 0
count_doers trace x (suc n) = count_doers trace x n + one_if (is_its trace (worker_numbered trace.processors n) x)

pub worker_is : (trace : Trace) → 0 < trace.processors → (event : Event) → (i : ℕ) × (i ≤ trace.processors) × (worker_numbered trace.processors i ≡ worker_of trace.processors event)
worker_is trace some_one (Nail x y) = let h = mod_below x.line trace.processors some_one in (x.line % trace.processors, omega (arith, h), numbered_processor trace.processors (x.line % trace.processors) h)
worker_is trace some_one (Seat x room) = let h = mod_below x.line trace.processors some_one in (x.line % trace.processors, omega (arith, h), numbered_processor trace.processors (x.line % trace.processors) h)
worker_is trace some_one (Free x) = let h = mod_below x.line trace.processors some_one in (x.line % trace.processors, omega (arith, h), numbered_processor trace.processors (x.line % trace.processors) h)
worker_is trace some_one (Message line octets) = let h = mod_below line trace.processors some_one in (line % trace.processors, omega (arith, h), numbered_processor trace.processors (line % trace.processors) h)
worker_is trace some_one (LinkUp line) = let h = mod_below line trace.processors some_one in (line % trace.processors, omega (arith, h), numbered_processor trace.processors (line % trace.processors) h)
worker_is trace some_one (LinkDown line) = let h = mod_below line trace.processors some_one in (line % trace.processors, omega (arith, h), numbered_processor trace.processors (line % trace.processors) h)
worker_is trace some_one (RestartLine line) = let h = mod_below line trace.processors some_one in (line % trace.processors, omega (arith, h), numbered_processor trace.processors (line % trace.processors) h)
worker_is trace some_one (Frame input) = (trace.processors, omega arith, numbered_frames trace.processors trace.processors (omega arith))

module _ (trace : Trace) (x i : ℕ) (le : i ≤ trace.processors) (its : (w : Worker) → is_its trace w x ≡ is_worker (worker_numbered trace.processors i) w) where
  doing_before : (n : ℕ) → n ≤ i → count_doers trace x n ≡ 0
  doing_before zero h = refl
  doing_before (suc n) h =
      let a = doing_before n (omega (arith, h)) in
      let b = ap one_if (its (worker_numbered trace.processors n) ∙ (other_worker trace.processors n i (omega (arith, h)) le).1) in
      omega (arith, a, b)

  doing_after : (n : ℕ) → i < n → n ≤ trace.processors + 1 → count_doers trace x n ≡ 1
  doing_after zero h m = absurd (omega (arith, h))
  doing_after (suc n) h m =
      elim (cases_lt i n) [
        | inl below ↦
            let a = doing_after n below (omega (arith, m)) in
            let b = ap one_if (its (worker_numbered trace.processors n) ∙ (other_worker trace.processors i n below (omega (arith, m))).0) in
            omega (arith, a, b)
        | inr above ↦
            let same : n ≡ i = omega (arith, h, above) in
            let a = doing_before n (omega (arith, same)) in
            let b : one_if (is_its trace (worker_numbered trace.processors n) x) ≡ 1 = ap one_if (its (worker_numbered trace.processors n)
            ∙ (ap (λ (k : ℕ). is_worker (worker_numbered trace.processors i) (worker_numbered trace.processors k)) same ∙ is_itself (worker_numbered trace.processors i))) in
            omega (arith, a, b)
      ]

doing_one : (trace : Trace) → 0 < trace.processors → (x : ℕ) → IsEvent trace x → count_doers trace x (trace.processors + 1) ≡ 1
doing_one trace some_one x event =
    let e = event_there trace x event in
    let w = worker_is trace some_one e.0 in
    doing_after trace x w.0 w.1 (λ worker. ap (does trace.processors worker) e.1 ∙ ap (λ (u : Worker). is_worker u worker) (sym w.2)) (trace.processors + 1) (let h = w.1 in omega (arith, h)) (omega arith)

-- how many of these events the first n workers do
abbrev sums : Trace → List ℕ → ℕ → ℕ
sums trace xs zero = 0
sums trace xs (suc n) = sums trace xs n + length (filter (is_its trace (worker_numbered trace.processors n)) xs)

sums_none : (trace : Trace) (n : ℕ) → sums trace [] n ≡ 0
sums_none trace zero = refl
sums_none trace (suc n) = let a = sums_none trace n in omega (arith, a)

sums_cons : (trace : Trace) (x : ℕ) (xs : List ℕ) (n : ℕ) → sums trace (x ∷ xs) n ≡ count_doers trace x n + sums trace xs n
sums_cons trace x xs zero = omega arith
sums_cons trace x xs (suc n) =
    let a = sums_cons trace x xs n in
    let b = one (is_its trace (worker_numbered trace.processors n) x) in
    omega (arith, a, b)
  where
    one : (b : Bool) → length (cond b (x ∷ filter (is_its trace (worker_numbered trace.processors n)) xs) (filter (is_its trace (worker_numbered trace.processors n)) xs))
        ≡ one_if b + length (filter (is_its trace (worker_numbered trace.processors n)) xs)
    one true = omega arith
    one false = omega arith

sums_all : (trace : Trace) → 0 < trace.processors → (xs : List ℕ) → ((x : ℕ) → In x xs → IsEvent trace x) → sums trace xs (trace.processors + 1) ≡ length xs
sums_all trace some_one [] f = sums_none trace (trace.processors + 1)
sums_all trace some_one (x ∷ xs) f =
    let a = sums_cons trace x xs (trace.processors + 1) in
    let b = doing_one trace some_one x (f x (inl refl)) in
    let c = sums_all trace some_one xs (λ y i. f y (inr i)) in
    omega (arith, a, b, c)

pub length-range_with_len : (a n : ℕ) → length (range_with_len a n) ≡ n
length-range_with_len a zero = refl
length-range_with_len a (suc n) = ap suc (length-range_with_len (a + 1) n)

pub loads_none : (trace : Trace) (segment : ℕ) → loads_below trace segment 0 ≡ 0
unfolding loads_below
loads_none trace segment = refl

pub loads_more : (trace : Trace) (segment n : ℕ) → loads_below trace segment (n + 1) ≡ loads_below trace segment n + load trace segment n
unfolding loads_below
loads_more trace segment n = let e : n + 1 ≡ suc n = omega arith in ap (loads_below trace segment) e

pub loads_grow : (trace : Trace) (segment n m : ℕ) → n ≤ m → loads_below trace segment n ≤ loads_below trace segment m
unfolding loads_below
loads_grow trace segment n zero h = let e : n ≡ zero = omega (arith, h) in omega (arith, ap (loads_below trace segment) e)
loads_grow trace segment n (suc m) h =
    elim (cases_lt n (suc m)) [
      | inl below ↦ let r = loads_grow trace segment n m (omega (arith, below)) in omega (arith, r)
      | inr above ↦ let e : n ≡ suc m = omega (arith, h, above) in omega (arith, ap (loads_below trace segment) e)
    ]

-- where a segment begins and ends
pub ends_are : (trace : Trace) (segment : ℕ) → AreSegments (length trace.events) trace.segments → segment < length trace.segments
    → (events_before trace.segments segment ≤ events_before trace.segments (segment + 1)) × (events_before trace.segments (segment + 1) ≤ length trace.events)
ends_are trace segment sound within =
    let next : segment + 1 ≡ suc segment = omega arith in
    let same = ap (events_before trace.segments) next in
    let o = order_of_ends (length trace.events) trace.segments segment sound within in
    let a = o.0 in
    (first segment within o.1 same, omega (arith, a, same))
  where
    first : (s : ℕ) → s < length trace.segments → get_or trace.segments (s - 1) 0 ≤ get_or trace.segments s 0 → events_before trace.segments (s + 1) ≡ events_before trace.segments (suc s) → events_before trace.segments s ≤ events_before trace.segments (s + 1)
    first zero h le e = omega (arith, e)
    first (suc s) h le e =
        let same : suc s - 1 ≡ s = omega arith in
        let low = ap (λ (i : ℕ). get_or trace.segments i 0) same in
        omega (arith, e, le, low)

-- the workers of a segment have to do all its events
pub loads_all : (trace : Trace) (segment : ℕ) → 0 < trace.processors → AreSegments (length trace.events) trace.segments → segment < length trace.segments
    → loads_below trace segment (trace.processors + 1) ≡ length (events_of_segment trace segment)
unfolding loads_below
loads_all trace segment some_one sound within =
    let next : segment + 1 ≡ suc segment = omega arith in
    let same = ap (events_before trace.segments) next in
    let low = events_before trace.segments segment in
    let size = get_or trace.segments segment 0 - low in
    let xs = range_with_len (low + 1) size in
    let ends = ends_are trace segment sound within in
    let e0 = ends.0 in
    let e1 = ends.1 in
    let all = sums_all trace some_one xs (λ x i. let r = range_in (low + 1) size x i in let a = r.0 in let b = r.1 in (omega (arith, a), omega (arith, b, e0, e1, same))) in
    each (trace.processors + 1) ∙ (all ∙ sym (ap length (segment_is trace segment sound within)))
  where
    each : (n : ℕ) → loads_below trace segment n ≡ sums trace (range_with_len (events_before trace.segments segment + 1) (get_or trace.segments segment 0 - events_before trace.segments segment)) n
    each zero = refl
    each (suc n) = λ i. each n i + length (part_is trace segment (worker_numbered trace.processors n) sound within i)

-- seat 0 has a turn for each event of a segment where all segments before were done
pub length-events_of_segment-le : (board : Board) (trace : Trace) (segment : ℕ) (v : SeatKnowledge) → trace ≡ board.trace → IsSound trace → segment < length trace.segments → IsChief (turns_of board) v → length v.seen ≡ events_before trace.segments segment
    → length (events_of_segment trace segment) ≤ v.left
length-events_of_segment-le board trace segment v same sound within chief begun =
    let next : segment + 1 ≡ suc segment = omega arith in
    let end = ap (events_before trace.segments) next in
    let long = ap length (segment_is trace segment sound.segments within) ∙ length-range_with_len (events_before trace.segments segment + 1) (get_or trace.segments segment 0 - events_before trace.segments segment) in
    let whole = chief.settled.whole chief.joined in
    let ends = ends_are trace segment sound.segments within in
    let first = ends.0 in
    let last = ends.1 in
    let events = ap (λ (t : Trace). length t.events) same in
    omega (arith, long, end, whole, first, last, events, begun)
