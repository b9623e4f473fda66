-- Counting a segment's events by worker.
use Rattle.std.proofs.Common.{◌≡◌, ◌≢◌, ℕ, zero, suc, ◌+◌, ◌-◌, ◌<◌, ◌≤◌, inl, inr, Bool, true, false, cond, List, [], ◌∷◌, filter, length, slice_index, Option, Some, None, refl, sym, ap, ◌∙◌, arith, length-append}
use Rattle.std.specs.Prelude.{slice_set}
use Rattle.std.specs.List.{range_with_len}
use Rattle.std.proofs.lemmas.Bool.{cases_lt}
use Rattle.std.proofs.lemmas.List.{get_or-set_other, get_or-set_same}
use Rattle.exchange_events.specs.declared.trace.Event.{Event}
use Rattle.exchange_events.specs.declared.trace.Trace.{Trace}
use Rattle.exchange_events.specs.Orders.{Worker, Processor, Frame_worker, event_at, worker_of}
use Rattle.call_processor.specs.Parts.{does, is_its, is_worker, worker_at}
use Rattle.call_processor.proofs.PartLemmas.{up_to, up_to_next_its, up_to_next_not}
use Rattle.segment_run.specs.Workers.{worker_numbered}
use Rattle.segment_run.proofs.DoerLemmas.{is_itself, numbered_frames, numbered_processor, other_worker}
use Rattle.segment_run.proofs.LoadLemmas.{worker_is}

filter_few : (p : ℕ → Bool) (xs : List ℕ) → length (filter p xs) ≤ length xs
filter_few p [] = omega arith
filter_few p (x ∷ xs) = go (p x) (filter_few p xs)
  where
    go : (b : Bool) → length (filter p xs) ≤ length xs → length (cond b (x ∷ filter p xs) (filter p xs)) ≤ suc (length xs)
    go true h = omega (arith, h)
    go false h = omega (arith, h)

long_range : (a n : ℕ) → length (range_with_len a n) ≡ n
long_range a zero = refl
long_range a (suc n) = ap suc (long_range (a + 1) n)

-- a worker has no more events than there are
pub length-up_to-le : (trace : Trace) (worker : Worker) (first event : ℕ) → length (up_to trace worker first event) ≤ event - first
length-up_to-le trace worker first event =
    let a = filter_few (is_its trace worker) (range_with_len first (event - first)) in
    omega (arith, a, long_range first (event - first))

-- the number of an event's worker
pub number_is : (trace : Trace) → 0 < trace.processors → (event : Event) (o : Option ℕ) (n : ℕ) → worker_of trace.processors event ≡ worker_at o
    → ((m : ℕ) → o ≡ Some m → n ≡ m) → (o ≡ None → n ≡ trace.processors) → (n ≤ trace.processors) × (worker_numbered trace.processors n ≡ worker_of trace.processors event)
number_is trace some_one event None n is one none =
    let e = none refl in
    (omega (arith, e), numbered_frames trace.processors n (omega (arith, e)) ∙ sym is)
number_is trace some_one event (Some m) n is one none =
    let e = one m refl in
    let w = worker_is trace some_one event in
    elim (cases_lt w.0 trace.processors) [
      | inl inside ↦
          let same : Processor w.0 ≡ Processor m = sym (numbered_processor trace.processors w.0 inside) ∙ (w.2 ∙ is) in
          let number : w.0 ≡ m = cc same in
          (omega (arith, e, number, inside), numbered_processor trace.processors n (omega (arith, e, number, inside)) ∙ (ap Processor e ∙ sym is))
      | inr past ↦
          let wrong : Frame_worker ≡ Processor m = sym (numbered_frames trace.processors w.0 past) ∙ (w.2 ∙ is) in
          absurd (cc wrong)
    ]

-- one more event counted
pub counted_more : (trace : Trace) (first event n : ℕ) (ev : Event) (loads : List ℕ) → first ≤ event → n ≤ trace.processors → trace.processors < length loads
    → event_at trace.events event ≡ Some ev → worker_numbered trace.processors n ≡ worker_of trace.processors ev
    → ((i : ℕ) → i ≤ trace.processors → slice_index loads i ≡ length (up_to trace (worker_numbered trace.processors i) first event))
    → (i : ℕ) → i ≤ trace.processors → slice_index (slice_set loads n (slice_index loads n + 1)) i ≡ length (up_to trace (worker_numbered trace.processors i) first (event + 1))
counted_more trace first event n ev loads from few long at is each i le =
    elim (cases_lt i n) [
      | inl below ↦ other (other_worker trace.processors i n below few).1 (λ e. omega (arith, e, below))
      | inr above ↦
          elim (cases_lt n i) [
            | inl below ↦ other (other_worker trace.processors n i below le).0 (λ e. omega (arith, e, below))
            | inr past ↦ same (omega (arith, above, past))
          ]
    ]
  where
    its : (w : Worker) → is_its trace w event ≡ is_worker (worker_numbered trace.processors n) w
    its w = ap (does trace.processors w) at ∙ ap (λ (u : Worker). is_worker u w) (sym is)

    other : is_worker (worker_numbered trace.processors n) (worker_numbered trace.processors i) ≡ false → i ≢ n
        → slice_index (slice_set loads n (slice_index loads n + 1)) i ≡ length (up_to trace (worker_numbered trace.processors i) first (event + 1))
    other off apart = get_or-set_other loads n i (slice_index loads n + 1) 0 apart ∙ (each i le ∙ ap length (sym (up_to_next_not trace (worker_numbered trace.processors i) first event from (its (worker_numbered trace.processors i) ∙ off))))

    same : i ≡ n → slice_index (slice_set loads n (slice_index loads n + 1)) i ≡ length (up_to trace (worker_numbered trace.processors i) first (event + 1))
    same e =
        let w = worker_numbered trace.processors i in
        let mine : is_its trace w event ≡ true = its w ∙ (ap (λ (k : ℕ). is_worker (worker_numbered trace.processors n) (worker_numbered trace.processors k)) e ∙ is_itself (worker_numbered trace.processors n)) in
        let more = ap length (up_to_next_its trace w first event from mine) in
        let long_one = length-append (up_to trace w first event) (event ∷ []) in
        let was = each i le in
        let at_n = ap (slice_index loads) e in
        let set_is = ap (slice_index (slice_set loads n (slice_index loads n + 1))) e ∙ get_or-set_same loads n (slice_index loads n + 1) 0 (omega (arith, few, long)) in
        omega (arith, more, long_one, was, at_n, set_is)
