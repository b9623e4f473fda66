-- Who did which event of the growth.
use Rattle.std.proofs.Common.{◌≡◌, ℕ, ◌+◌, ◌%◌, ◌<◌, ◌≤◌, ◌⊎◌, inl, inr, Bool, true, false, cond, ◌&&◌, List, [], ◌∷◌, ◌++◌, map, filter, length, Option, Some, None, refl, sym, ap, ◌∙◌, subst, arith}
use Rattle.std.specs.Prelude.{◌||◌, nat_eq, nat_lt}
use Rattle.std.specs.List.{list_any}
use Rattle.std.proofs.lemmas.Bool.{cases_lt}
use Rattle.std.proofs.lemmas.Bool.Decides.{nat_tests}
use Rattle.std.proofs.lemmas.Nat.{mod_below}
use Rattle.std.proofs.lemmas.List.Elements.{filter-append}
use Rattle.exchange_events.specs.declared.trace.Event.{Event}
use Rattle.exchange_events.specs.declared.trace.Event.TheVariants.{Nail, Seat, Free, Message, Frame, LinkUp, LinkDown, RestartLine}
use Rattle.exchange_events.specs.declared.trace.Trace.{Trace}
use Rattle.exchange_events.specs.Orders.{Worker, Processor, Frame_worker, IsEvent, event_at, segment_of, worker_of}
use Rattle.seat_history.specs.declared.seat_knowledge.SeatKnowledge.{SeatKnowledge}
use Rattle.seat_history.specs.declared.seat_knowledge.JoinedSeat.{JoinedSeat}
use Rattle.seat_history.specs.Histories.{entries_of}
use Rattle.seat_history.specs.Seats.{Settled, Accounts, joined_seat}
use Rattle.exchange_core.specs.Working.{Entry, order_of}
use Rattle.call_processor.specs.Parts.{is_its, is_worker, does, part_of}
use Rattle.call_processor.specs.Work.{entries_for}
use Rattle.segment_run.specs.Workers.{AreDealt, IsNew, load, part_numbered, worker_numbered}
use Rattle.segment_run.proofs.ListLemmas.{In, all_in, in_either, in_left, in_filter, filter_in, filter_alike, filter_none, none_behind, in_map, map_in, filter_map_of, range_in, both, any_in}

-- ---- workers

same_worker : (a b : Worker) → is_worker a b ≡ true → a ≡ b
same_worker (Processor a) (Processor b) e = let same : a ≡ b = grind (arith, nat_tests, e) in ap Processor same
same_worker (Processor a) Frame_worker e = absurd (cc e)
same_worker Frame_worker (Processor b) e = absurd (cc e)
same_worker Frame_worker Frame_worker e = refl

pub is_itself : (a : Worker) → is_worker a a ≡ true
is_itself (Processor a) = grind (arith, nat_tests)
is_itself Frame_worker = refl

-- an event of one worker is another's exactly where the two are one
pub is_its_one_worker : (trace : Trace) (a b : Worker) (n : ℕ) → is_its trace a n ≡ true → is_its trace b n ≡ is_worker a b
is_its_one_worker trace a b n = go (event_at trace.events n)
  where
    go : (o : Option Event) → does trace.processors a o ≡ true → does trace.processors b o ≡ is_worker a b
    go None e = absurd (cc e)
    go (Some event) e = ap (λ (w : Worker). is_worker w b) (same_worker (worker_of trace.processors event) a e)

pub numbered_processor : (processors i : ℕ) → i < processors → worker_numbered processors i ≡ Processor i
numbered_processor processors i h = let yes_it : nat_lt i processors ≡ true = grind (arith, nat_tests, h) in ap (λ (b : Bool). cond b (Processor i) Frame_worker) yes_it

pub numbered_frames : (processors i : ℕ) → processors ≤ i → worker_numbered processors i ≡ Frame_worker
numbered_frames processors i h = let off : nat_lt i processors ≡ false = grind (arith, nat_tests, h) in ap (λ (b : Bool). cond b (Processor i) Frame_worker) off

pub other_worker : (processors i j : ℕ) → i < j → j ≤ processors → (is_worker (worker_numbered processors i) (worker_numbered processors j) ≡ false) × (is_worker (worker_numbered processors j) (worker_numbered processors i) ≡ false)
other_worker processors i j lt le =
    let first = numbered_processor processors i (omega (arith, lt, le)) in
    elim (cases_lt j processors) [
      | inl inside ↦
          let second = numbered_processor processors j inside in
          let one : nat_eq i j ≡ false = grind (arith, nat_tests, lt) in
          let two : nat_eq j i ≡ false = grind (arith, nat_tests, lt) in ((λ k. is_worker (first k) (second k)) ∙ one, (λ k. is_worker (second k) (first k)) ∙ two)
      | inr past ↦
          let second = numbered_frames processors j past in
          (λ k. is_worker (first k) (second k), λ k. is_worker (second k) (first k))
    ]

-- no event is of a call processor that there isn't
pub no_part : (trace : Trace) (segment p : ℕ) → 0 < trace.processors → trace.processors ≤ p → part_of trace segment (Processor p) ≡ []
no_part trace segment p some_one past = filter_none (λ n. nat_eq (segment_of trace.segments n) segment && is_its trace (Processor p) n) _ (λ n i. none (nat_eq (segment_of trace.segments n) segment) (event_at trace.events n))
  where
    of_line : (line : ℕ) → nat_eq (line % trace.processors) p ≡ false
    of_line line = let h = mod_below line trace.processors some_one in grind (arith, nat_tests, h, past)

    off : (o : Option Event) → does trace.processors (Processor p) o ≡ false
    off None = refl
    off (Some (Nail x y)) = of_line x.line
    off (Some (Seat x room)) = of_line x.line
    off (Some (Free x)) = of_line x.line
    off (Some (Message line octets)) = of_line line
    off (Some (LinkUp line)) = of_line line
    off (Some (LinkDown line)) = of_line line
    off (Some (RestartLine line)) = of_line line
    off (Some (Frame input)) = refl

    none : (b : Bool) (o : Option Event) → (b && does trace.processors (Processor p) o) ≡ false
    none true o = off o
    none false o = refl

-- ---- what a worker did

-- a worker, its seat before and afterwards, and the events that it did
pub record Doer : Type 0 where
  pub worker : ℕ
  pub from : SeatKnowledge
  pub to : SeatKnowledge
  pub done : List ℕ

abbrev pub seat_of : Doer → ℕ × SeatKnowledge
seat_of t = (t.worker, t.from)

pub record Dealt (trace : Trace) (segment : ℕ) (v : SeatKnowledge) (n low : ℕ) (t : Doer) : Type 0 where
  pub number : ℕ
  pub is : IsNew v number (load trace segment t.worker) t.from
  pub since : n ≤ number
  pub from_low : low ≤ t.worker
  pub few : t.worker ≤ trace.processors

pub dealt_in : (trace : Trace) (segment : ℕ) (v : SeatKnowledge) (n low : ℕ) (ts : List Doer) → AreDealt trace segment v n low (map seat_of ts) → (t : Doer) → In t ts → Dealt trace segment v n low t
dealt_in trace segment v n low [] d t i = absurd i
dealt_in trace segment v n low (u ∷ ts) d t (inl same) = subst (Dealt trace segment v n low) same (record { number = n; is = d.2; since = omega arith; from_low = d.0; few = d.1 })
dealt_in trace segment v n low (u ∷ ts) d t (inr more) =
    let r = dealt_in trace segment v (n + 1) (u.worker + 1) ts d.3 t more in
    let a = r.since in
    let b = r.from_low in
    let c = d.0 in
    record { number = r.number; is = r.is; since = omega (arith, a); from_low = omega (arith, b, c); few = r.few }

-- two of the workers are one exactly where their seats are
pub is_worker_alike : (trace : Trace) (segment : ℕ) (v : SeatKnowledge) (n low : ℕ) (ts : List Doer) → AreDealt trace segment v n low (map seat_of ts) → (t u : Doer) → In t ts → In u ts
    → is_worker (worker_numbered trace.processors t.worker) (worker_numbered trace.processors u.worker) ≡ nat_eq t.from.number u.from.number
is_worker_alike trace segment v n low [] d t u i j = absurd i
is_worker_alike trace segment v n low (w ∷ ts) d t u (inl p) (inl q) =
    let same : t ≡ u = sym p ∙ q in
    subst (λ (x : Doer). is_worker (worker_numbered trace.processors t.worker) (worker_numbered trace.processors x.worker) ≡ nat_eq t.from.number x.from.number) same
    (is_itself (worker_numbered trace.processors t.worker) ∙ (let self : nat_eq t.from.number t.from.number ≡ true = grind (arith, nat_tests) in sym self))
is_worker_alike trace segment v n low (w ∷ ts) d t u (inl p) (inr j) =
    let r = dealt_in trace segment v (n + 1) (w.worker + 1) ts d.3 u j in
    let a = r.since in
    let b = r.from_low in
    let na = r.is.number_is in
    let nw = d.2.number_is in
    let off : nat_eq w.from.number u.from.number ≡ false = grind (arith, nat_tests, a, na, nw) in
    subst (λ (x : Doer). is_worker (worker_numbered trace.processors x.worker) (worker_numbered trace.processors u.worker) ≡ nat_eq x.from.number u.from.number) p
    ((other_worker trace.processors w.worker u.worker (omega (arith, b)) r.few).0 ∙ sym off)
is_worker_alike trace segment v n low (w ∷ ts) d t u (inr i) (inl q) =
    let r = dealt_in trace segment v (n + 1) (w.worker + 1) ts d.3 t i in
    let a = r.since in
    let b = r.from_low in
    let na = r.is.number_is in
    let nw = d.2.number_is in
    let off : nat_eq t.from.number w.from.number ≡ false = grind (arith, nat_tests, a, na, nw) in
    subst (λ (x : Doer). is_worker (worker_numbered trace.processors t.worker) (worker_numbered trace.processors x.worker) ≡ nat_eq t.from.number x.from.number) q
    ((other_worker trace.processors w.worker t.worker (omega (arith, b)) r.few).1 ∙ sym off)
is_worker_alike trace segment v n low (w ∷ ts) d t u (inr i) (inr j) = is_worker_alike trace segment v (n + 1) (w.worker + 1) ts d.3 t u i j

-- ---- entries

pub entries_split : (n : ℕ) (seen rest : List Entry) → entries_of n (seen ++ rest) ≡ entries_of n seen ++ entries_of n rest
entries_split n seen rest = filter-append (λ (e : Entry). nat_eq e.0 n) seen rest

entry_for : (n : ℕ) (events : List ℕ) (e : Entry) → In e (entries_for n events) → In e.1 events
entry_for n events e i = let r = map_in (λ (m : ℕ). (n, m)) events e i in subst (λ (m : ℕ). In m events) (ap (λ (x : Entry). x.1) r.2) r.1

order_for : (n : ℕ) (events : List ℕ) → order_of (entries_for n events) ≡ events
order_for n [] = refl
order_for n (m ∷ events) = ap (λ (l : List ℕ). m ∷ l) (order_for n events)

-- what seat 0 shows once it has joined the seats of these doers, and the history grew by rest
pub record Joined (trace : Trace) (segment : ℕ) (v k : SeatKnowledge) (rest : List Entry) (ts : List Doer) : Type 0 where
  pub grew : k.seen ≡ v.seen ++ rest
  pub own : k.own ≡ v.own
  pub number : k.number ≡ v.number
  pub kept : k.kept ≡ map (λ (t : Doer). joined_seat t.to) ts ++ v.kept
  pub all : k.made ≡ length k.kept
  pub dealt : AreDealt trace segment v (v.made + 1) 0 (map seat_of ts)
  pub named : (t : Doer) → In t ts → t.to.number ≡ t.from.number
  pub did : (t : Doer) → In t ts → t.to.own ≡ t.from.own ++ entries_for t.from.number t.done
  pub fronts : (t : Doer) → In t ts → (more : List ℕ) × (part_numbered trace segment t.worker ≡ t.done ++ more)

module _ (turns : ℕ) (trace : Trace) (segment : ℕ) (v k : SeatKnowledge) (rest : List Entry) (ts : List Doer) (before : Settled turns v) (after : Settled turns k) (j : Joined trace segment v k rest ts) where
  -- who had all its entries before did none of these
  none_of : (n : ℕ) (own : List Entry) → own ≡ entries_of n v.seen → own ≡ entries_of n k.seen → entries_of n rest ≡ []
  none_of n own was is = none_behind (entries_of n v.seen) (entries_of n k.seen) (entries_of n rest) (sym was ∙ is) (ap (entries_of n) j.grew ∙ entries_split n v.seen rest)

  not_of : (n : ℕ) (e : Entry) → In e rest → e.0 ≡ n → entries_of n rest ≡ [] → ⊥
  not_of n e i same none =
      let self : nat_eq e.0 n ≡ true = grind (arith, nat_tests, same) in
      subst (λ (l : List Entry). In e l) none (in_filter (λ (x : Entry). nat_eq x.0 n) rest e i self)

  kept_in : (m : JoinedSeat) → In m k.kept → m.own ≡ entries_of m.number k.seen
  kept_in m i = all_in (λ (x : JoinedSeat). x.own ≡ entries_of x.number k.seen) k.kept after.kept m i

  -- an entry of the growth is a doer's
  pub doer_of_entry : (e : Entry) → In e rest → (t : Doer) × In t ts × (e.0 ≡ t.from.number)
  doer_of_entry e i =
      let there : In e k.seen = subst (λ (l : List Entry). In e l) (sym j.grew) (behind v.seen) in
      let accounts : Accounts k e.0 = all_in (λ (x : Entry). Accounts k x.0) k.seen (after.accounted j.all) e there in
      go (nat_eq e.0 k.number) refl accounts
    where
      behind : (xs : List Entry) → In e (xs ++ rest)
      behind [] = i
      behind (x ∷ xs) = inr (behind xs)

      kept_one : (m : JoinedSeat) → m.number ≡ e.0 → In m (map (λ (t : Doer). joined_seat t.to) ts) ⊎ In m v.kept → (t : Doer) × In t ts × (e.0 ≡ t.from.number)
      kept_one m same (inl one) =
          let r = map_in (λ (t : Doer). joined_seat t.to) ts m one in
          (r.0, r.1, sym same ∙ (sym (ap (λ (x : JoinedSeat). x.number) r.2) ∙ j.named r.0 r.1))
      kept_one m same (inr old) =
          let was = all_in (λ (x : JoinedSeat). x.own ≡ entries_of x.number v.seen) v.kept before.kept m old in
          let is = kept_in m (subst (λ (l : List JoinedSeat). In m l) (sym j.kept) (behind_kept (map (λ (t : Doer). joined_seat t.to) ts) old)) in
          absurd (not_of m.number e i (sym same) (none_of m.number m.own was is))
        where
          behind_kept : (xs : List JoinedSeat) → In m v.kept → In m (xs ++ v.kept)
          behind_kept [] h = h
          behind_kept (x ∷ xs) h = inr (behind_kept xs h)

      go : (b : Bool) → nat_eq e.0 k.number ≡ b → (b || list_any (nat_eq e.0) (map (λ (m : JoinedSeat). m.number) k.kept)) ≡ true → (t : Doer) × In t ts × (e.0 ≡ t.from.number)
      go true same yes_it =
          let self : e.0 ≡ v.number = let q : e.0 ≡ k.number = grind (arith, nat_tests, same) in q ∙ j.number in
          let is : v.own ≡ entries_of v.number k.seen = sym j.own ∙ (after.own ∙ ap (λ (n : ℕ). entries_of n k.seen) j.number) in
          absurd (not_of v.number e i self (none_of v.number v.own before.own is))
      go false same yes_it =
          let r = map_in (λ (m : JoinedSeat). m.number) k.kept e.0 (any_in e.0 (map (λ (m : JoinedSeat). m.number) k.kept) yes_it) in
          kept_one r.0 r.2 (in_either (map (λ (t : Doer). joined_seat t.to) ts) v.kept r.0 (subst (λ (l : List JoinedSeat). In r.0 l) j.kept r.1))

  -- a doer's entries of the growth are those for what it did
  pub entries_are : (t : Doer) → In t ts → entries_of t.from.number rest ≡ entries_for t.from.number t.done
  entries_are t i =
      let d = dealt_in trace segment v (v.made + 1) 0 ts j.dealt t i in
      let n = t.from.number in
      let kept_it : In (joined_seat t.to) k.kept = subst (λ (l : List JoinedSeat). In (joined_seat t.to) l) (sym j.kept) (in_left (map (λ (u : Doer). joined_seat u.to) ts) v.kept (joined_seat t.to) (in_map (λ (u : Doer). joined_seat u.to) ts t i)) in
      let own : t.to.own ≡ entries_of n k.seen = kept_in (joined_seat t.to) kept_it ∙ ap (λ (m : ℕ). entries_of m k.seen) (j.named t i) in
      let none : entries_of n v.seen ≡ [] =
      filter_none (λ (e : Entry). nat_eq e.0 n) v.seen (λ e h.
      let low = all_in (λ (x : Entry). x.0 ≤ v.made) v.seen before.entries_made e h in
      let a = d.since in
      let b = d.is.number_is in
      grind (arith, nat_tests, low, a, b)) in
      let split : entries_of n k.seen ≡ entries_of n rest = ap (entries_of n) j.grew ∙ (entries_split n v.seen rest ∙ ap (λ (l : List Entry). l ++ entries_of n rest) none) in
      sym split ∙ (sym own ∙ (j.did t i ∙ ap (λ (l : List Entry). l ++ entries_for n t.done) d.is.own_none))

  -- what the event of an entry of the growth is
  pub record Its (e : Entry) (t : Doer) : Type 0 where
    pub among : In t ts
    pub number : e.0 ≡ t.from.number
    pub done : In e.1 t.done
    pub its : is_its trace (worker_numbered trace.processors t.worker) e.1 ≡ true
    pub segment_is : segment_of trace.segments e.1 ≡ segment
    pub event : IsEvent trace e.1

  pub its_of : (e : Entry) → In e rest → (t : Doer) × Its e t
  its_of e i =
      let w = doer_of_entry e i in
      let t = w.0 in
      let n = t.from.number in
      let same = w.2 in
      let self : nat_eq e.0 n ≡ true = grind (arith, nat_tests, same) in
      let mine : In e (entries_for n t.done) = subst (λ (l : List Entry). In e l) (entries_are t w.1) (in_filter (λ (x : Entry). nat_eq x.0 n) rest e i self) in
      let done = entry_for n t.done e mine in
      let front = j.fronts t w.1 in
      let part : In e.1 (part_numbered trace segment t.worker) = subst (λ (l : List ℕ). In e.1 l) (sym front.1) (in_left t.done front.0 e.1 done) in
      let worker = worker_numbered trace.processors t.worker in
      let f = filter_in (λ (m : ℕ). nat_eq (segment_of trace.segments m) segment && is_its trace worker m) _ e.1 part in
      let b = both (nat_eq (segment_of trace.segments e.1) segment) (is_its trace worker e.1) f.0 in
      let r = range_in 1 (length trace.events) e.1 f.1 in
      let b0 = b.0 in (
        t,
        record {
          among = w.1;
          number = w.2;
          done = done;
          its = b.1;
          segment_is = grind (arith, nat_tests, b0);
          event = (r.0, omega (arith, r.1));
        },
      )

  -- a doer did its part of the growth
  pub filter-is_its_of_doer : (t : Doer) → In t ts → filter (is_its trace (worker_numbered trace.processors t.worker)) (order_of rest) ≡ t.done
  filter-is_its_of_doer t i =
      let worker = worker_numbered trace.processors t.worker in
      filter_map_of (λ (e : Entry). e.1) (is_its trace worker) rest
      ∙ (ap order_of (filter_alike (λ (e : Entry). is_its trace worker e.1) (λ (e : Entry). nat_eq e.0 t.from.number) rest (λ e h.
      let o = its_of e h in
      is_its_one_worker trace (worker_numbered trace.processors o.0.worker) worker e.1 o.1.its
      ∙ (is_worker_alike trace segment v (v.made + 1) 0 ts j.dealt o.0 t o.1.among i ∙ ap (λ (m : ℕ). nat_eq m t.from.number) (sym o.1.number))))
      ∙ (ap order_of (entries_are t i) ∙ order_for t.from.number t.done))

  -- and who is none of the doers did none of it
  pub filter-is_its_of_other : (worker : Worker) → ((t : Doer) → In t ts → is_worker (worker_numbered trace.processors t.worker) worker ≡ false) → filter (is_its trace worker) (order_of rest) ≡ []
  filter-is_its_of_other worker none =
      filter_none (is_its trace worker) (order_of rest) (λ n h.
      let m = map_in (λ (e : Entry). e.1) rest n h in
      let o = its_of m.0 m.1 in
      ap (is_its trace worker) (sym m.2) ∙ (is_its_one_worker trace (worker_numbered trace.processors o.0.worker) worker m.0.1 o.1.its ∙ none o.0 o.1.among))

-- a worker is one of the doers or none
pub doer_of_worker : (processors : ℕ) (worker : Worker) (ts : List Doer) → ((t : Doer) × In t ts × (worker_numbered processors t.worker ≡ worker)) ⊎ ((t : Doer) → In t ts → is_worker (worker_numbered processors t.worker) worker ≡ false)
doer_of_worker processors worker [] = inr (λ t i. absurd i)
doer_of_worker processors worker (u ∷ ts) = go (is_worker (worker_numbered processors u.worker) worker) refl (doer_of_worker processors worker ts)
  where
    go : (b : Bool) → is_worker (worker_numbered processors u.worker) worker ≡ b
        → ((t : Doer) × In t ts × (worker_numbered processors t.worker ≡ worker)) ⊎ ((t : Doer) → In t ts → is_worker (worker_numbered processors t.worker) worker ≡ false)
        → ((t : Doer) × In t (u ∷ ts) × (worker_numbered processors t.worker ≡ worker)) ⊎ ((t : Doer) → In t (u ∷ ts) → is_worker (worker_numbered processors t.worker) worker ≡ false)
    go true e more = inl (u, inl refl, same_worker (worker_numbered processors u.worker) worker e)
    go false e (inl one) = inl (one.0, inr one.1, one.2)
    go false e (inr none) = inr each
      where
        each : (t : Doer) → In t (u ∷ ts) → is_worker (worker_numbered processors t.worker) worker ≡ false
        each t (inl same) = subst (λ (x : Doer). is_worker (worker_numbered processors x.worker) worker ≡ false) same e
        each t (inr more) = none t more
