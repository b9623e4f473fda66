-- From what the workers of a segment did to what seat 0 knows once it has joined them.
use Rattle.std.proofs.Common.{◌≡◌, ◌≢◌, ℕ, suc, ◌+◌, ◌<◌, ◌≤◌, ◌⊎◌, inl, inr, Bool, true, false, IsTrue, List, [], ◌∷◌, ◌++◌, map, filter, length, refl, sym, ap, ◌∙◌, subst, arith, append-nil, length-append}
use Rattle.std.specs.Prelude.{◌||◌}
use Rattle.std.specs.List.{All, AllZip}
use Rattle.std.proofs.lemmas.Bool.{cases_lt}
use Rattle.exchange_events.specs.declared.trace.Trace.{Trace}
use Rattle.exchange_events.specs.Orders.{Worker, Processor, Frame_worker}
use Rattle.seat_history.proofs.HistoryLemmas.{unseen_front}
use Rattle.seat_history.specs.declared.seat_knowledge.SeatKnowledge.{SeatKnowledge}
use Rattle.seat_history.specs.declared.seat_knowledge.JoinedSeat.{JoinedSeat}
use Rattle.seat_history.specs.Histories.{StartsWith, unseen}
use Rattle.seat_history.specs.Seats.{Settled, joined_seat}
use Rattle.exchange_core.specs.Boards.{Board}
use Rattle.exchange_core.specs.Working.{Entry, order_of}
use Rattle.call_processor.specs.declared.worked.Placed.{Placed}
use Rattle.call_processor.specs.Parts.{is_its, is_worker, part_of}
use Rattle.call_processor.specs.Work.{Works, answered_events, entries_for}
use Rattle.segment_run.specs.Segment.{IsChief, Ran, RanWhole, IsOfSegment, new_events}
use Rattle.segment_run.specs.Workers.{AreDealt, HasDealt, any_baton, after_joins, load, part_numbered, turns_left, worker_numbered}
use Rattle.segment_run.proofs.ListLemmas.{In, all_in, in_all, map_in, length_of_map}
use Rattle.segment_run.proofs.DoerLemmas.{Doer, Joined, seat_of, its_of, filter-is_its_of_doer, filter-is_its_of_other, doer_of_worker, is_itself, no_part, numbered_frames, numbered_processor}

-- ---- lists side by side

module _ {A B : Type 0} (R : A → B → Type 0) where
  pub zip_right : (xs : List A) (ys : List B) → AllZip R xs ys → (y : B) → In y ys → (x : A) × In x xs × R x y
  zip_right [] [] z y i = absurd i
  zip_right [] (b ∷ ys) z y i = absurd z
  zip_right (a ∷ xs) [] z y i = absurd z
  zip_right (a ∷ xs) (b ∷ ys) z y (inl same) = (a, inl refl, subst (R a) same z.0)
  zip_right (a ∷ xs) (b ∷ ys) z y (inr more) = let r = zip_right xs ys z.1 y more in (r.0, inr r.1, r.2)

  pub zip_map : (S : A → B → Type 0) → (xs : List A) (ys : List B) → ((x : A) (y : B) → In x xs → R x y → S x y) → AllZip R xs ys → AllZip S xs ys
  zip_map S [] [] f z = tt
  zip_map S [] (b ∷ ys) f z = absurd z
  zip_map S (a ∷ xs) [] f z = absurd z
  zip_map S (a ∷ xs) (b ∷ ys) f z = (f a b (inl refl) z.0, zip_map S xs ys (λ x y i r. f x y (inr i) r) z.1)

  pub zip_more : (xs : List A) (ys : List B) (x : A) (y : B) → AllZip R xs ys → R x y → AllZip R (xs ++ x ∷ []) (ys ++ y ∷ [])
  zip_more [] [] x y z r = (r, tt)
  zip_more [] (b ∷ ys) x y z r = absurd z
  zip_more (a ∷ xs) [] x y z r = absurd z
  zip_more (a ∷ xs) (b ∷ ys) x y z r = (z.0, zip_more xs ys x y z.1 r)

  pub zip_and : (S : A → B → Type 0) → (xs : List A) (ys : List B) → AllZip R xs ys → AllZip S xs ys → AllZip (λ x y. R x y × S x y) xs ys
  zip_and S [] [] z w = tt
  zip_and S [] (b ∷ ys) z w = absurd z
  zip_and S (a ∷ xs) [] z w = absurd z
  zip_and S (a ∷ xs) (b ∷ ys) z w = ((z.0, w.0), zip_and S xs ys z.1 w.1)

  pub zip_long : (xs : List A) (ys : List B) → AllZip R xs ys → length ys ≡ length xs
  zip_long [] [] z = refl
  zip_long [] (b ∷ ys) z = absurd z
  zip_long (a ∷ xs) [] z = absurd z
  zip_long (a ∷ xs) (b ∷ ys) z = ap suc (zip_long xs ys z.1)

-- ---- seat 0 with seats joined

pub after_joins_kept : (c : SeatKnowledge) (ws : List SeatKnowledge) → (after_joins c ws).kept ≡ map joined_seat ws ++ c.kept
after_joins_kept c [] = refl
after_joins_kept c (w ∷ ws) = ap (λ (l : List JoinedSeat). joined_seat w ∷ l) (after_joins_kept c ws)

abbrev pub sum_left : List SeatKnowledge → ℕ
sum_left [] = 0
sum_left (w ∷ ws) = w.left + sum_left ws

record Unchanged (c k : SeatKnowledge) : Type 0 where
  number : k.number ≡ c.number
  own : k.own ≡ c.own
  made : k.made ≡ c.made

joined_rest : (c : SeatKnowledge) (ws : List SeatKnowledge) → Unchanged c (after_joins c ws)
joined_rest c [] = record { number = refl; own = refl; made = refl }
joined_rest c (w ∷ ws) = let r = joined_rest c ws in record { number = r.number; own = r.own; made = r.made }

or_false : (b : Bool) → (b || false) ≡ b
or_false true = refl
or_false false = refl

or_true : (b : Bool) → (b || true) ≡ true
or_true true = refl
or_true false = refl

no_length : {X : Type 0} (xs : List X) → length xs ≡ 0 → xs ≡ []
no_length [] h = refl
no_length (x ∷ xs) h = absurd (omega (arith, h))

-- seat 0 with no turns given away
settled_same : (turns : ℕ) (v c : SeatKnowledge) → HasDealt v 0 c → c.left ≡ v.left → Settled turns v → Settled turns c
settled_same turns v c d left s =
    let made : v.made ≡ c.made = let h = d.made in omega (arith, h) in
    let same : record v { baton = c.baton } ≡ c = λ i. record { number = sym d.number i; left = sym left i; baton = c.baton; seen = sym d.seen i; own = sym d.own i; made = made i; kept = sym d.kept i } in
    subst (Settled turns) same (record { own = s.own; kept = s.kept; others = s.others; once = s.once; entries_made = s.entries_made; within = s.within; accounted = s.accounted; whole = s.whole })

module _ {J U : Type 0} (board : Board) (trace : Trace) (segment : ℕ) (wj : J → ℕ) (kj : J → SeatKnowledge) (ku : U → SeatKnowledge) (au : U → List Placed) (bu : U → Bool) (E : J → U → Type 0) where
  abbrev pub Each : J → U → Type 0
  Each j u = Works board (part_numbered trace segment (wj j)) (kj j) (au u) (bu u) (ku u) × E j u

  abbrev pub seats : List J → List (ℕ × SeatKnowledge)
  seats js = map (λ (j : J). (wj j, kj j)) js

  abbrev pub doer : (j : J) (u : U) → Each j u → Doer
  doer j u e = record { worker = wj j; from = kj j; to = ku u; done = e.0.done }

  abbrev pub doers : (js : List J) (us : List U) → AllZip Each js us → List Doer
  doers [] [] z = []
  doers [] (u ∷ us) z = []
  doers (j ∷ js) [] z = []
  doers (j ∷ js) (u ∷ us) z = doer j u z.0 ∷ doers js us z.1

  doers_seats : (js : List J) (us : List U) (z : AllZip Each js us) → map seat_of (doers js us z) ≡ seats js
  doers_seats [] [] z = refl
  doers_seats [] (u ∷ us) z = absurd z
  doers_seats (j ∷ js) [] z = absurd z
  doers_seats (j ∷ js) (u ∷ us) z = ap (λ (l : List (ℕ × SeatKnowledge)). (wj j, kj j) ∷ l) (doers_seats js us z.1)

  doers_kept : (js : List J) (us : List U) (z : AllZip Each js us) → map (λ (t : Doer). joined_seat t.to) (doers js us z) ≡ map joined_seat (map ku us)
  doers_kept [] [] z = refl
  doers_kept [] (u ∷ us) z = absurd z
  doers_kept (j ∷ js) [] z = absurd z
  doers_kept (j ∷ js) (u ∷ us) z = ap (λ (l : List JoinedSeat). joined_seat (ku u) ∷ l) (doers_kept js us z.1)

  -- the pair that a doer comes from
  pub record Pair (js : List J) (us : List U) (t : Doer) : Type 0 where
    pub j : J
    pub u : U
    pub job : In j js
    pub out : In u us
    pub each : Each j u
    pub is : t ≡ doer j u each

  pub pair_of : (js : List J) (us : List U) (z : AllZip Each js us) (t : Doer) → In t (doers js us z) → Pair js us t
  pair_of [] [] z t i = absurd i
  pair_of [] (u ∷ us) z t i = absurd z
  pair_of (j ∷ js) [] z t i = absurd z
  pair_of (j ∷ js) (u ∷ us) z t (inl same) = record { j = j; u = u; job = inl refl; out = inl refl; each = z.0; is = sym same }
  pair_of (j ∷ js) (u ∷ us) z t (inr more) =
      let r = pair_of js us z.1 t more in
      record { j = r.j; u = r.u; job = inr r.job; out = inr r.out; each = r.each; is = r.is }

  after_joins_batons : (c : SeatKnowledge) (js : List J) (us : List U) → AllZip Each js us → (c.baton || any_baton (seats js)) ≡ true → (after_joins c (map ku us)).baton ≡ true
  after_joins_batons c [] [] z e = sym (or_false c.baton) ∙ e
  after_joins_batons c [] (u ∷ us) z e = absurd z
  after_joins_batons c (j ∷ js) [] z e = absurd z
  after_joins_batons c (j ∷ js) (u ∷ us) z e = go (after_joins_batons c js us z.1) (kj j).baton (ku u).baton z.0.0.did.baton e
    where
      go : ((c.baton || any_baton (seats js)) ≡ true → (after_joins c (map ku us)).baton ≡ true) → (a b : Bool) → b ≡ a → (c.baton || (a || any_baton (seats js))) ≡ true → ((after_joins c (map ku us)).baton || b) ≡ true
      go tail true b same e = ap (λ (x : Bool). (after_joins c (map ku us)).baton || x) same ∙ or_true (after_joins c (map ku us)).baton
      go tail false b same e = ap (λ (x : Bool). (after_joins c (map ku us)).baton || x) same ∙ (or_false (after_joins c (map ku us)).baton ∙ tail e)

  module _ (turns : ℕ) (v c k : SeatKnowledge) (js : List J) (us : List U) (z : AllZip Each js us) (chief : IsChief turns v) (dealt : HasDealt v (length js) c)
      (seated : AreDealt trace segment v (v.made + 1) 0 (seats js)) (baton : IsTrue (c.baton || any_baton (seats js))) (left : c.left + turns_left (seats js) ≡ v.left)
      (is : k ≡ after_joins c (map ku us)) (begins : StartsWith k.seen c.seen) (settled : 0 < length us → Settled turns k) (few : length js ≤ 9) where
    abbrev pub ts : List Doer
    ts = doers js us z

    abbrev pub rest : List Entry
    rest = begins.0

    pub grew : k.seen ≡ v.seen ++ rest
    grew = begins.1 ∙ ap (λ (l : List Entry). l ++ rest) dealt.seen

    long : length us ≡ length js
    long = zip_long Each js us z

    pub Settled_after : Settled turns k
    Settled_after = go us refl
      where
        go : (ws : List U) → us ≡ ws → Settled turns k
        go [] none =
            let no_us : length us ≡ 0 = ap length none in
            let no_js : js ≡ [] = no_length js (omega (arith, no_us, long)) in
            let zero_js : length js ≡ 0 = ap length no_js in
            let same : after_joins c [] ≡ k = sym (is ∙ ap (λ (l : List U). after_joins c (map ku l)) none) in
            let nothing_left : turns_left (seats js) ≡ 0 = ap (λ (l : List J). turns_left (seats l)) no_js in
            subst (Settled turns) same (settled_same turns v c (subst (λ (n : ℕ). HasDealt v n c) zero_js dealt) (omega (arith, left, nothing_left)) chief.settled)
        go (w ∷ ws) some_one = let n = ap length some_one in settled (omega (arith, n))

    number_is : k.number ≡ v.number
    number_is = ap (λ (x : SeatKnowledge). x.number) is ∙ ((joined_rest c (map ku us)).number ∙ dealt.number)

    pub made_is : k.made ≡ v.made + length js
    made_is = ap (λ (x : SeatKnowledge). x.made) is ∙ ((joined_rest c (map ku us)).made ∙ dealt.made)

    kept_are : k.kept ≡ map joined_seat (map ku us) ++ v.kept
    kept_are = ap (λ (x : SeatKnowledge). x.kept) is ∙ (after_joins_kept c (map ku us) ∙ ap (λ (l : List JoinedSeat). map joined_seat (map ku us) ++ l) dealt.kept)

    all_joined : k.made ≡ length k.kept
    all_joined =
        let a = ap length kept_are in
        let b = length-append (map joined_seat (map ku us)) v.kept in
        let d = length_of_map joined_seat (map ku us) in
        let e = length_of_map ku us in
        omega (arith, a, b, d, e, made_is, long, chief.joined)

    pub joined : Joined trace segment v k rest ts
    joined = record {
      grew = grew;
      own = ap (λ (x : SeatKnowledge). x.own) is ∙ ((joined_rest c (map ku us)).own ∙ dealt.own);
      number = number_is;
      kept = kept_are ∙ ap (λ (l : List JoinedSeat). l ++ v.kept) (sym (doers_kept js us z));
      all = all_joined;
      dealt = subst (AreDealt trace segment v (v.made + 1) 0) (sym (doers_seats js us z)) seated;
      named = λ t i. let p = pair_of js us z t i in ap (λ (x : Doer). x.to.number) p.is ∙ (p.each.0.did.number ∙ ap (λ (x : Doer). x.from.number) (sym p.is));
      did = λ t i. let p = pair_of js us z t i in subst (λ (x : Doer). x.to.own ≡ x.from.own ++ entries_for x.from.number x.done) (sym p.is) p.each.0.did.own;
      fronts = λ t i. let p = pair_of js us z t i in subst (λ (x : Doer). (more : List ℕ) × (part_numbered trace segment x.worker ≡ x.done ++ more)) (sym p.is) p.each.0.first;
    }

    pub new_events_grown : new_events v k ≡ order_of rest
    new_events_grown = ap (λ (l : List Entry). order_of (unseen v.seen l)) grew ∙ ap order_of (unseen_front v.seen rest)

    pub turns_are : k.left + length rest ≡ v.left
    turns_are =
        let a = Settled_after.whole all_joined in
        let b = chief.settled.whole chief.joined in
        let d = ap length grew in
        let e = length-append v.seen rest in
        omega (arith, a, b, d, e)

    pub still_chief : IsChief turns k
    still_chief = record {
      number = number_is ∙ chief.number;
      baton = ap (λ (x : SeatKnowledge). x.baton) is ∙ after_joins_batons c js us z baton;
      joined = all_joined;
      settled = Settled_after;
    }

    pub StartsWith_begun : StartsWith k.seen v.seen
    StartsWith_begun = (rest, grew)

    front_of : (worker : Worker) → ((t : Doer) × In t ts × (worker_numbered trace.processors t.worker ≡ worker)) ⊎ ((t : Doer) → In t ts → is_worker (worker_numbered trace.processors t.worker) worker ≡ false)
        → (more : List ℕ) × (part_of trace segment worker ≡ filter (is_its trace worker) (order_of rest) ++ more)
    front_of worker (inl t) =
        let f = joined.fronts t.0 t.1 in
        subst (λ (w : Worker). (more : List ℕ) × (part_of trace segment w ≡ filter (is_its trace w) (order_of rest) ++ more)) t.2
        (f.0, f.1 ∙ ap (λ (l : List ℕ). l ++ f.0) (sym (filter-is_its_of_doer turns trace segment v k rest ts chief.settled Settled_after joined t.0 t.1)))
    front_of worker (inr none) = (part_of trace segment worker, ap (λ (l : List ℕ). l ++ part_of trace segment worker) (sym (filter-is_its_of_other turns trace segment v k rest ts chief.settled Settled_after joined worker none)))

    pub ran : Ran trace segment v k
    ran = record {
      begins = StartsWith_begun;
      only = subst (All (IsOfSegment trace segment)) (sym new_events_grown) (in_all (IsOfSegment trace segment) (order_of rest) (λ n h.
          let m = map_in (λ (e : Entry). e.1) rest n h in
          let o = its_of turns trace segment v k rest ts chief.settled Settled_after joined m.0 m.1 in
          subst (IsOfSegment trace segment) m.2 (o.1.event, o.1.segment_is)));
      fronts = λ worker. subst (λ (l : List ℕ). (more : List ℕ) × (part_of trace segment worker ≡ filter (is_its trace worker) l ++ more)) (sym new_events_grown) (front_of worker (doer_of_worker trace.processors worker ts));
      turns = let a = ap length new_events_grown in let b = length_of_map (λ (e : Entry). e.1) rest in omega (arith, a, b, turns_are);
      few = omega (arith, made_is, few);
    }

    -- ---- where all was done

    module _ (some_processor : 0 < trace.processors) (all_whole : All (λ (u : U). IsTrue (bu u)) us) (idle : (i : ℕ) → i ≤ trace.processors → ((j : J) → In j js → wj j ≢ i) → load trace segment i ≡ 0) where
      whole_done : (t : Doer) → In t ts → t.done ≡ part_numbered trace segment t.worker
      whole_done t i =
          let p = pair_of js us z t i in
          let w = p.each.0 in
          let part = part_numbered trace segment (wj p.j) in
          let yes_it = all_in (λ (u : U). IsTrue (bu u)) us all_whole p.u p.out in
          let given = w.all yes_it in
          let a = ap length w.told.1 in
          let b = length-append (answered_events (au p.u)) w.told.0 in
          let d = ap length w.first.1 in
          let e = length-append w.done w.first.0 in
          let f = ap length given in
          let none : w.first.0 ≡ [] = no_length w.first.0 (omega (arith, a, b, d, e, f)) in
          subst (λ (x : Doer). x.done ≡ part_numbered trace segment x.worker) (sym p.is)
          (sym (w.first.1 ∙ (ap (λ (l : List ℕ). w.done ++ l) none ∙ append-nil w.done)))

      doer_for : (xs : List J) (ys : List U) (y : AllZip Each xs ys) (j : J) → In j xs → (t : Doer) × In t (doers xs ys y) × (t.worker ≡ wj j)
      doer_for [] ys y j i = absurd i
      doer_for (x ∷ xs) [] y j i = absurd y
      doer_for (x ∷ xs) (u ∷ ys) y j (inl same) = (doer x u y.0, inl refl, ap wj same)
      doer_for (x ∷ xs) (u ∷ ys) y j (inr more) = let r = doer_for xs ys y.1 j more in (r.0, inr r.1, r.2)

      none_left : (worker : Worker) → ((t : Doer) → In t ts → is_worker (worker_numbered trace.processors t.worker) worker ≡ false) → (i : ℕ) → i ≤ trace.processors → worker_numbered trace.processors i ≡ worker → part_of trace segment worker ≡ []
      none_left worker none i le is_it =
          let free : (j : J) → In j js → wj j ≢ i = λ j h e.
          let d = doer_for js us z j h in
          let itself = none d.0 d.1 in
          let same : worker_numbered trace.processors d.0.worker ≡ worker = ap (worker_numbered trace.processors) (d.2 ∙ e) ∙ is_it in
          let yes_it : true ≡ false = sym (is_itself worker) ∙ (ap (λ (w : Worker). is_worker w worker) (sym same) ∙ itself) in
          cc yes_it in
          subst (λ (w : Worker). part_of trace segment w ≡ []) is_it (no_length (part_numbered trace segment i) (idle i le free))

      other_part : (worker : Worker) → ((t : Doer) → In t ts → is_worker (worker_numbered trace.processors t.worker) worker ≡ false) → part_of trace segment worker ≡ []
      other_part Frame_worker none = none_left Frame_worker none trace.processors (omega arith) (numbered_frames trace.processors trace.processors (omega arith))
      other_part (Processor p) none =
          elim (cases_lt p trace.processors) [
            | inl inside ↦ none_left (Processor p) none p (omega (arith, inside)) (numbered_processor trace.processors p inside)
            | inr past ↦ no_part trace segment p some_processor past
          ]

      whole_of : (worker : Worker) → ((t : Doer) × In t ts × (worker_numbered trace.processors t.worker ≡ worker)) ⊎ ((t : Doer) → In t ts → is_worker (worker_numbered trace.processors t.worker) worker ≡ false)
          → filter (is_its trace worker) (order_of rest) ≡ part_of trace segment worker
      whole_of worker (inl t) =
          subst (λ (w : Worker). filter (is_its trace w) (order_of rest) ≡ part_of trace segment w) t.2
          (filter-is_its_of_doer turns trace segment v k rest ts chief.settled Settled_after joined t.0 t.1 ∙ whole_done t.0 t.1)
      whole_of worker (inr none) = filter-is_its_of_other turns trace segment v k rest ts chief.settled Settled_after joined worker none ∙ sym (other_part worker none)

      pub ran_whole : RanWhole trace segment v k
      ran_whole = λ worker. ap (filter (is_its trace worker)) new_events_grown ∙ whole_of worker (doer_of_worker trace.processors worker ts)
