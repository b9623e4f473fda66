-- A segment's run as a whole: from what was dealt, done and joined to what the run promises.
use Rattle.std.proofs.Common.{◌≡◌, ◌≢◌, ℕ, suc, ◌+◌, ◌<◌, ◌≤◌, ◌⊎◌, inl, inr, Bool, true, false, IsTrue, List, [], ◌∷◌, ◌++◌, map, length, drop, filter, refl, sym, ap, ◌∙◌, subst, arith, append-nil, append_assoc, length-append}
use Rattle.std.specs.Prelude.{◌||◌, nat_eq}
use Rattle.std.specs.List.{All, AllZip}
use Rattle.std.proofs.lemmas.Bool.{cases_lt}
use Rattle.std.proofs.lemmas.Bool.Decides.{nat_tests}
use Rattle.circuit_model.specs.declared.circuit.Kind.{Kind}
use Rattle.exchange_core.specs.declared.tool.Tool.{Tool}
use Rattle.exchange_events.specs.declared.trace.Trace.{Trace}
use Rattle.exchange_events.specs.Orders.{Worker, Frame_worker}
use Rattle.seat_history.proofs.HistoryLemmas.{unseen_front}
use Rattle.seat_history.specs.declared.seat_knowledge.SeatKnowledge.{SeatKnowledge}
use Rattle.seat_history.specs.declared.seat_knowledge.JoinedSeat.{JoinedSeat}
use Rattle.seat_history.specs.Histories.{StartsWith, entries_of, unseen}
use Rattle.seat_history.specs.Seats.{Settled, joined_seat}
use Rattle.exchange_core.specs.Boards.{Board, IsFrame, NoFrames, turns_of}
use Rattle.exchange_events.specs.Sound.{IsSound}
use Rattle.exchange_core.specs.Working.{Entry, order_of}
use Rattle.exchange_events.specs.Sizes.{Dimensions}
use Rattle.call_processor.specs.declared.worked.Placed.{Placed}
use Rattle.call_processor.specs.Frames.{Carrying, Plays, IsReady}
use Rattle.call_processor.specs.Parts.{events_of_segment, is_its, is_worker, part_of}
use Rattle.call_processor.specs.Work.{Works, answered_events}
use Rattle.call_processor.proofs.FrameLemmas.{frame_its, still_ready}
use Rattle.segment_run.specs.Merging.{AreApart}
use Rattle.segment_run.specs.Merging.{IsMerged}
use Rattle.segment_run.specs.Merging.{all_of}
use Rattle.segment_run.specs.Segment.{AreAnswered, IsChief, IsOfSegment, Ran, RanWhole, new_events}
use Rattle.segment_run.specs.Workers.{AreDealt, HasDealt, any_baton, after_joins, load, loads_below, part_numbered, turns_left, worker_numbered}
use Rattle.segment_run.proofs.ListLemmas.{In, all_in, in_all, in_filter, in_left, in_right, in_map, filter_none, none_behind}
use Rattle.segment_run.proofs.DoerLemmas.{Doer, Joined, dealt_in, is_worker_alike, entries_split, doer_of_worker, numbered_frames, numbered_processor, is_its_one_worker, its_of}
use Rattle.segment_run.proofs.LoadLemmas.{loads_all}
use Rattle.segment_run.proofs.RunLemmas.{zip_and, sum_left, still_chief, ran, ran_whole, turns_are, new_events_grown, grew, ts, pair_of, joined, Settled_after as settled_after, doer, doers}
use Rattle.segment_run.proofs.AnswerLemmas.{Octets, apart, are_answered, length-all_of, lists}

-- ---- a run that did nothing

over : {X : Type 0} (xs : List X) → drop (length xs) xs ≡ []
over [] = refl
over (x ∷ xs) = over xs

pub ran_none : (trace : Trace) (segment : ℕ) (v : SeatKnowledge) → Ran trace segment v v
ran_none trace segment v =
    let none : new_events v v ≡ [] = ap order_of (over v.seen) in
    record {
      begins = ([], sym (append-nil v.seen));
      only = subst (All (IsOfSegment trace segment)) (sym none) (in_all (IsOfSegment trace segment) [] (λ x i. absurd i));
      fronts = λ worker. (part_of trace segment worker, ap (λ (l : List ℕ). filter (is_its trace worker) l ++ part_of trace segment worker) (sym none));
      turns = let a = ap length none in omega (arith, a);
      few = omega arith;
    }

left_all : (c : SeatKnowledge) (ws : List SeatKnowledge) → (after_joins c ws).left ≡ c.left + sum_left ws
left_all c [] = omega arith
left_all c (w ∷ ws) = let h = left_all c ws in omega (arith, h)

-- ---- who does the frames of the growth

module _ (turns : ℕ) (trace : Trace) (segment : ℕ) (v k : SeatKnowledge) (rest : List Entry) (doers : List Doer) (before : Settled turns v) (after : Settled turns k) (j : Joined trace segment v k rest doers) where
  abbrev frames_of : Doer → Bool
  frames_of t = is_worker (worker_numbered trace.processors t.worker) Frame_worker

  frame_by : (e : Entry) → In e rest → IsFrame trace e.1 → (t : Doer) × In t doers × (e.0 ≡ t.from.number) × (frames_of t ≡ true)
  frame_by e i frame =
      let o = its_of turns trace segment v k rest doers before after j e i in
      let one = is_its_one_worker trace (worker_numbered trace.processors o.0.worker) Frame_worker e.1 o.1.its in
      (o.0, o.1.among, o.1.number, sym one ∙ frame_its trace e.1 frame)

  -- without a frame worker there are none
  no_frames : ((t : Doer) → In t doers → frames_of t ≡ false) → NoFrames trace rest
  no_frames none = in_all (λ (e : Entry). IsFrame trace e.1 → ⊥) rest (λ e i frame.
      let d = frame_by e i frame in
      let wrong : false ≡ true = sym (none d.0 d.1) ∙ d.3 in
      cc wrong)

  -- and behind what the frame worker has seen there are none
  no_frames_behind : (t : Doer) → In t doers → worker_numbered trace.processors t.worker ≡ Frame_worker → StartsWith t.to.seen t.from.seen
      → (t.from.own ≡ entries_of t.from.number t.from.seen → t.to.own ≡ entries_of t.to.number t.to.seen) → (s : StartsWith k.seen t.to.seen) → NoFrames trace s.0
  no_frames_behind t i is begins exact s =
      let n = t.from.number in
      let d = dealt_in trace segment v (v.made + 1) 0 doers j.dealt t i in
      let none : entries_of n v.seen ≡ [] = filter_none (λ (e : Entry). nat_eq e.0 n) v.seen (λ e h.
      let low = all_in (λ (x : Entry). x.0 ≤ v.made) v.seen before.entries_made e h in
      let a = d.since in
      let b = d.is.number_is in
      grind (arith, nat_tests, low, a, b)) in
      let was : t.from.own ≡ entries_of n t.from.seen = d.is.own_none ∙ (sym none ∙ ap (entries_of n) (sym d.is.seen_is)) in
      let mine : t.to.own ≡ entries_of n t.to.seen = exact was ∙ ap (λ (m : ℕ). entries_of m t.to.seen) (j.named t i) in
      let kept_it : In (joined_seat t.to) k.kept = subst (λ (l : List JoinedSeat). In (joined_seat t.to) l) (sym j.kept)
      (in_left (map (λ (u : Doer). joined_seat u.to) doers) v.kept (joined_seat t.to) (in_map (λ (u : Doer). joined_seat u.to) doers t i)) in
      let all_mine : t.to.own ≡ entries_of n k.seen =
      all_in (λ (x : JoinedSeat). x.own ≡ entries_of x.number k.seen) k.kept after.kept (joined_seat t.to) kept_it ∙ ap (λ (m : ℕ). entries_of m k.seen) (j.named t i) in
      let no_more : entries_of n s.0 ≡ [] = none_behind (entries_of n t.to.seen) (entries_of n k.seen) (entries_of n s.0) (sym mine ∙ all_mine) (ap (entries_of n) s.1 ∙ entries_split n t.to.seen s.0) in
      let from_v : t.to.seen ≡ v.seen ++ begins.0 = begins.1 ∙ ap (λ (l : List Entry). l ++ begins.0) d.is.seen_is in
      let longer : k.seen ≡ v.seen ++ (begins.0 ++ s.0) = s.1 ∙ (ap (λ (l : List Entry). l ++ s.0) from_v ∙ append_assoc v.seen begins.0 s.0) in
      let rest_is : begins.0 ++ s.0 ≡ rest = sym (unseen_front v.seen (begins.0 ++ s.0)) ∙ (ap (unseen v.seen) (sym longer ∙ j.grew) ∙ unseen_front v.seen rest) in
      in_all (λ (e : Entry). IsFrame trace e.1 → ⊥) s.0 (λ e h frame.
      let there : In e rest = subst (λ (l : List Entry). In e l) rest_is (in_right begins.0 s.0 e h) in
      let f = frame_by e there frame in
      let one : is_worker (worker_numbered trace.processors f.0.worker) (worker_numbered trace.processors t.worker) ≡ true = ap (is_worker (worker_numbered trace.processors f.0.worker)) is ∙ f.3 in
      let numbers : nat_eq f.0.from.number n ≡ true = sym (is_worker_alike trace segment v (v.made + 1) 0 doers j.dealt f.0 t f.1 i) ∙ one in
      let self : nat_eq e.0 n ≡ true = ap (λ (m : ℕ). nat_eq m n) f.2 ∙ numbers in
      subst (λ (l : List Entry). In e l) no_more (in_filter (λ (x : Entry). nat_eq x.0 n) s.0 e h self))

-- ---- the whole run

module _ {J U E : Type 0} (board : Board) (trace : Trace) (segment : ℕ) (wj : J → ℕ) (kj : J → SeatKnowledge) (ku : U → SeatKnowledge) (au : U → List Placed) (bu : U → Bool)
    (plays : Plays) (tones : Kind → List ℕ) (carries : Carrying E) (next : E → ℕ) (sizes : E → Dimensions) where
  abbrev IsReadyAt : List Entry → E → Tool → Type 0
  IsReadyAt = IsReady carries next sizes board

  abbrev jobs_of : List J → List (ℕ × SeatKnowledge)
  jobs_of js = map (λ (j : J). (wj j, kj j)) js

  abbrev Did_part : J → U → Type 0
  Did_part j u = Works board (part_numbered trace segment (wj j)) (kj j) (au u) (bu u) (ku u)

  abbrev Has_octets : J → U → Type 0
  Has_octets = Octets plays tones board trace segment wj kj ku au bu

  abbrev Is_ready : E → Tool → J → U → Type 0
  Is_ready engine tool j u = wj j ≡ trace.processors → IsReadyAt (ku u).seen engine tool

  -- what is known once all seats are joined: v was known before, c once the seats were made, and k is known now
  pub record Run (v c k : SeatKnowledge) (js : List J) (us : List U) (engine after : E) (tool later : Tool) : Type 0 where
    pub same : trace ≡ board.trace
    pub sound : IsSound trace
    pub within : segment < length trace.segments
    pub chief : IsChief (turns_of board) v
    pub ready : IsReadyAt v.seen engine tool
    pub few : length js ≤ 9
    pub dealt : AreDealt trace segment v (v.made + 1) 0 (jobs_of js)
    pub idle : (i : ℕ) → i ≤ trace.processors → All (λ (j : J). wj j ≢ i) js → load trace segment i ≡ 0
    pub seat : HasDealt v (length js) c
    pub baton : IsTrue (c.baton || any_baton (jobs_of js))
    pub turns : c.left + turns_left (jobs_of js) ≡ v.left
    pub all : turns_left (jobs_of js) ≡ loads_below trace segment (trace.processors + 1)
    pub works : AllZip Did_part js us
    pub octets : AllZip Has_octets js us
    pub readies : AllZip (Is_ready after later) js us
    pub idles : All (λ (j : J). wj j < trace.processors) js → (after ≡ engine) × (later ≡ tool)
    pub joins : k ≡ after_joins c (map ku us)
    pub begins : StartsWith k.seen c.seen
    pub fronts : All (λ (u : U). StartsWith k.seen (ku u).seen) us
    pub settled : 0 < length us → Settled (turns_of board) k

  module _ (v c k : SeatKnowledge) (js : List J) (us : List U) (engine after : E) (tool later : Tool) (r : Run v c k js us engine after tool later) where
    abbrev Extra : J → U → Type 0
    Extra j u = Has_octets j u × Is_ready after later j u

    z : AllZip (λ j u. Did_part j u × Extra j u) js us
    z = zip_and Did_part Extra js us r.works (zip_and Has_octets (Is_ready after later) js us r.octets r.readies)

    abbrev growth : List Entry
    growth = r.begins.0

    abbrev all_doers : List Doer
    all_doers = ts board trace segment wj kj ku au bu Extra (turns_of board) v c k js us z r.chief r.seat r.dealt r.baton r.turns r.joins r.begins r.settled r.few

    all_joined : Joined trace segment v k growth all_doers
    all_joined = joined board trace segment wj kj ku au bu Extra (turns_of board) v c k js us z r.chief r.seat r.dealt r.baton r.turns r.joins r.begins r.settled r.few

    all_settled : Settled (turns_of board) k
    all_settled = settled_after board trace segment wj kj ku au bu Extra (turns_of board) v c k js us z r.chief r.seat r.dealt r.baton r.turns r.joins r.begins r.settled r.few

    it_grew : k.seen ≡ v.seen ++ growth
    it_grew = grew board trace segment wj kj ku au bu Extra (turns_of board) v c k js us z r.chief r.seat r.dealt r.baton r.turns r.joins r.begins r.settled r.few

    it_grew_by : new_events v k ≡ order_of growth
    it_grew_by = new_events_grown board trace segment wj kj ku au bu Extra (turns_of board) v c k js us z r.chief r.seat r.dealt r.baton r.turns r.joins r.begins r.settled r.few

    turns_taken : k.left + length growth ≡ v.left
    turns_taken = turns_are board trace segment wj kj ku au bu Extra (turns_of board) v c k js us z r.chief r.seat r.dealt r.baton r.turns r.joins r.begins r.settled r.few

    pub run_chief : IsChief (turns_of board) k
    run_chief = still_chief board trace segment wj kj ku au bu Extra (turns_of board) v c k js us z r.chief r.seat r.dealt r.baton r.turns r.joins r.begins r.settled r.few

    pub run_ran : Ran trace segment v k
    run_ran = ran board trace segment wj kj ku au bu Extra (turns_of board) v c k js us z r.chief r.seat r.dealt r.baton r.turns r.joins r.begins r.settled r.few

    -- ---- the engine

    job_done : (xs : List J) (ys : List U) (y : AllZip (λ j u. Did_part j u × Extra j u) xs ys) (j : J) → In j xs
        → (t : Doer) × In t (doers board trace segment wj kj ku au bu Extra xs ys y) × (t.worker ≡ wj j)
    job_done [] ys y j i = absurd i
    job_done (x ∷ xs) [] y j i = absurd y
    job_done (x ∷ xs) (u ∷ ys) y j (inl same) = (doer board trace segment wj kj ku au bu Extra x u y.0, inl refl, ap wj same)
    job_done (x ∷ xs) (u ∷ ys) y j (inr more) = let d = job_done xs ys y.1 j more in (d.0, inr d.1, d.2)

    ready_with : (t : Doer) → In t all_doers → worker_numbered trace.processors t.worker ≡ Frame_worker → IsReadyAt k.seen after later
    ready_with t i is =
        let p = pair_of board trace segment wj kj ku au bu Extra js us z t i in
        let d = dealt_in trace segment v (v.made + 1) 0 all_doers all_joined.dealt t i in
        let few : wj p.j ≤ trace.processors = subst (λ (x : Doer). x.worker ≤ trace.processors) p.is d.few in
        let frames : worker_numbered trace.processors (wj p.j) ≡ Frame_worker = ap (λ (x : Doer). worker_numbered trace.processors x.worker) (sym p.is) ∙ is in
        let last : wj p.j ≡ trace.processors = at_last (wj p.j) few frames (cases_lt (wj p.j) trace.processors) in
        let front : StartsWith k.seen (ku p.u).seen = all_in (λ (u : U). StartsWith k.seen (ku u).seen) us r.fronts p.u p.out in
        let begins = subst (λ (x : Doer). StartsWith x.to.seen x.from.seen) (sym p.is) p.each.0.did.begins in
        let exact = subst (λ (x : Doer). x.from.own ≡ entries_of x.from.number x.from.seen → x.to.own ≡ entries_of x.to.number x.to.seen) (sym p.is) p.each.0.did.exact in
        let to_is : ku p.u ≡ t.to = ap (λ (x : Doer). x.to) (sym p.is) in
        let front_t : StartsWith k.seen t.to.seen = subst (λ (w : SeatKnowledge). StartsWith k.seen w.seen) to_is front in
        let ready_t : IsReadyAt t.to.seen after later = subst (λ (w : SeatKnowledge). IsReadyAt w.seen after later) to_is (p.each.1.1 last) in
        let none = no_frames_behind (turns_of board) trace segment v k growth all_doers r.chief.settled all_settled all_joined t i is begins exact front_t in
        still_ready carries next sizes board t.to.seen k.seen after later front_t (subst (λ (x : Trace). NoFrames x front_t.0) r.same none) ready_t
      where
        at_last : (n : ℕ) → n ≤ trace.processors → worker_numbered trace.processors n ≡ Frame_worker → (n < trace.processors) ⊎ (trace.processors ≤ n) → n ≡ trace.processors
        at_last n few frames (inl inside) =
            let e : true ≡ false = ap (λ (w : Worker). is_worker w Frame_worker) (sym frames ∙ numbered_processor trace.processors n inside) in
            absurd (cc e)
        at_last n few frames (inr past) = omega (arith, few, past)

    ready_without : ((t : Doer) → In t all_doers → is_worker (worker_numbered trace.processors t.worker) Frame_worker ≡ false) → IsReadyAt k.seen after later
    ready_without none =
        let inside : All (λ (j : J). wj j < trace.processors) js = in_all (λ (j : J). wj j < trace.processors) js (λ j i. let d = job_done js us z j i in below (wj j) (ap (λ (n : ℕ). is_worker (worker_numbered trace.processors n) Frame_worker) (sym d.2) ∙ none d.0 d.1) (cases_lt (wj j) trace.processors)) in
        let idle = r.idles inside in
        let no_more = no_frames (turns_of board) trace segment v k growth all_doers r.chief.settled all_settled all_joined none in
        let begun : StartsWith k.seen v.seen = (growth, it_grew) in
        subst (λ (x : Tool). IsReadyAt k.seen after x) (sym idle.1)
        (subst (λ (x : E). IsReadyAt k.seen x tool) (sym idle.0)
        (still_ready carries next sizes board v.seen k.seen engine tool begun (subst (λ (x : Trace). NoFrames x growth) r.same no_more) r.ready))
      where
        below : (n : ℕ) → is_worker (worker_numbered trace.processors n) Frame_worker ≡ false → (n < trace.processors) ⊎ (trace.processors ≤ n) → n < trace.processors
        below n off (inl inside) = inside
        below n off (inr past) =
            let e : true ≡ false = ap (λ (w : Worker). is_worker w Frame_worker) (sym (numbered_frames trace.processors n past)) ∙ off in
            absurd (cc e)

    pub run_ready : IsReadyAt k.seen after later
    run_ready = go (doer_of_worker trace.processors Frame_worker all_doers)
      where
        go : ((t : Doer) × In t all_doers × (worker_numbered trace.processors t.worker ≡ Frame_worker)) ⊎ ((t : Doer) → In t all_doers → is_worker (worker_numbered trace.processors t.worker) Frame_worker ≡ false) → IsReadyAt k.seen after later
        go (inl t) = ready_with t.0 t.1 t.2
        go (inr none) = ready_without none

    -- ---- where all was done

    none_over : (n low : ℕ) (xs : List J) (ys : List U) → AllZip Did_part xs ys → AreDealt trace segment v n low (jobs_of xs) → All (λ (u : U). IsTrue (bu u)) ys → sum_left (map ku ys) ≡ 0
    none_over n low [] [] y d whole = refl
    none_over n low [] (u ∷ ys) y d whole = absurd y
    none_over n low (j ∷ xs) [] y d whole = absurd y
    none_over n low (j ∷ xs) (u ∷ ys) y d whole =
        let w = y.0 in
        let given = ap length (w.all (whole 0 u (omega arith))) in
        let told = ap length w.told.1 in
        let told_long = length-append (answered_events (au u)) w.told.0 in
        let first = ap length w.first.1 in
        let first_long = length-append w.done w.first.0 in
        let turns = w.did.turns in
        let dealt = d.2.turns_are in
        let tail = none_over (n + 1) (wj j + 1) xs ys y.1 d.3 (λ i x h. whole (suc i) x (omega (arith, h))) in
        omega (arith, given, told, told_long, first, first_long, turns, dealt, tail)

    module _ (whole : All (λ (u : U). IsTrue (bu u)) us) where
      pub run_whole : RanWhole trace segment v k
      run_whole =
          let some_one = r.sound.processors.0 in
          ran_whole board trace segment wj kj ku au bu Extra (turns_of board) v c k js us z r.chief r.seat r.dealt r.baton r.turns r.joins r.begins r.settled r.few
          (omega (arith, some_one)) whole (λ i le free. r.idle i le (in_all (λ (j : J). wj j ≢ i) js free))

      size : length growth ≡ turns_left (jobs_of js)
      size =
          let a = left_all c (map ku us) in
          let b = none_over (v.made + 1) 0 js us r.works r.dealt whole in
          let d = ap (λ (x : SeatKnowledge). x.left) r.joins in
          let e = turns_taken in
          let f = r.turns in
          omega (arith, a, b, d, e, f)

      pub run_size : length growth ≡ length (events_of_segment trace segment)
      run_size =
          let some_one = r.sound.processors.0 in
          size ∙ (r.all ∙ loads_all trace segment (omega (arith, some_one)) r.sound.segments r.within)

      pub run_long : length k.seen ≡ length v.seen + length (events_of_segment trace segment)
      run_long = let a = ap length it_grew in let b = length-append v.seen growth in let d = run_size in omega (arith, a, b, d)

      abbrev all_answers : List (List Placed)
      all_answers = lists plays tones board trace segment wj kj ku au bu r.same v k us

      zipped : AllZip (λ j u. Did_part j u × Has_octets j u) js us
      zipped = zip_and Did_part Has_octets js us r.works r.octets

      pub run_apart : AreApart all_answers
      run_apart = apart plays tones board trace segment wj kj ku au bu r.same v k (v.made + 1) 0 js us zipped r.dealt r.fronts

      pub length-all_of_run : length (all_of all_answers) ≡ length (events_of_segment trace segment)
      length-all_of_run = length-all_of plays tones board trace segment wj kj ku au bu r.same v k (v.made + 1) 0 js us zipped r.dealt whole ∙ (sym size ∙ run_size)

      pub run_answered : (m : List Placed) → IsMerged all_answers m → AreAnswered plays tones board v k (map (λ (p : Placed). p.answer) m)
      run_answered m merged =
          are_answered plays tones board trace segment wj kj ku au bu r.same v k growth it_grew it_grew_by (v.made + 1) 0 js us zipped r.dealt r.fronts
          (length-all_of_run ∙ sym run_size) m merged

-- ---- before the workers start

module _ {J : Type 0} (trace : Trace) (segment : ℕ) (wj : J → ℕ) (kj : J → SeatKnowledge) (v : SeatKnowledge) where
  seen_same : (n low : ℕ) (js : List J) → AreDealt trace segment v n low (map (λ (j : J). (wj j, kj j)) js) → (j : J) → In j js → (kj j).seen ≡ v.seen
  seen_same n low [] d j i = absurd i
  seen_same n low (x ∷ js) d j (inl same) = subst (λ (y : J). (kj y).seen ≡ v.seen) same d.2.seen_is
  seen_same n low (x ∷ js) d j (inr more) = seen_same (n + 1) (wj x + 1) js d.3 j more

  -- what holds of the history that seat 0 has seen holds of each new seat's
  pub each_at : (P : List Entry → Type 0) (n low : ℕ) (js : List J) → AreDealt trace segment v n low (map (λ (j : J). (wj j, kj j)) js) → P v.seen → All (λ (j : J). P (kj j).seen) js
  each_at P n low js d here = in_all (λ (j : J). P (kj j).seen) js (λ j i. subst P (sym (seen_same n low js d j i)) here)

-- seat 0 has a turn for each event that the workers have to do
pub loads_below_enough_turns : (trace : Trace) (segment : ℕ) (left : ℕ) → IsSound trace → segment < length trace.segments → length (events_of_segment trace segment) ≤ left
    → loads_below trace segment (trace.processors + 1) ≤ left
loads_below_enough_turns trace segment left sound within turns =
    let some_one = sound.processors.0 in
    let all = loads_all trace segment (omega (arith, some_one)) sound.segments within in
    omega (arith, all, turns)
