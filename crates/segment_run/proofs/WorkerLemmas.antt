-- The call processors and the frame worker side by side: what each may ask of the jobs that were dealt, and what comes of all of them.
use Rattle.std.proofs.Common.{◌≡◌, ℕ, ◌+◌, ◌<◌, ◌≤◌, inl, inr, Bool, List, [], ◌∷◌, ◌++◌, map, length, refl, sym, ap, subst, arith}
use Rattle.std.specs.List.{All, AllZip}
use Rattle.std.proofs.lemmas.List.Elements.{All-push}
use Rattle.exchange_events.specs.declared.trace.Trace.{Trace}
use Rattle.exchange_events.specs.Orders.{Worker, Processor, Frame_worker}
use Rattle.seat_history.specs.declared.seat_knowledge.SeatKnowledge.{SeatKnowledge}
use Rattle.exchange_core.specs.Boards.{Board}
use Rattle.call_processor.specs.declared.worked.Placed.{Placed}
use Rattle.call_processor.specs.Frames.{HasFrame, Plays}
use Rattle.call_processor.specs.Keeping.{KeepsWork, has_no_octets}
use Rattle.call_processor.specs.Parts.{part_of}
use Rattle.circuit_model.specs.declared.circuit.Kind.{Kind}
use Rattle.segment_run.specs.Jobs.{HasItsOctets}
use Rattle.call_processor.specs.Work.{MayWork, Works}
use Rattle.segment_run.specs.Workers.{AreDealt, load, worker_numbered}
use Rattle.segment_run.proofs.ListLemmas.{In, all_in, in_all, in_left, in_right}
use Rattle.segment_run.proofs.DoerLemmas.{numbered_frames, numbered_processor}
use Rattle.segment_run.proofs.RunLemmas.{zip_map, zip_more}

module _ {J : Type 0} (trace : Trace) (segment : ℕ) (worker : J → ℕ) (known : J → SeatKnowledge) where
  abbrev pub dealt_to : List J → List (ℕ × SeatKnowledge)
  dealt_to js = map (λ (j : J). (worker j, known j)) js

  -- what is known of a job that was dealt
  pub record IsDealt (low : ℕ) (j : J) : Type 0 where
    pub from_low : low ≤ worker j
    pub few : worker j ≤ trace.processors
    pub turns : (known j).left ≡ load trace segment (worker j)

  pub each_dealt : (v : SeatKnowledge) (n low : ℕ) (js : List J) → AreDealt trace segment v n low (dealt_to js) → (j : J) → In j js → IsDealt low j
  each_dealt v n low [] d j i = absurd i
  each_dealt v n low (u ∷ js) d j (inl same) = subst (IsDealt low) same (record { from_low = d.0; few = d.1; turns = d.2.turns_are })
  each_dealt v n low (u ∷ js) d j (inr more) =
      let r = each_dealt v (n + 1) (worker u + 1) js d.3 j more in
      let a = r.from_low in
      let b = d.0 in
      record { from_low = omega (arith, a, b); few = r.few; turns = r.turns }

  -- the workers' numbers rise, so all are below the last one's
  pub below_last : (v : SeatKnowledge) (n low : ℕ) (js : List J) (x : J) → AreDealt trace segment v n low (dealt_to (js ++ x ∷ [])) → (j : J) → In j js → worker j < worker x
  below_last v n low [] x d j i = absurd i
  below_last v n low (u ∷ js) x d j (inl same) =
      let r = each_dealt v (n + 1) (worker u + 1) (js ++ x ∷ []) d.3 x (in_right js (x ∷ []) x (inl refl)) in
      let a = r.from_low in
      let b : worker u < worker x = omega (arith, a) in
      subst (λ (y : J). worker y < worker x) same b
  below_last v n low (u ∷ js) x d j (inr more) = below_last v (n + 1) (worker u + 1) js x d.3 j more

  pub last_dealt : (v : SeatKnowledge) (n : ℕ) (js : List J) (x : J) → AreDealt trace segment v n 0 (dealt_to (js ++ x ∷ [])) → IsDealt 0 x
  last_dealt v n js x d = each_dealt v n 0 (js ++ x ∷ []) d x (in_right js (x ∷ []) x (inl refl))

  abbrev pub HasTurns : J → Type 0
  HasTurns j = length (part_of trace segment (Processor (worker j))) ≤ (known j).left

  -- where the trace is the board's, each may do its part
  pub they_may : (board : Board) → trace ≡ board.trace → segment < length trace.segments → (js : List J) → All (λ j. worker j < trace.processors) js → All HasTurns js
      → All (λ j. (worker j < trace.processors) × MayWork board trace segment (Processor (worker j)) (known j)) js
  they_may board same within js below turns = λ k d h. (below k d h, record { trace_is = same; within = within; turns = turns k d h })

  processor_may : (j : J) → worker j < trace.processors → (known j).left ≡ load trace segment (worker j) → HasTurns j
  processor_may j below turns =
      let same : load trace segment (worker j) ≡ length (part_of trace segment (Processor (worker j))) = ap (λ (w : Worker). length (part_of trace segment w)) (numbered_processor trace.processors (worker j) below) in
      omega (arith, turns, same)

  -- a last job of a call processor: all are
  pub record Processors (js : List J) (x : J) : Type 0 where
    pub numbers : All (λ j. worker j < trace.processors) js
    pub turn : HasTurns x
    pub turns : All HasTurns js
    pub all : All (λ j. worker j < trace.processors) (js ++ x ∷ [])

  -- a last job of the frame worker: all others are of call processors
  pub record Frames (js : List J) (x : J) : Type 0 where
    pub is : worker x ≡ trace.processors
    pub frames : length (part_of trace segment Frame_worker) ≤ (known x).left
    pub numbers : All (λ j. worker j < trace.processors) js
    pub turns : All HasTurns js

  module _ (jobs js : List J) (x : J) (same : jobs ≡ js ++ x ∷ []) (dealt : (v : SeatKnowledge) × (n : ℕ) × AreDealt trace segment v n 0 (dealt_to jobs)) where
    those : AreDealt trace segment dealt.0 dealt.1 0 (dealt_to (js ++ x ∷ []))
    those = subst (λ (l : List J). AreDealt trace segment dealt.0 dealt.1 0 (dealt_to l)) same dealt.2

    last : IsDealt 0 x
    last = last_dealt dealt.0 dealt.1 js x those

    lower : worker x ≤ trace.processors → (j : J) → In j js → worker j < trace.processors
    lower most j i = let a = below_last dealt.0 dealt.1 0 js x those j i in omega (arith, a, most)

    each_may : worker x ≤ trace.processors → (j : J) → In j js → HasTurns j
    each_may most j i = processor_may j (lower most j i) (each_dealt dealt.0 dealt.1 0 (js ++ x ∷ []) those j (in_left js (x ∷ []) j i)).turns

    pub processors_may : worker x < trace.processors → Processors js x
    processors_may below =
        let most : worker x ≤ trace.processors = omega (arith, below) in
        let numbers : All (λ j. worker j < trace.processors) js = in_all (λ j. worker j < trace.processors) js (lower most) in
        record {
          numbers = numbers;
          turn = processor_may x below last.turns;
          turns = in_all HasTurns js (each_may most);
          all = All-push (λ j. worker j < trace.processors) js x numbers below;
        }

    pub frames_may : trace.processors ≤ worker x → Frames js x
    frames_may past =
        let few = last.few in
        let turns = last.turns in
        let mine : load trace segment (worker x) ≡ length (part_of trace segment Frame_worker) = ap (λ (w : Worker). length (part_of trace segment w)) (numbered_frames trace.processors (worker x) past) in
        record {
          is = omega (arith, few, past);
          frames = omega (arith, turns, mine);
          numbers = in_all (λ j. worker j < trace.processors) js (lower few);
          turns = in_all HasTurns js (each_may few);
        }

  -- ---- what comes of them

  module _ {U : Type 0} (R S : J → U → Type 0) where
    -- nothing is asked of call processors that is asked of the frame worker alone
    pub no_frames : (jobs js : List J) (us : List U) → jobs ≡ js → All (λ j. worker j < trace.processors) js → AllZip R js us → AllZip (λ j u. worker j ≡ trace.processors → S j u) jobs us
    no_frames jobs js us same below z =
        subst (λ (l : List J). AllZip (λ j u. worker j ≡ trace.processors → S j u) l us) (sym same)
        (zip_map R (λ j u. worker j ≡ trace.processors → S j u) js us
        (λ j u i r e. let a = all_in (λ j. worker j < trace.processors) js below j i in absurd (omega (arith, a, e)))
        z)

module _ {A B : Type 0} (R : A → B → Type 0) where
  -- two lists side by side, and one more of each
  pub zip_last : (all xs : List A) (x : A) (most ys : List B) (y : B) → all ≡ xs ++ x ∷ [] → most ≡ ys ++ y ∷ [] → AllZip R xs ys → R x y → AllZip R all most
  zip_last all xs x most ys y e f z r = subst (λ (l : List A). AllZip R l most) (sym e) (subst (λ (l : List B). AllZip R (xs ++ x ∷ []) l) (sym f) (zip_more R xs ys x y z r))

-- ---- what the workers with these jobs kept

module _ {J U K : Type 0} (holds : K → List Placed → Type 0) (plays : Plays) (tones : Kind → List ℕ) (board : Board) (trace : Trace) (segment : ℕ) (worker : J → ℕ) (known : J → SeatKnowledge) (after : U → SeatKnowledge) (sink : U → K) (whole : U → Bool) where
  abbrev Kept_as : (ℕ → Worker) → (ℕ → SeatKnowledge → Placed → Type 0) → J → U → Type 0
  Kept_as as_worker said j u = KeepsWork holds board (said (worker j)) (part_of trace segment (as_worker (worker j))) (known j) (sink u) (whole u) (after u)

  abbrev Numbered : J → U → Type 0
  Numbered = Kept_as (worker_numbered trace.processors) (HasItsOctets plays tones board trace)

  -- what a call processor did is what the worker with its number did
  kept_one : (j : J) (u : U) → worker j < trace.processors → Kept_as Processor (λ n w. has_no_octets) j u → Numbered j u
  kept_one j u below r = record {
    answers = r.answers;
    held = r.held;
    works = subst (λ (x : Worker). Works board (part_of trace segment x) (known j) r.answers (whole u) (after u)) (sym (numbered_processor trace.processors (worker j) below)) r.works;
    said = λ k d within. ((λ e. absurd (omega (arith, below, e))), λ lt. r.said k d within);
  }

  pub kept_numbered : (jobs js : List J) (us : List U) → jobs ≡ js → All (λ j. worker j < trace.processors) js → AllZip (Kept_as Processor (λ n w. has_no_octets)) js us → AllZip Numbered jobs us
  kept_numbered jobs js us same below z =
      subst (λ (l : List J). AllZip Numbered l us) (sym same)
      (zip_map (Kept_as Processor (λ n w. has_no_octets)) Numbered js us (λ j u i r. kept_one j u (all_in (λ j. worker j < trace.processors) js below j i) r) z)

  -- and so with the frame worker
  pub kept_frames : (x : J) (u : U) → trace.processors ≤ worker x → KeepsWork holds board (HasFrame plays tones board) (part_of trace segment Frame_worker) (known x) (sink u) (whole u) (after u) → Numbered x u
  kept_frames x u past r = record {
    answers = r.answers;
    held = r.held;
    works = subst (λ (k : Worker). Works board (part_of trace segment k) (known x) r.answers (whole u) (after u)) (sym (numbered_frames trace.processors (worker x) past)) r.works;
    said = λ k d within. ((λ e. r.said k d within), λ lt. absurd (omega (arith, past, lt)));
  }
