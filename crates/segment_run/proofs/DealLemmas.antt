-- Seats dealt to the workers one after another.
use Rattle.std.proofs.Common.{◌≡◌, ◌≢◌, ℕ, zero, suc, ◌+◌, ◌<◌, ◌≤◌, inl, inr, ◌||◌, Bool, true, false, IsTrue, if◌then◌else◌, List, [], ◌∷◌, ◌++◌, map, length, refl, sym, ap, ◌∙◌, subst, arith, length-append}
use Rattle.std.specs.Prelude.{nat_eq}
use Rattle.std.specs.List.{All}
use Rattle.std.proofs.lemmas.Bool.{cases_lt}
use Rattle.std.proofs.lemmas.Bool.Decides.{nat_tests}
use Rattle.std.proofs.lemmas.List.{map-append}
use Rattle.std.proofs.lemmas.List.Elements.{All-push}
use Rattle.exchange_events.specs.declared.trace.Trace.{Trace}
use Rattle.seat_history.specs.declared.seat_knowledge.SeatKnowledge.{SeatKnowledge}
use Rattle.seat_history.specs.Seats.{after_split, new_seat}
use Rattle.segment_run.specs.Workers.{AreDealt, HasDealt, IsNew, any_baton, load, loads_below, turns_left}
use Rattle.segment_run.proofs.ListLemmas.{all_front, all_last}
use Rattle.segment_run.proofs.LoadLemmas.{loads_grow, loads_more, loads_none}

turns_more : (js : List (ℕ × SeatKnowledge)) (i : ℕ) (w : SeatKnowledge) → turns_left (js ++ (i, w) ∷ []) ≡ turns_left js + w.left
turns_more [] i w = omega arith
turns_more (j ∷ js) i w = let h = turns_more js i w in omega (arith, h)

-- one baton more: it is held here, or there
or_none : (b : Bool) → (b || false) ≡ (false || b)
or_none true = refl
or_none false = refl

or_first : (a b c d : Bool) → a ≡ (b || c) → (d || a) ≡ ((d || b) || c)
or_first a b c true h = refl
or_first a b c false h = h

any_more : (js : List (ℕ × SeatKnowledge)) (i : ℕ) (w : SeatKnowledge) → any_baton (js ++ (i, w) ∷ []) ≡ (any_baton js || w.baton)
any_more [] i w = or_none w.baton
any_more (j ∷ js) i w = or_first (any_baton (js ++ (i, w) ∷ [])) (any_baton js) w.baton j.1.baton (any_more js i w)

-- the baton is still there, whoever gets it
still_held : (k a b : Bool) → IsTrue (k || a) → (b ≡ true → IsTrue k) → IsTrue ((if b then false else k) || (a || b))
still_held true true true h g = h
still_held true true false h g = h
still_held true false true h g = h
still_held true false false h g = h
still_held false true true h g = h
still_held false true false h g = h
still_held false false true h g = refl
still_held false false false h g = h

kept_unless : (k b : Bool) → b ≡ false → IsTrue k → IsTrue (if b then false else k)
kept_unless k true e h = absurd (cc e)
kept_unless k false e h = h

is_same : (a b : ℕ) → a ≡ b → nat_eq a b ≡ true
is_same a b e = grind (arith, nat_tests, e)

is_other : (a b : ℕ) → a ≢ b → nat_eq a b ≡ false
is_other a b e = grind (arith, nat_tests, e)

held_alone : (b : Bool) → IsTrue b → IsTrue (b || false)
held_alone true h = h
held_alone false h = h

dealt_more : (trace : Trace) (segment : ℕ) (v : SeatKnowledge) (n low : ℕ) (js : List (ℕ × SeatKnowledge)) (i : ℕ) (w : SeatKnowledge) → AreDealt trace segment v n low js
    → All (λ (j : ℕ × SeatKnowledge). j.0 < i) js → low ≤ i → i ≤ trace.processors → IsNew v (n + length js) (load trace segment i) w → AreDealt trace segment v n low (js ++ (i, w) ∷ [])
dealt_more trace segment v n low [] i w d below high le is =
    (high, le, subst (λ (m : ℕ). IsNew v m (load trace segment i) w) (omega arith) is, tt)
dealt_more trace segment v n low (j ∷ js) i w d below high le is =
    let here = below 0 j (omega arith) in
    let same : n + length (j ∷ js) ≡ (n + 1) + length js = omega arith in (
      d.0,
      d.1,
      d.2,
      dealt_more trace segment v (n + 1) (j.0 + 1) js i w d.3 (λ m x h. below (suc m) x (omega (arith, h))) (omega (arith, here)) le
          (subst (λ (m : ℕ). IsNew v m (load trace segment i) w) same is),
    )

module _ {J : Type 0} (number : J → ℕ) (known : J → SeatKnowledge) (trace : Trace) (segment : ℕ) (v : SeatKnowledge) where
  abbrev pub seats : List J → List (ℕ × SeatKnowledge)
  seats js = map (λ (j : J). (number j, known j)) js

  all_mapped : (i : ℕ) (js : List J) → All (λ (j : J). number j < i) js → All (λ (j : ℕ × SeatKnowledge). j.0 < i) (seats js)
  all_mapped i [] a k d h = absurd (omega (arith, h))
  all_mapped i (j ∷ js) a zero d h = a 0 j (omega arith)
  all_mapped i (j ∷ js) a (suc k) d h = all_mapped i js (λ m x within. a (suc m) x (omega (arith, within))) k d (omega (arith, h))

  long_seats : (js : List J) → length (seats js) ≡ length js
  long_seats [] = refl
  long_seats (j ∷ js) = ap suc (long_seats js)

  -- what is dealt once the workers below i have their seats, and k is what seat 0 knows
  pub record Dealing (i : ℕ) (js : List J) (k : SeatKnowledge) : Type 0 where
    pub below : All (λ (j : J). number j < i) js
    pub dealt : AreDealt trace segment v (v.made + 1) 0 (seats js)
    pub idle : (n : ℕ) → n < i → All (λ (j : J). number j ≢ n) js → load trace segment n ≡ 0
    pub chief : HasDealt v (length js) k
    pub still : i ≤ trace.processors → IsTrue k.baton
    pub baton : IsTrue (k.baton || any_baton (seats js))
    pub frames : All (λ (j : J). number j ≡ trace.processors → IsTrue (known j).baton) js
    pub turns : k.left + turns_left (seats js) ≡ v.left
    pub all : turns_left (seats js) ≡ loads_below trace segment i

  -- so by equal jobs, and by what seat 0 knows where it is the same
  pub dealing_moved : (i : ℕ) (js others : List J) (k after : SeatKnowledge) → others ≡ js → after ≡ k → Dealing i js k → Dealing i others after
  dealing_moved i js others k after same is d = rw (same, is) d

  -- no worker has a seat yet
  pub none_yet : (js : List J) → js ≡ [] → IsTrue v.baton → Dealing 0 js v
  none_yet js none held = subst (λ (l : List J). Dealing 0 l v) (sym none) (record {
    below = λ k d h. absurd (omega (arith, h));
    dealt = tt;
    idle = λ n h a. absurd (omega (arith, h));
    chief = record { number = refl; seen = refl; own = refl; kept = refl; made = omega arith };
    still = λ h. held;
    baton = held_alone v.baton held;
    frames = λ k d h. absurd (omega (arith, h));
    turns = omega arith;
    all = sym (loads_none trace segment);
  })

  -- seat 0 has a turn for each event of the next worker
  pub load_enough : (i : ℕ) (js : List J) (k : SeatKnowledge) → i ≤ trace.processors → k.left + turns_left (seats js) ≡ v.left → turns_left (seats js) ≡ loads_below trace segment i
      → loads_below trace segment (trace.processors + 1) ≤ v.left → load trace segment i ≤ k.left
  load_enough i js k le turns all few =
      let more = loads_more trace segment i in
      let grow = loads_grow trace segment (i + 1) (trace.processors + 1) (omega (arith, le)) in
      omega (arith, turns, all, few, more, grow)

  -- the worker has nothing to do
  pub none_dealt : (i : ℕ) (js : List J) (k : SeatKnowledge) → load trace segment i ≡ 0 → Dealing i js k → Dealing (i + 1) js k
  none_dealt i js k none d = record {
    below = λ m x h. let a = d.below m x h in omega (arith, a);
    dealt = d.dealt;
    idle = idle_one;
    chief = d.chief;
    still = λ h. d.still (omega (arith, h));
    baton = d.baton;
    frames = d.frames;
    turns = d.turns;
    all = let a = d.all in let b = loads_more trace segment i in omega (arith, a, b, none);
  }
    where
      idle_one : (n : ℕ) → n < i + 1 → All (λ (j : J). number j ≢ n) js → load trace segment n ≡ 0
      idle_one n h away =
          elim (cases_lt n i) [
            | inl below ↦ d.idle n below away
            | inr past ↦ let same : n ≡ i = omega (arith, h, past) in ap (load trace segment) same ∙ none
          ]

  -- the worker gets a seat
  pub one_dealt : (i turns : ℕ) (b : Bool) (js : List J) (j : J) (k after : SeatKnowledge) → i ≤ trace.processors → turns ≡ load trace segment i → number j ≡ i → turns ≤ k.left
      → b ≡ nat_eq i trace.processors → after ≡ after_split turns b k → known j ≡ new_seat turns b k → Dealing i js k → Dealing (i + 1) (js ++ j ∷ []) after
  one_dealt i turns b js j k after le is_load mine enough_left is_last old new d = record {
    below = All-push (λ (x : J). number x < i + 1) js j (λ m x h. let a = d.below m x h in omega (arith, a)) (omega (arith, mine));
    dealt = subst (AreDealt trace segment v (v.made + 1) 0) (sym seats_more)
        (dealt_more trace segment v (v.made + 1) 0 (seats js) (number j) (known j) d.dealt
        (subst (λ (n : ℕ). All (λ (x : ℕ × SeatKnowledge). x.0 < n) (seats js)) (sym mine) (all_mapped i js d.below))
        (omega arith) (omega (arith, mine, le))
        (record { number_is = number_new; turns_are = left_new ∙ (is_load ∙ ap (load trace segment) (sym mine)); seen_is = seen_new; own_none = ap (λ (w : SeatKnowledge). w.own) new }));
    idle = idle_one;
    chief = record {
      number = ap (λ (w : SeatKnowledge). w.number) old ∙ d.chief.number;
      seen = ap (λ (w : SeatKnowledge). w.seen) old ∙ d.chief.seen;
      own = ap (λ (w : SeatKnowledge). w.own) old ∙ d.chief.own;
      kept = ap (λ (w : SeatKnowledge). w.kept) old ∙ d.chief.kept;
      made = let a = ap (λ (w : SeatKnowledge). w.made) old in let m = d.chief.made in let l = length-append js (j ∷ []) in omega (arith, a, m, l);
    };
    still = λ h. subst IsTrue (sym baton_old) (kept_unless k.baton b (is_last ∙ is_other i trace.processors (λ e. omega (arith, e, h))) (d.still le));
    baton = subst IsTrue (sym (ap (λ (x : Bool). x || any_baton (seats (js ++ j ∷ []))) baton_old ∙ ap (λ (x : Bool). (if b then false else k.baton) || x) baton_more))
        (still_held k.baton (any_baton (seats js)) b d.baton (λ e. d.still le));
    frames = All-push (λ (x : J). number x ≡ trace.processors → IsTrue (known x).baton) js j d.frames
        (λ e. subst IsTrue (sym baton_new) (is_last ∙ is_same i trace.processors (omega (arith, e, mine))));
    turns =
        let a = ap (λ (w : SeatKnowledge). w.left) old in
        let s = turns_all in
        let t = d.turns in
        omega (arith, a, s, t, left_new, enough_left);
    all =
        let s = turns_all in
        let t = d.all in
        let m = loads_more trace segment i in
        omega (arith, s, t, m, left_new, is_load);
  }
    where
      seats_more : seats (js ++ j ∷ []) ≡ seats js ++ (number j, known j) ∷ []
      seats_more = map-append (λ (x : J). (number x, known x)) js (j ∷ [])

      left_new : (known j).left ≡ turns
      left_new = ap (λ (w : SeatKnowledge). w.left) new

      baton_new : (known j).baton ≡ b
      baton_new = ap (λ (w : SeatKnowledge). w.baton) new

      baton_old : after.baton ≡ (if b then false else k.baton)
      baton_old = ap (λ (w : SeatKnowledge). w.baton) old

      seen_new : (known j).seen ≡ v.seen
      seen_new = ap (λ (w : SeatKnowledge). w.seen) new ∙ d.chief.seen

      number_new : (known j).number ≡ (v.made + 1) + length (seats js)
      number_new = let a = ap (λ (w : SeatKnowledge). w.number) new in let m = d.chief.made in let l = long_seats js in omega (arith, a, m, l)

      baton_more : any_baton (seats (js ++ j ∷ [])) ≡ (any_baton (seats js) || b)
      baton_more = ap any_baton seats_more ∙ (any_more (seats js) (number j) (known j) ∙ ap (λ (x : Bool). any_baton (seats js) || x) baton_new)

      turns_all : turns_left (seats (js ++ j ∷ [])) ≡ turns_left (seats js) + (known j).left
      turns_all = ap turns_left seats_more ∙ turns_more (seats js) (number j) (known j)

      idle_one : (n : ℕ) → n < i + 1 → All (λ (x : J). number x ≢ n) (js ++ j ∷ []) → load trace segment n ≡ 0
      idle_one n h away =
          elim (cases_lt n i) [
            | inl below ↦ d.idle n below (all_front (λ (x : J). number x ≢ n) js j away)
            | inr past ↦ absurd (all_last (λ (x : J). number x ≢ n) js j away (omega (arith, h, past, mine)))
          ]
