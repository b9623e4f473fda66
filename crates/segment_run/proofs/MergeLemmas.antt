-- What several workers kept, put together by place.
use Rattle.std.proofs.Common.{◌≡◌, ◌≢◌, ℕ, zero, suc, ◌+◌, ◌-◌, ◌<◌, ◌≤◌, ◌⊎◌, inl, inr, Bool, true, false, List, [], ◌∷◌, ◌++◌, map, length, drop, nat_lt, slice_get, Result, Ok, Err, OnErr, Option, Some, None, refl, sym, ap, ◌∙◌, subst, arith, append_assoc, append-nil, length-append}
use Rattle.std.specs.Prelude.{slice_set, if◌then◌else◌}
use Rattle.std.specs.List.{All}
use Rattle.std.proofs.lemmas.Bool.{cases_lt}
use Rattle.std.proofs.lemmas.Bool.Decides.{nat_tests}
use Rattle.exchange_events.specs.declared.answer.Answer.{Answer}
use Rattle.exchange_core.specs.Working.{order_of}
use Rattle.seat_history.specs.Histories.{Entry}
use Rattle.call_processor.specs.declared.worked.Placed.{Placed}
use Rattle.call_processor.specs.declared.worked.WorkerBuffers.{WorkerBuffers}
use Rattle.call_processor.specs.Keeping.{HandsOn, StillHolds, first_place}
use Rattle.segment_run.specs.Merging.{AddsMerged, IsNextRun, Keep, first_of_two}
use Rattle.segment_run.specs.Merging.{AreApart}
use Rattle.segment_run.specs.Merging.{IsRising, all_of}
use Rattle.segment_run.proofs.ListLemmas.{In, all_in, in_all, in_either, in_left, in_right}

pub on_err : {T E P : Type 0} (r : Result T E) → P → OnErr r P
on_err (Ok x) p = tt
on_err (Err e) p = p

pub if_err : {T E P Q : Type 0} (r : Result T E) → (P → Q) → OnErr r P → OnErr r Q
if_err (Ok x) f p = tt
if_err (Err e) f p = f p

pub still_more : {K : Type 0} (holds : K → List Placed → Type 0) (kept answers : List Placed) (k : K) → StillHolds holds (kept ++ answers) k → StillHolds holds kept k
still_more holds kept answers k s = record { more = answers ++ s.more; held = subst (holds k) (append_assoc kept answers s.more) s.held }

-- ---- rising answers

pub rising_above : (p : Placed) (ps : List Placed) → IsRising (p ∷ ps) → (q : Placed) → In q ps → p.place < q.place
rising_above p ps r q i = all_in (λ (x : Placed). p.place < x.place) ps (λ k d within. r 0 (suc k) d (omega arith) (omega (arith, within))) q i

pub rising_rest : (p : Placed) (ps : List Placed) → IsRising (p ∷ ps) → IsRising ps
rising_rest p ps r = λ i j d lt within. r (suc i) (suc j) d (omega (arith, lt)) (omega (arith, within))

pub rising_none : IsRising []
rising_none = λ i j d lt within. absurd (omega (arith, within))

rising_cons : (p : Placed) (ps : List Placed) → IsRising ps → ((q : Placed) → In q ps → p.place < q.place) → IsRising (p ∷ ps)
rising_cons p ps r above zero zero d lt within = absurd (omega (arith, lt))
rising_cons p ps r above zero (suc j) d lt within = in_all (λ (q : Placed). p.place < q.place) ps above j d (omega (arith, within))
rising_cons p ps r above (suc i) zero d lt within = absurd (omega (arith, lt))
rising_cons p ps r above (suc i) (suc j) d lt within = r i j d (omega (arith, lt)) (omega (arith, within))

pub rising_append : (ps qs : List Placed) → IsRising ps → IsRising qs → ((p q : Placed) → In p ps → In q qs → p.place < q.place) → IsRising (ps ++ qs)
rising_append [] qs a b c = b
rising_append (p ∷ ps) qs a b c = rising_cons p (ps ++ qs) (rising_append ps qs (rising_rest p ps a) b (λ x y i j. c x y (inr i) j)) (λ q i. pick q (in_either ps qs q i))
  where
    pick : (q : Placed) → In q ps ⊎ In q qs → p.place < q.place
    pick q (inl i) = rising_above p ps a q i
    pick q (inr i) = c p q (inl refl) i

pub rising_parts : (ps qs : List Placed) → IsRising (ps ++ qs) → IsRising ps × IsRising qs × ((p q : Placed) → In p ps → In q qs → p.place < q.place)
rising_parts [] qs r = (rising_none, r, λ p q i j. absurd i)
rising_parts (x ∷ ps) qs r =
    let rest = rising_parts ps qs (rising_rest x (ps ++ qs) r) in (
      rising_cons x ps rest.0 (λ q i. rising_above x (ps ++ qs) r q (in_left ps qs q i)),
      rest.1,
      λ p q i j. pick p q i j rest.2,
    )
  where
    pick : (p q : Placed) → In p (x ∷ ps) → In q qs → ((a b : Placed) → In a ps → In b qs → a.place < b.place) → p.place < q.place
    pick p q (inl same) j later = subst (λ (y : Placed). y.place < q.place) same (rising_above x (ps ++ qs) r q (in_right ps qs q j))
    pick p q (inr i) j later = later p q i j

-- as many rising places as there are in a span are its places, one after another
rising_few : (lo hi : ℕ) (ps : List Placed) → IsRising ps → ((p : Placed) → In p ps → (lo ≤ p.place) × (p.place < hi)) → length ps ≤ hi - lo
rising_few lo hi [] r each = omega arith
rising_few lo hi (p ∷ ps) r each =
    let mine = each p (inl refl) in
    let low = mine.0 in
    let high = mine.1 in
    let tail = rising_few (p.place + 1) hi ps (rising_rest p ps r) (λ q i. let above = rising_above p ps r q i in (omega (arith, above), (each q (inr i)).1)) in
    omega (arith, low, high, tail)

first_place_is : (lo : ℕ) (x : Placed) (ps : List Placed) → IsRising (x ∷ ps) → ((p : Placed) → In p (x ∷ ps) → (lo ≤ p.place) × (p.place < lo + suc (length ps))) → x.place ≡ lo
first_place_is lo x ps r each =
    let mine = each x (inl refl) in
    let low = mine.0 in
    let high = mine.1 in
    let few = rising_few (x.place + 1) (lo + suc (length ps)) ps (rising_rest x ps r) (λ q j. let above = rising_above x ps r q j in (omega (arith, above), (each q (inr j)).1)) in
    omega (arith, low, high, few)

pub each_place : (lo : ℕ) (ps : List Placed) → IsRising ps → ((p : Placed) → In p ps → (lo ≤ p.place) × (p.place < lo + length ps)) → (i : ℕ) (p : Placed) → slice_get ps i ≡ Some p → p.place ≡ lo + i
each_place lo [] r each i p at = absurd (cc at)
each_place lo (x ∷ ps) r each zero p at =
    let same : x ≡ p = cc at in
    ap (λ (y : Placed). y.place) (sym same) ∙ (first_place_is lo x ps r each ∙ omega arith)
each_place lo (x ∷ ps) r each (suc i) p at =
    let first = first_place_is lo x ps r each in
    let rest = each_place (lo + 1) ps (rising_rest x ps r) (λ q j. let above = rising_above x ps r q j in let high = (each q (inr j)).1 in (omega (arith, above, first), omega (arith, high))) i p at in
    omega (arith, rest)

-- answers of the entries at the same places are in their order
pub events_are : (rest : List Entry) (ms : List Answer) → length rest ≡ length ms → ((i : ℕ) (a : Answer) → slice_get ms i ≡ Some a → (n : ℕ) × (slice_get rest i ≡ Some (n, a.event)))
    → map (λ (a : Answer). a.event) ms ≡ order_of rest
events_are [] [] long f = refl
events_are [] (m ∷ ms) long f = absurd (omega (arith, long))
events_are (e ∷ rest) [] long f = absurd (omega (arith, long))
events_are (e ∷ rest) (m ∷ ms) long f =
    let first = f 0 m refl in
    let same : e ≡ (first.0, m.event) = cc (first.1) in
    λ i. (ap (λ (x : Entry). x.1) (sym same) i) ∷ (events_are rest ms (omega (arith, long)) (λ k a at. f (suc k) a at) i)

-- ---- the parts that are left

all_of_cons : (ps : List Placed) (parts : List (List Placed)) → all_of (ps ∷ parts) ≡ ps ++ all_of parts
unfolding all_of
all_of_cons ps parts = refl

pub all_of_none : all_of [] ≡ []
unfolding all_of
all_of_none = refl

pub all_of_last : (parts : List (List Placed)) (ps : List Placed) → all_of (parts ++ ps ∷ []) ≡ all_of parts ++ ps
all_of_last [] ps = all_of_cons ps [] ∙ (ap (λ (l : List Placed). ps ++ l) all_of_none ∙ (append-nil ps ∙ ap (λ (l : List Placed). l ++ ps) (sym all_of_none)))
all_of_last (qs ∷ parts) ps =
    all_of_cons qs (parts ++ ps ∷ []) ∙ (ap (λ (l : List Placed). qs ++ l) (all_of_last parts ps) ∙ (sym (append_assoc qs (all_of parts) ps) ∙ ap (λ (l : List Placed). l ++ ps) (sym (all_of_cons qs parts))))

in_front : (ps : List Placed) (parts : List (List Placed)) (p : Placed) → In p ps → In p (all_of (ps ∷ parts))
in_front ps parts p i = subst (In p) (sym (all_of_cons ps parts)) (in_left ps (all_of parts) p i)

in_behind : (ps : List Placed) (parts : List (List Placed)) (p : Placed) → In p (all_of parts) → In p (all_of (ps ∷ parts))
in_behind ps parts p i = subst (In p) (sym (all_of_cons ps parts)) (in_right ps (all_of parts) p i)

either_one : (ps : List Placed) (parts : List (List Placed)) (p : Placed) → In p (all_of (ps ∷ parts)) → In p ps ⊎ In p (all_of parts)
either_one ps parts p i = in_either ps (all_of parts) p (subst (In p) (all_of_cons ps parts) i)

pub in_part : (parts : List (List Placed)) (k : ℕ) (ps : List Placed) (p : Placed) → slice_get parts k ≡ Some ps → In p ps → In p (all_of parts)
in_part [] k ps p at i = absurd (cc at)
in_part (qs ∷ parts) zero ps p at i = let same : qs ≡ ps = cc at in in_front qs parts p (subst (In p) (sym same) i)
in_part (qs ∷ parts) (suc k) ps p at i = in_behind qs parts p (in_part parts k ps p at i)

-- one part more, at the end
pub apart_last : (parts : List (List Placed)) (ps : List Placed) → AreApart parts → IsRising ps → ((p q : Placed) → In p (all_of parts) → In q ps → q.place ≢ p.place) → AreApart (parts ++ ps ∷ [])
apart_last [] ps a r f = (r, (λ p q i j. absurd (subst (In q) all_of_none j)), tt)
apart_last (qs ∷ parts) ps a r f = (
  a.0,
  (λ p q i j. pick p q i (in_either (all_of parts) ps q (subst (In q) (all_of_last parts ps) j))),
  apart_last parts ps a.2 r (λ p q i j. f p q (in_behind qs parts p i) j),
)
  where
    pick : (p q : Placed) → In p qs → In q (all_of parts) ⊎ In q ps → q.place ≢ p.place
    pick p q i (inl h) = a.1 p q i h
    pick p q i (inr h) = f p q (in_front qs parts p i) h

-- what is left once the part with number k is cut to what is behind its run
module _ (ps run rest : List Placed) (is : ps ≡ run ++ rest) where
  back : (p : Placed) → In p rest → In p ps
  back p i = subst (In p) (sym is) (in_right run rest p i)

  abbrev Other : List (List Placed) → ℕ → Placed → Type 0
  Other parts k p = (j : ℕ) × (qs : List Placed) × (j ≢ k) × (slice_get parts j ≡ Some qs) × In p qs

  in_others : (parts : List (List Placed)) (p : Placed) → In p (all_of parts) → (j : ℕ) × (qs : List Placed) × (slice_get parts j ≡ Some qs) × In p qs
  in_others [] p i = absurd (subst (In p) all_of_none i)
  in_others (qs ∷ parts) p i = pick (in_others parts p) (either_one qs parts p i)
    where
      pick : (In p (all_of parts) → (j : ℕ) × (rs : List Placed) × (slice_get parts j ≡ Some rs) × In p rs) → In p qs ⊎ In p (all_of parts) → (j : ℕ) × (rs : List Placed) × (slice_get (qs ∷ parts) j ≡ Some rs) × In p rs
      pick tail (inl here) = (0, qs, refl, here)
      pick tail (inr there) = let t = tail there in (suc t.0, t.1, t.2, t.3)

  in_set : (parts : List (List Placed)) (k : ℕ) (p : Placed) → slice_get parts k ≡ Some ps → In p (all_of (slice_set parts k rest)) → In p rest ⊎ Other parts k p
  in_set [] k p at i = absurd (cc at)
  in_set (qs ∷ parts) zero p at i = pick (either_one rest parts p i)
    where
      pick : In p rest ⊎ In p (all_of parts) → In p rest ⊎ Other (qs ∷ parts) zero p
      pick (inl here) = inl here
      pick (inr there) = let t = in_others parts p there in inr (suc t.0, t.1, (λ e. absurd (omega (arith, e))), t.2, t.3)
  in_set (qs ∷ parts) (suc k) p at i = pick (in_set parts k p at) (either_one qs (slice_set parts k rest) p i)
    where
      wider : In p rest ⊎ Other parts k p → In p rest ⊎ Other (qs ∷ parts) (suc k) p
      wider (inl here) = inl here
      wider (inr t) = inr (suc t.0, t.1, (λ e. t.2 (omega (arith, e))), t.3, t.4)

      pick : (In p (all_of (slice_set parts k rest)) → In p rest ⊎ Other parts k p) → In p qs ⊎ In p (all_of (slice_set parts k rest)) → In p rest ⊎ Other (qs ∷ parts) (suc k) p
      pick tail (inl here) = inr (0, qs, (λ e. absurd (omega (arith, e))), refl, here)
      pick tail (inr there) = wider (tail there)

  still_in : (parts : List (List Placed)) (k : ℕ) (p : Placed) → slice_get parts k ≡ Some ps → In p (all_of (slice_set parts k rest)) → In p (all_of parts)
  still_in parts k p at i = pick (in_set parts k p at i)
    where
      pick : In p rest ⊎ Other parts k p → In p (all_of parts)
      pick (inl here) = in_part parts k ps p at (back p here)
      pick (inr t) = in_part parts t.0 t.1 p t.3 t.4

  size_set : (parts : List (List Placed)) (k : ℕ) → slice_get parts k ≡ Some ps → length (all_of parts) ≡ length run + length (all_of (slice_set parts k rest))
  size_set [] k at = absurd (cc at)
  size_set (qs ∷ parts) zero at =
      let same : qs ≡ ps = cc at in
      let a = ap length (all_of_cons qs parts) in
      let b = length-append qs (all_of parts) in
      let d = ap length same in
      let e = ap length is in
      let f = length-append run rest in
      let g = ap length (all_of_cons rest parts) in
      let h = length-append rest (all_of parts) in
      omega (arith, a, b, d, e, f, g, h)
  size_set (qs ∷ parts) (suc k) at =
      let r = size_set parts k at in
      let a = ap length (all_of_cons qs parts) in
      let b = length-append qs (all_of parts) in
      let g = ap length (all_of_cons qs (slice_set parts k rest)) in
      let h = length-append qs (all_of (slice_set parts k rest)) in
      omega (arith, r, a, b, g, h)

  apart_set : (parts : List (List Placed)) (k : ℕ) → slice_get parts k ≡ Some ps → AreApart parts → AreApart (slice_set parts k rest)
  apart_set [] k at a = absurd (cc at)
  apart_set (qs ∷ parts) zero at a =
      let same : qs ≡ ps = cc at in
      let rising = rising_parts run rest (subst IsRising (same ∙ is) a.0) in
      (rising.1, (λ p q i j. a.1 p q (subst (In p) (sym same) (back p i)) j), a.2)
  apart_set (qs ∷ parts) (suc k) at a = (a.0, (λ p q i j. a.1 p q i (still_in parts k q at j)), apart_set parts k at a.2)

apart_one : (parts : List (List Placed)) (k : ℕ) (ps : List Placed) → slice_get parts k ≡ Some ps → AreApart parts → IsRising ps
apart_one [] k ps at a = absurd (cc at)
apart_one (qs ∷ parts) zero ps at a = let same : qs ≡ ps = cc at in subst IsRising same a.0
apart_one (qs ∷ parts) (suc k) ps at a = apart_one parts k ps at a.2

apart_two : (parts : List (List Placed)) (k j : ℕ) (ps qs : List Placed) → slice_get parts k ≡ Some ps → slice_get parts j ≡ Some qs → j ≢ k → AreApart parts → (p q : Placed) → In p ps → In q qs → q.place ≢ p.place
apart_two [] k j ps qs at there other a p q i h = absurd (cc at)
apart_two (rs ∷ parts) zero zero ps qs at there other a p q i h = absurd (other refl)
apart_two (rs ∷ parts) zero (suc j) ps qs at there other a p q i h = let same : rs ≡ ps = cc at in a.1 p q (subst (In p) (sym same) i) (in_part parts j qs q there h)
apart_two (rs ∷ parts) (suc k) zero ps qs at there other a p q i h = let same : rs ≡ qs = cc there in λ e. a.1 q p (subst (In q) (sym same) h) (in_part parts k ps p at i) (sym e)
apart_two (rs ∷ parts) (suc k) (suc j) ps qs at there other a p q i h = apart_two parts k j ps qs at there (λ e. other (ap suc e)) a.2 p q i h

-- ---- what is kept in the buffers

module _ {K : Type 0} (holds : K → List Placed → Type 0) where
  kept_at : (used : List (WorkerBuffers K)) (parts : List (List Placed)) (k : ℕ) (w : WorkerBuffers K) → Keep holds used parts → slice_get used k ≡ Some w → (ps : List Placed) × (slice_get parts k ≡ Some ps) × holds w.sink ps
  kept_at [] parts k w h at = absurd (cc at)
  kept_at (u ∷ used) [] k w h at = absurd h
  kept_at (u ∷ used) (ps ∷ parts) zero w h at = let same : u ≡ w = cc at in (ps, refl, subst (λ (x : WorkerBuffers K). holds x.sink ps) same h.0)
  kept_at (u ∷ used) (ps ∷ parts) (suc k) w h at = kept_at used parts k w h.1 at

  at_kept : (used : List (WorkerBuffers K)) (parts : List (List Placed)) (k : ℕ) (ps : List Placed) → Keep holds used parts → slice_get parts k ≡ Some ps → (w : WorkerBuffers K) × (slice_get used k ≡ Some w) × holds w.sink ps
  at_kept [] [] k ps h at = absurd (cc at)
  at_kept [] (qs ∷ parts) k ps h at = absurd h
  at_kept (u ∷ used) [] k ps h at = absurd h
  at_kept (u ∷ used) (qs ∷ parts) zero ps h at = let same : qs ≡ ps = cc at in (u, refl, subst (holds u.sink) same h.0)
  at_kept (u ∷ used) (qs ∷ parts) (suc k) ps h at = at_kept used parts k ps h.1 at

  keep_set : (used : List (WorkerBuffers K)) (parts : List (List Placed)) (k : ℕ) (w : WorkerBuffers K) (rest : List Placed) → Keep holds used parts → holds w.sink rest → Keep holds (slice_set used k w) (slice_set parts k rest)
  keep_set [] [] k w rest h r = tt
  keep_set [] (qs ∷ parts) k w rest h r = absurd h
  keep_set (u ∷ used) [] k w rest h r = absurd h
  keep_set (u ∷ used) (qs ∷ parts) zero w rest h r = (r, h.1)
  keep_set (u ∷ used) (qs ∷ parts) (suc k) w rest h r = (h.0, keep_set used parts k w rest h.1 r)

  -- no buffers keep anything more
  none_left : (used : List (WorkerBuffers K)) (parts : List (List Placed)) → Keep holds used parts
      → ((j : ℕ) (w : WorkerBuffers K) (ps : List Placed) → j < length used → slice_get used j ≡ Some w → holds w.sink ps → first_place ps ≡ None) → length (all_of parts) ≡ 0
  none_left [] [] h none = ap length all_of_none
  none_left [] (qs ∷ parts) h none = absurd h
  none_left (u ∷ used) [] h none = absurd h
  none_left (u ∷ used) (qs ∷ parts) h none =
      let first = empty qs (none 0 u qs (omega arith) refl h.0) in
      let rest = none_left used parts h.1 (λ j w ps lt at held. none (suc j) w ps (omega (arith, lt)) at held) in
      let a = ap length (all_of_cons qs parts) in
      let b = length-append qs (all_of parts) in
      omega (arith, first, rest, a, b)
    where
      empty : (ps : List Placed) → first_place ps ≡ None → length ps ≡ 0
      empty [] e = refl
      empty (p ∷ ps) e = absurd (cc e)

  -- how far the merge has come
  pub record Underway (kept : List Placed) (parts : List (List Placed)) (into : K) (used : List (WorkerBuffers K)) (i : ℕ) : Type 0 where
    pub answers : List Placed
    pub rest : List (List Placed)
    pub held : holds into (kept ++ answers)
    pub keep : Keep holds used rest
    pub apart : AreApart rest
    pub rising : IsRising answers
    pub each : (p : Placed) → In p answers → In p (all_of parts)
    pub left : (p : Placed) → In p (all_of rest) → In p (all_of parts)
    pub size : length answers + length (all_of rest) ≡ length (all_of parts)
    pub before : (p q : Placed) → In p answers → In q (all_of rest) → p.place < q.place
    pub far : i ≤ length answers

  pub underway : (kept : List Placed) (parts : List (List Placed)) (into : K) (used : List (WorkerBuffers K)) → holds into kept → Keep holds used parts → AreApart parts → Underway kept parts into used 0
  underway kept parts into used held keep apart = record {
    answers = [];
    rest = parts;
    held = subst (holds into) (sym (append-nil kept)) held;
    keep = keep;
    apart = apart;
    rising = rising_none;
    each = λ p i. absurd i;
    left = λ p i. i;
    size = omega arith;
    before = λ p q i j. absurd i;
    far = omega arith;
  }

  done : (kept : List Placed) (parts : List (List Placed)) (into : K) (used : List (WorkerBuffers K)) (i : ℕ) (u : Underway kept parts into used i) → length (all_of u.rest) ≡ 0 → AddsMerged holds kept parts into
  done kept parts into used i u none =
      let size = u.size in
      record { answers = u.answers; merged = record { rising = u.rising; each = u.each; many = omega (arith, size, none) }; held = u.held }

  pub done_when_none : (kept : List Placed) (parts : List (List Placed)) (into : K) (used : List (WorkerBuffers K)) (i : ℕ) → Underway kept parts into used i → IsNextRun holds used (length used) None → AddsMerged holds kept parts into
  done_when_none kept parts into used i u none = done kept parts into used i u (none_left used u.rest u.keep none)

  pub done_when_many : (kept : List Placed) (parts : List (List Placed)) (into : K) (used : List (WorkerBuffers K)) (i count : ℕ) → Underway kept parts into used i → length (all_of parts) ≤ count → count ≤ i → AddsMerged holds kept parts into
  done_when_many kept parts into used i count u most all =
      let size = u.size in
      let far = u.far in
      done kept parts into used i u (omega (arith, size, far, most, all))

  -- one run more
  module _ (kept : List Placed) (parts : List (List Placed)) (into later : K) (used : List (WorkerBuffers K)) (i k first below : ℕ) (w x : WorkerBuffers K) (u : Underway kept parts into used i)
      (next : IsNextRun holds used (length used) (Some (k, first, below))) (at : slice_get used k ≡ Some w)
      (handed : (answers others : List Placed) → holds w.sink answers → holds into others → HandsOn holds below answers others x.sink later) where
    part : (ps : List Placed) × (slice_get u.rest k ≡ Some ps) × holds w.sink ps
    part = kept_at used u.rest k w u.keep at

    h : HandsOn holds below part.0 (kept ++ u.answers) x.sink later
    h = handed part.0 (kept ++ u.answers) part.2 u.held

    ps_rising : IsRising part.0
    ps_rising = apart_one u.rest k part.0 part.1 u.apart

    split : IsRising h.run × IsRising h.rest × ((p q : Placed) → In p h.run → In q h.rest → p.place < q.place)
    split = rising_parts h.run h.rest (subst IsRising h.parts ps_rising)

    in_run : (p : Placed) → In p h.run → In p part.0
    in_run p j = subst (In p) (sym h.parts) (in_left h.run h.rest p j)

    first_place_starts : first_place (h.run ++ h.rest) ≡ Some first
    first_place_starts = subst (λ (l : List Placed). first_place l ≡ Some first) h.parts (next.1 w part.0 at part.2)

    low : (run : List Placed) → 0 < length run → first_place (run ++ h.rest) ≡ Some first → All (λ (p : Placed). p.place < below) (drop 1 run) → (p : Placed) → In p run → (p.place ≡ first) ⊎ (p.place < below)
    low [] some e few p j = absurd j
    low (y ∷ run) some e few p (inl same) = let is : y.place ≡ first = cc e in inl (ap (λ (z : Placed). z.place) (sym same) ∙ is)
    low (y ∷ run) some e few p (inr more) = inr (all_in (λ (q : Placed). q.place < below) run few p more)

    some_run : 0 < length h.run
    some_run = h.some (subst (λ (l : List Placed). 0 < length l) (sym h.parts) (any (h.run ++ h.rest) first_place_starts))
      where
        any : (ps : List Placed) → first_place ps ≡ Some first → 0 < length ps
        any [] e = absurd (cc e)
        any (p ∷ ps) e = omega arith

    above : (qs : List Placed) → IsRising qs → (q : Placed) → In q qs → (m : ℕ) × (first_place qs ≡ Some m) × (m ≤ q.place)
    above [] r q j = absurd j
    above (y ∷ qs) r q (inl same) = (y.place, refl, let e = ap (λ (z : Placed). z.place) same in omega (arith, e))
    above (y ∷ qs) r q (inr more) = let up = rising_above y qs r q more in (y.place, refl, omega (arith, up))

    others : (p q : Placed) → In p h.run → Other part.0 h.run h.rest h.parts u.rest k q → p.place < q.place
    others p q i t =
        let there = at_kept used u.rest t.0 t.1 u.keep t.3 in
        let up = above t.1 (apart_one u.rest t.0 t.1 t.3 u.apart) q t.4 in
        let within = got_here used t.0 there.0 there.1 in
        let n = next.2 t.0 there.0 t.1 up.0 within t.2 there.1 there.2 up.1 in
        let differ = apart_two u.rest k t.0 part.0 t.1 part.1 t.3 t.2 u.apart p q (in_run p i) t.4 in
        pick (low h.run some_run first_place_starts h.before p i) n.0 n.1 up.2 differ (cases_lt p.place q.place)
      where
        got_here : (xs : List (WorkerBuffers K)) (j : ℕ) (y : WorkerBuffers K) → slice_get xs j ≡ Some y → j < length xs
        got_here [] j y e = absurd (cc e)
        got_here (z ∷ xs) zero y e = omega arith
        got_here (z ∷ xs) (suc j) y e = let r = got_here xs j y e in omega (arith, r)

        pick : {m : ℕ} → (p.place ≡ first) ⊎ (p.place < below) → first ≤ m → below ≤ m → m ≤ q.place → q.place ≢ p.place → (p.place < q.place) ⊎ (q.place ≤ p.place) → p.place < q.place
        pick a b d e differ (inl yes_low) = yes_low
        pick (inl is) b d e differ (inr not_low) = absurd (differ (omega (arith, is, b, e, not_low)))
        pick (inr is) b d e differ (inr not_low) = absurd (omega (arith, is, d, e, not_low))

    run_before : (p q : Placed) → In p h.run → In q (all_of (slice_set u.rest k h.rest)) → p.place < q.place
    run_before p q i j = pick (in_set part.0 h.run h.rest h.parts u.rest k q part.1 j)
      where
        pick : In q h.rest ⊎ Other part.0 h.run h.rest h.parts u.rest k q → p.place < q.place
        pick (inl here) = split.2 p q i here
        pick (inr t) = others p q i t

    pub run_more : Underway kept parts later (slice_set used k x) (i + 1)
    run_more = record {
      answers = u.answers ++ h.run;
      rest = slice_set u.rest k h.rest;
      held = subst (holds later) (append_assoc kept u.answers h.run) h.got;
      keep = keep_set used u.rest k x h.rest u.keep h.left;
      apart = apart_set part.0 h.run h.rest h.parts u.rest k part.1 u.apart;
      rising = rising_append u.answers h.run u.rising split.0 (λ p q a b. u.before p q a (in_part u.rest k part.0 q part.1 (in_run q b)));
      each = λ p a. either p (in_either u.answers h.run p a);
      left = λ p a. u.left p (still_in part.0 h.run h.rest h.parts u.rest k p part.1 a);
      size =
          let a = u.size in
          let b = size_set part.0 h.run h.rest h.parts u.rest k part.1 in
          let d = length-append u.answers h.run in
          omega (arith, a, b, d);
      before = λ p q a b. ahead p q b (in_either u.answers h.run p a);
      far = let a = u.far in let b = length-append u.answers h.run in let d = some_run in omega (arith, a, b, d);
    }
      where
        either : (p : Placed) → In p u.answers ⊎ In p h.run → In p (all_of parts)
        either p (inl a) = u.each p a
        either p (inr a) = u.left p (in_part u.rest k part.0 p part.1 (in_run p a))

        ahead : (p q : Placed) → In q (all_of (slice_set u.rest k h.rest)) → In p u.answers ⊎ In p h.run → p.place < q.place
        ahead p q b (inl a) = u.before p q a (still_in part.0 h.run h.rest h.parts u.rest k q part.1 b)
        ahead p q b (inr a) = run_before p q a b

-- ---- the next run

module _ {K : Type 0} (holds : K → List Placed → Type 0) (used : List (WorkerBuffers K)) (i : ℕ) (w : WorkerBuffers K) (at : slice_get used i ≡ Some w) where
  same_there : (x : WorkerBuffers K) (j : ℕ) → j ≡ i → slice_get used j ≡ Some x → w ≡ x
  same_there x j same there = let e : Some w ≡ Some x = sym at ∙ (ap (slice_get used) (sym same) ∙ there) in cc e

  -- an event of one worker's buffers more, and none of one more
  pub next_same : ((ps : List Placed) → holds w.sink ps → first_place ps ≡ None) → (found : Option (ℕ × ℕ × ℕ)) → IsNextRun holds used i found → IsNextRun holds used (i + 1) found
  next_same none None n = λ j x ps lt there held. pick j x ps there held (cases_lt j i) (omega (arith, lt))
    where
      pick : (j : ℕ) (x : WorkerBuffers K) (ps : List Placed) → slice_get used j ≡ Some x → holds x.sink ps → (j < i) ⊎ (i ≤ j) → j ≤ i → first_place ps ≡ None
      pick j x ps there held (inl inside) le = n j x ps inside there held
      pick j x ps there held (inr past) le = none ps (subst (λ (y : WorkerBuffers K). holds y.sink ps) (sym (same_there x j (omega (arith, past, le)) there)) held)
  next_same none (Some (k, first, below)) n = (
    (let a = n.0 in omega (arith, a)),
    n.1,
    λ j x ps q lt other there held is. pick j x ps q other there held is (cases_lt j i) (omega (arith, lt)),
  )
    where
      pick : (j : ℕ) (x : WorkerBuffers K) (ps : List Placed) (q : ℕ) → j ≢ k → slice_get used j ≡ Some x → holds x.sink ps → first_place ps ≡ Some q → (j < i) ⊎ (i ≤ j) → j ≤ i → (first ≤ q) × (below ≤ q)
      pick j x ps q other there held is (inl inside) le = n.2 j x ps q inside other there held is
      pick j x ps q other there held is (inr past) le =
          let e = none ps (subst (λ (y : WorkerBuffers K). holds y.sink ps) (sym (same_there x j (omega (arith, past, le)) there)) held) in
          absurd (cc (sym e ∙ is))

  module _ (place : ℕ) (few : place ≤ 4294967295) (its : (ps : List Placed) → holds w.sink ps → first_place ps ≡ Some place) where
    it_is : (x : WorkerBuffers K) (j : ℕ) (ps : List Placed) → j ≡ i → slice_get used j ≡ Some x → holds x.sink ps → first_place ps ≡ Some place
    it_is x j ps same there held = its ps (subst (λ (y : WorkerBuffers K). holds y.sink ps) (sym (same_there x j same there)) held)

    one_value : (m n : ℕ) → Some m ≡ Some n → m ≡ n
    one_value m n e = cc e

    chosen : (k first below : ℕ) → IsNextRun holds used i (Some (k, first, below)) → (a : Bool) → nat_lt place first ≡ a → (b : Bool) → nat_lt place below ≡ b
        → IsNextRun holds used (i + 1) (Some (if a then (i, place, first) else (if b then (k, first, place) else (k, first, below))))
    chosen k first below n true e b f =
        let less : place < first = grind (arith, nat_tests, e) in
        (omega arith, (λ x ps there held. it_is x i ps refl there held), λ j x ps q lt other there held is. pick less j x ps q lt other there held is (cases_lt j i) (cases_lt k j) (cases_lt j k))
      where
        pick : place < first → (j : ℕ) (x : WorkerBuffers K) (ps : List Placed) (q : ℕ) → j < i + 1 → j ≢ i → slice_get used j ≡ Some x → holds x.sink ps → first_place ps ≡ Some q
            → (j < i) ⊎ (i ≤ j) → (k < j) ⊎ (j ≤ k) → (j < k) ⊎ (k ≤ j) → (place ≤ q) × (first ≤ q)
        pick less j x ps q lt other there held is (inr past) c d = absurd (other (omega (arith, lt, past)))
        pick less j x ps q lt other there held is (inl inside) (inl c) d = let r = n.2 j x ps q inside (λ e. omega (arith, e, c)) there held is in let r0 = r.0 in (omega (arith, less, r0), r0)
        pick less j x ps q lt other there held is (inl inside) (inr c) (inl d) = let r = n.2 j x ps q inside (λ e. omega (arith, e, d)) there held is in let r0 = r.0 in (omega (arith, less, r0), r0)
        pick less j x ps q lt other there held is (inl inside) (inr c) (inr d) =
            let same : j ≡ k = omega (arith, c, d) in
            let v = one_value first q (sym (n.1 x ps (ap (slice_get used) (sym same) ∙ there) held) ∙ is) in
            (omega (arith, less, v), omega (arith, v))
    chosen k first below n false e b f =
        let more : first ≤ place = grind (arith, nat_tests, e) in
        second more b f
      where
        inside_k : k < i + 1
        inside_k = let a = n.0 in omega (arith, a)

        pick : first ≤ place → (m : ℕ) → m ≤ place → m ≤ below → (j : ℕ) (x : WorkerBuffers K) (ps : List Placed) (q : ℕ) → j < i + 1 → j ≢ k → slice_get used j ≡ Some x → holds x.sink ps → first_place ps ≡ Some q
            → (j < i) ⊎ (i ≤ j) → (first ≤ q) × (m ≤ q)
        pick more m low near j x ps q lt other there held is (inl inside) = let r = n.2 j x ps q inside other there held is in let r1 = r.1 in (r.0, omega (arith, r1, near))
        pick more m low near j x ps q lt other there held is (inr past) =
            let v = one_value place q (sym (it_is x j ps (omega (arith, lt, past)) there held) ∙ is) in
            (omega (arith, more, v), omega (arith, low, v))

        second : first ≤ place → (b : Bool) → nat_lt place below ≡ b → IsNextRun holds used (i + 1) (Some (if b then (k, first, place) else (k, first, below)))
        second more true f =
            let less : place < below = grind (arith, nat_tests, f) in
            (inside_k, n.1, λ j x ps q lt other there held is. pick more place (omega arith) (omega (arith, less)) j x ps q lt other there held is (cases_lt j i))
        second more false f =
            let past : below ≤ place = grind (arith, nat_tests, f) in
            (inside_k, n.1, λ j x ps q lt other there held is. pick more below past (omega arith) j x ps q lt other there held is (cases_lt j i))

    pub next_more : (found : Option (ℕ × ℕ × ℕ)) → IsNextRun holds used i found → IsNextRun holds used (i + 1) (Some (first_of_two found i place))
    next_more None n = (
      omega arith,
      (λ x ps there held. it_is x i ps refl there held),
      λ j x ps q lt other there held is. pick j x ps q lt other there held is (cases_lt j i),
    )
      where
        pick : (j : ℕ) (x : WorkerBuffers K) (ps : List Placed) (q : ℕ) → j < i + 1 → j ≢ i → slice_get used j ≡ Some x → holds x.sink ps → first_place ps ≡ Some q → (j < i) ⊎ (i ≤ j) → (place ≤ q) × (4294967295 ≤ q)
        pick j x ps q lt other there held is (inl inside) = absurd (cc (sym (n j x ps inside there held) ∙ is))
        pick j x ps q lt other there held is (inr past) = absurd (other (omega (arith, lt, past)))
    next_more (Some (k, first, below)) n = chosen k first below n (nat_lt place first) refl (nat_lt place below) refl
