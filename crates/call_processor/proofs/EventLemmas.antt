-- A worker's next event.
use Rattle.std.proofs.Common.{◌≡◌, ℕ, zero, suc, ◌+◌, ◌<◌, ◌≤◌, true, false, List, [], ◌∷◌, ◌++◌, length, take, get_or, slice_get, Some, refl, sym, ap, ◌∙◌, subst, arith, inl, inr, append_assoc, append-nil, length-append, length-take-le}
use Rattle.std.specs.List.{All, AllPairs}
use Rattle.std.proofs.lemmas.Bool.{cases_lt}
use Rattle.std.proofs.lemmas.List.{map-append, get_or_append_left, get_or_push, length_push}
use Rattle.std.proofs.lemmas.List.Elements.{All-nil, All-push, All-weaker}
use Rattle.std.proofs.lemmas.Option.{slice_get_within}
use lib.Seq.{take-append-le}
use Rattle.exchange_events.specs.declared.reply.Reply.{Reply}
use Rattle.exchange_events.specs.Kept.{kept_of}
use Rattle.seat_history.specs.declared.seat_knowledge.SeatKnowledge.{SeatKnowledge}
use Rattle.seat_history.specs.Histories.{StartsWith, before, entries_of}
use Rattle.seat_history.specs.Seats.{after_step}
use Rattle.exchange_core.specs.Boards.{Board, AnswersAt, world_at}
use Rattle.call_profile.specs.Step.{MovesAtMost}
use Rattle.exchange_core.specs.Working.{Entry}
use Rattle.call_processor.specs.declared.worked.Placed.{Placed}
use Rattle.call_processor.specs.Frames.{Plays, HasFrame, IsPlayed}
use Rattle.call_processor.specs.Work.{Did, DidEvent, IsAnswer, Works, answered_events, entries_for}

pub starts_same : (v : SeatKnowledge) → StartsWith v.seen v.seen
starts_same v = ([], sym (append-nil v.seen))

pub starts_on : (a b c : List Entry) → StartsWith a b → StartsWith b c → StartsWith a c
starts_on a b c p q = (q.0 ++ p.0, p.1 ∙ (ap (λ (l : List Entry). l ++ p.0) q.1 ∙ append_assoc c q.0 p.0))

pub Did_none : (v : SeatKnowledge) → Did v [] v
Did_none v = record {
  own = sym (append-nil v.own);
  exact = λ is. is;
  turns = omega arith;
  begins = starts_same v;
  number = refl;
  baton = refl;
  made = refl;
  others = refl;
}

-- what the next call shows of the seat: its event n is done at this history
pub record Next (history : List Entry) (n place : ℕ) (w x : SeatKnowledge) : Type 0 where
  pub seat : x ≡ after_step history n w
  pub begins : StartsWith history w.seen
  pub place_is : length history ≡ place
  pub turn : 0 < w.left
  pub exact : x.own ≡ entries_of x.number x.seen

seen_next : (history : List Entry) (n place : ℕ) (w x : SeatKnowledge) → Next history n place w x → x.seen ≡ history ++ (w.number, n) ∷ []
seen_next history n place w x e = ap (λ (k : SeatKnowledge). k.seen) e.seat

pub StartsWith_next : (history : List Entry) (n place : ℕ) (w x : SeatKnowledge) → Next history n place w x → StartsWith x.seen w.seen
StartsWith_next history n place w x e = starts_on x.seen history w.seen ((w.number, n) ∷ [], seen_next history n place w x e) e.begins

pub did_more : (history : List Entry) (v w x : SeatKnowledge) (events : List ℕ) (n place : ℕ) → Did v events w → Next history n place w x → Did v (events ++ n ∷ []) x
did_more history v w x events n place d e =
    let left = ap (λ (k : SeatKnowledge). k.left) e.seat in
    let turn = e.turn in
    record {
      own = ap (λ (k : SeatKnowledge). k.own) e.seat ∙ (ap (λ (l : List Entry). l ++ (w.number, n) ∷ []) d.own
          ∙ (ap (λ (m : ℕ). (v.own ++ entries_for v.number events) ++ (m, n) ∷ []) d.number
          ∙ (append_assoc v.own (entries_for v.number events) ((v.number, n) ∷ [])
          ∙ ap (λ (l : List Entry). v.own ++ l) (sym (map-append (λ (m : ℕ). (v.number, m)) events (n ∷ []))))));
      exact = λ was. e.exact;
      turns = omega (arith, left, turn, d.turns, length_push events n);
      begins = starts_on x.seen w.seen v.seen (StartsWith_next history n place w x e) d.begins;
      number = ap (λ (k : SeatKnowledge). k.number) e.seat ∙ d.number;
      baton = ap (λ (k : SeatKnowledge). k.baton) e.seat ∙ d.baton;
      made = ap (λ (k : SeatKnowledge). k.made) e.seat ∙ d.made;
      others = ap (λ (k : SeatKnowledge). k.kept) e.seat ∙ d.others;
    }

slice_get-append_left : {A : Type 0} (xs ys : List A) (i : ℕ) (x : A) → slice_get xs i ≡ Some x → slice_get (xs ++ ys) i ≡ Some x
slice_get-append_left [] ys i x e = absurd (cc e)
slice_get-append_left (y ∷ xs) ys zero x e = e
slice_get-append_left (y ∷ xs) ys (suc i) x e = slice_get-append_left xs ys i x e

slice_get-append_last : {A : Type 0} (xs : List A) (x : A) (i : ℕ) → length xs ≡ i → slice_get (xs ++ x ∷ []) i ≡ Some x
slice_get-append_last [] x zero e = refl
slice_get-append_last [] x (suc i) e = absurd (omega (arith, e))
slice_get-append_last (y ∷ xs) x zero e = absurd (omega (arith, e))
slice_get-append_last (y ∷ xs) x (suc i) e = slice_get-append_last xs x i (omega (arith, e))

-- an answer stays one, however much more of the history the seat sees
pub answer_stays : (board : Board) (w x : SeatKnowledge) (p : Placed) → StartsWith x.seen w.seen → x.number ≡ w.number → IsAnswer board w p → IsAnswer board x p
answer_stays board w x p s number a =
    let here = slice_get_within w.seen p.place (w.number, p.answer.event) a.entry in
    let same : before p.place x.seen ≡ before p.place w.seen = ap (take p.place) s.1 ∙ take-append-le p.place w.seen s.0 (omega (arith, here)) in
    record {
      reply = a.reply;
      entry = ap (λ (l : List Entry). slice_get l p.place) s.1 ∙ (slice_get-append_left w.seen s.0 p.place (w.number, p.answer.event) a.entry ∙ ap (λ (m : ℕ). Some (m, p.answer.event)) (sym number));
      given = subst (λ (l : List Entry). AnswersAt board l p.answer.event a.reply) (sym same) a.given;
      few = a.few;
      keeps = a.keeps;
    }

-- the answer of the call
pub answer_next : (board : Board) (history : List Entry) (w x : SeatKnowledge) (p : Placed) (r : Reply) → Next history p.answer.event p.place w x
    → AnswersAt board history p.answer.event r → MovesAtMost board.bound r → p.answer.reply ≡ kept_of r → IsAnswer board x p
answer_next board history w x p r e given few keeps =
    let n = p.answer.event in
    let seen = seen_next history n p.place w x e in
    let same : before p.place x.seen ≡ history = ap (take p.place) seen ∙ front history ((w.number, n) ∷ []) p.place e.place_is in
    let own : x.number ≡ w.number = ap (λ (k : SeatKnowledge). k.number) e.seat in
    record {
      reply = r;
      entry = ap (λ (l : List Entry). slice_get l p.place) seen ∙ (slice_get-append_last history (w.number, n) p.place e.place_is ∙ ap (λ (m : ℕ). Some (m, n)) (sym own));
      given = subst (λ (l : List Entry). AnswersAt board l n r) (sym same) given;
      few = few;
      keeps = keeps;
    }
  where
    front : (xs ys : List Entry) (k : ℕ) → length xs ≡ k → take k (xs ++ ys) ≡ xs
    front [] ys zero long = refl
    front [] ys (suc k) long = absurd (omega (arith, long))
    front (z ∷ xs) ys zero long = absurd (omega (arith, long))
    front (z ∷ xs) ys (suc k) long = ap (λ (l : List Entry). z ∷ l) (front xs ys k (omega (arith, long)))

pub pairs_push : {X : Type 0} (R : X → X → Type 0) (xs : List X) (x : X) → AllPairs R xs → All (λ (y : X). R y x) xs → AllPairs R (xs ++ x ∷ [])
pairs_push R xs x pairs each i j d lt within =
    let long = length_push xs x in
    elim (cases_lt j (length xs)) [
      | inl inside ↦
          let first = get_or_append_left xs (x ∷ []) d i (omega (arith, lt, inside)) in
          let second = get_or_append_left xs (x ∷ []) d j inside in
          rw (first, second) (pairs i j d lt inside)
      | inr past ↦
          let last : length xs ≡ j = omega (arith, past, within, long) in
          let first = get_or_append_left xs (x ∷ []) d i (omega (arith, lt, last)) in
          let second = get_or_push xs x d j last in
          rw (first, second) (each i d (omega (arith, lt, last)))
    ]

-- where all that was done so far was answered
pub record Going (board : Board) (done : List ℕ) (v : SeatKnowledge) (answers : List Placed) (w : SeatKnowledge) : Type 0 where
  pub did : Did v done w
  pub told : answered_events answers ≡ done
  pub each : All (IsAnswer board w) answers
  pub rising : AllPairs (λ (p q : Placed). p.place < q.place) answers
  pub beyond : All (λ (p : Placed). length v.seen ≤ p.place) answers

pub going_none : (board : Board) (v : SeatKnowledge) (answers : List Placed) → answers ≡ [] → Going board [] v answers v
going_none board v answers none = record {
  did = Did_none v;
  told = ap answered_events none;
  each = subst (All (IsAnswer board v)) (sym none) (All-nil (IsAnswer board v));
  rising = subst (AllPairs (λ (p q : Placed). p.place < q.place)) (sym none) (λ i j d lt within. absurd (omega (arith, within)));
  beyond = subst (All (λ (p : Placed). length v.seen ≤ p.place)) (sym none) (All-nil (λ (p : Placed). length v.seen ≤ p.place));
}

long_start : (history seen : List Entry) → StartsWith history seen → length seen ≤ length history
long_start history seen s = let long = ap length s.1 ∙ length-append seen s.0 in omega (arith, long)

pub going_more : (board : Board) (history : List Entry) (done : List ℕ) (v w x : SeatKnowledge) (answers : List Placed) (p : Placed) (r : Reply)
    → Going board done v answers w → Next history p.answer.event p.place w x
    → AnswersAt board history p.answer.event r → MovesAtMost board.bound r → p.answer.reply ≡ kept_of r
    → Going board (done ++ p.answer.event ∷ []) v (answers ++ p ∷ []) x
going_more board history done v w x answers p r g e given few keeps =
    let begins = StartsWith_next history p.answer.event p.place w x e in
    let own : x.number ≡ w.number = ap (λ (k : SeatKnowledge). k.number) e.seat in
    let long = long_start history w.seen e.begins in
    let longer = long_start w.seen v.seen g.did.begins in
    record {
      did = did_more history v w x done p.answer.event p.place g.did e;
      told = map-append (λ (q : Placed). q.answer.event) answers (p ∷ []) ∙ ap (λ (l : List ℕ). l ++ p.answer.event ∷ []) g.told;
      each = All-push (IsAnswer board x) answers p
          (All-weaker (IsAnswer board w) (IsAnswer board x) (λ q a. answer_stays board w x q begins own a) answers g.each)
          (answer_next board history w x p r e given few keeps);
      rising = pairs_push (λ (a b : Placed). a.place < b.place) answers p g.rising
          (All-weaker (IsAnswer board w) (λ (q : Placed). q.place < p.place)
          (λ q a. let here = slice_get_within w.seen q.place (w.number, q.answer.event) a.entry in omega (arith, here, long, e.place_is)) answers g.each);
      beyond = All-push (λ (q : Placed). length v.seen ≤ q.place) answers p g.beyond (omega (arith, long, longer, e.place_is));
    }

-- the same, where the answer's event is known by another name
pub going_with : (board : Board) (history : List Entry) (done : List ℕ) (v w x : SeatKnowledge) (answers : List Placed) (p : Placed) (r : Reply) (n place : ℕ)
    → p.answer.event ≡ n → p.place ≡ place → Going board done v answers w → Next history n place w x
    → AnswersAt board history n r → MovesAtMost board.bound r → p.answer.reply ≡ kept_of r
    → Going board (done ++ n ∷ []) v (answers ++ p ∷ []) x
going_with board history done v w x answers p r n place is at g e given few keeps =
    subst (λ (m : ℕ). Going board (done ++ m ∷ []) v (answers ++ p ∷ []) x) is
    (going_more board history done v w x answers p r g
    (subst (λ (m : ℕ). Next history p.answer.event m w x) (sym at) (subst (λ (m : ℕ). Next history m place w x) (sym is) e))
    (subst (λ (m : ℕ). AnswersAt board history m r) (sym is) given) few keeps)

-- the same, where the call's own contract says all of it
pub next_of : (v w : SeatKnowledge) (n : ℕ) (h : DidEvent v n w) → Next (before h.place w.seen) n h.place v w
next_of v w n h = record {
  seat = h.seat;
  begins = h.begins;
  place_is = length-take-le h.place w.seen (let last = h.last in omega (arith, last));
  turn = h.turn;
  exact = h.exact;
}

pub going_said : (board : Board) (done : List ℕ) (v w x : SeatKnowledge) (answers : List Placed) (p : Placed) (n : ℕ) → Going board done v answers w → DidEvent w n x
    → length x.seen ≡ p.place + 1 → p.answer.event ≡ n → IsAnswer board x p → Going board (done ++ n ∷ []) v (answers ++ p ∷ []) x
going_said board done v w x answers p n g h last event a =
    let e = next_of w x n h in
    let begins = StartsWith_next (before h.place x.seen) n h.place w x e in
    let own : x.number ≡ w.number = ap (λ (k : SeatKnowledge). k.number) e.seat in
    let long = long_start (before h.place x.seen) w.seen e.begins in
    let longer = long_start w.seen v.seen g.did.begins in
    let hlast = h.last in
    let size = e.place_is in
    record {
      did = did_more (before h.place x.seen) v w x done n h.place g.did e;
      told = map-append (λ (q : Placed). q.answer.event) answers (p ∷ []) ∙ ((λ i. g.told i ++ event i ∷ []));
      each = All-push (IsAnswer board x) answers p
          (All-weaker (IsAnswer board w) (IsAnswer board x) (λ q b. answer_stays board w x q begins own b) answers g.each) a;
      rising = pairs_push (λ (b c : Placed). b.place < c.place) answers p g.rising
          (All-weaker (IsAnswer board w) (λ (q : Placed). q.place < p.place)
          (λ q b. let here = slice_get_within w.seen q.place (w.number, q.answer.event) b.entry in omega (arith, here, long, size, last, hlast)) answers g.each);
      beyond = All-push (λ (q : Placed). length v.seen ≤ q.place) answers p g.beyond (omega (arith, long, longer, size, last, hlast));
    }

-- an answer keeps the octets of its frame
pub frame_stays : (plays : Plays) (tones : _) (board : Board) (w x : SeatKnowledge) (p : Placed) → StartsWith x.seen w.seen → IsAnswer board w p → HasFrame plays tones board w p → HasFrame plays tones board x p
frame_stays plays tones board w x p s a h = λ input number.
    let here = slice_get_within w.seen p.place (w.number, p.answer.event) a.entry in
    let same : before p.place x.seen ≡ before p.place w.seen = ap (take p.place) s.1 ∙ take-append-le p.place w.seen s.0 (omega (arith, here)) in
    subst (λ (l : List Entry). IsPlayed plays tones board.trace.external (world_at board l) input p.answer.octets) (sym same) (h input number)

pub frames_stay : (plays : Plays) (tones : _) (board : Board) (w x : SeatKnowledge) (answers : List Placed) → StartsWith x.seen w.seen → All (IsAnswer board w) answers
    → All (HasFrame plays tones board w) answers → All (HasFrame plays tones board x) answers
frames_stay plays tones board w x answers s each frames = λ k d within. frame_stays plays tones board w x (get_or answers k d) s (each k d within) (frames k d within)

-- ---- a worker's end

pub works_whole : (board : Board) (part : List ℕ) (v w : SeatKnowledge) (answers : List Placed) → Going board part v answers w → Works board part v answers true w
works_whole board part v w answers g = record {
  done = part;
  first = ([], sym (append-nil part));
  did = g.did;
  told = ([], sym g.told ∙ sym (append-nil (answered_events answers)), omega arith);
  each = g.each;
  rising = g.rising;
  beyond = g.beyond;
  all = λ yes_whole. g.told;
}

pub works_front : (board : Board) (part done rest : List ℕ) (v w : SeatKnowledge) (answers : List Placed) → part ≡ done ++ rest → Going board done v answers w → Works board part v answers false w
works_front board part done rest v w answers front g = record {
  done = done;
  first = (rest, front);
  did = g.did;
  told = ([], sym g.told ∙ sym (append-nil (answered_events answers)), omega arith);
  each = g.each;
  rising = g.rising;
  beyond = g.beyond;
  all = λ never. absurd (cc never);
}

-- the last event done has no answer
pub works_lacking : (board : Board) (history : List Entry) (part done rest : List ℕ) (n place : ℕ) (v w x : SeatKnowledge) (answers : List Placed) → part ≡ (done ++ n ∷ []) ++ rest
    → Going board done v answers w → Next history n place w x → Works board part v answers false x
works_lacking board history part done rest n place v w x answers front g e =
    let begins = StartsWith_next history n place w x e in
    let own : x.number ≡ w.number = ap (λ (k : SeatKnowledge). k.number) e.seat in
    record {
      done = done ++ n ∷ [];
      first = (rest, front);
      did = did_more history v w x done n place g.did e;
      told = (n ∷ [], ap (λ (l : List ℕ). l ++ n ∷ []) (sym g.told), omega arith);
      each = All-weaker (IsAnswer board w) (IsAnswer board x) (λ q a. answer_stays board w x q begins own a) answers g.each;
      rising = g.rising;
      beyond = g.beyond;
      all = λ never. absurd (cc never);
    }
