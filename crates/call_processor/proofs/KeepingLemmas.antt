-- What is kept of a worker's events, one after another.
use Rattle.std.proofs.Common.{◌≡◌, ℕ, Bool, true, false, List, [], ◌∷◌, ◌++◌, Result, Ok, Err, OnOk, refl, sym, subst}
use Rattle.std.specs.List.{All}
use Rattle.std.proofs.lemmas.List.Elements.{All-nil, All-push}
use Rattle.seat_history.specs.declared.seat_knowledge.SeatKnowledge.{SeatKnowledge}
use Rattle.seat_history.specs.Histories.{StartsWith, before}
use Rattle.exchange_core.specs.Boards.{Board}
use Rattle.call_processor.specs.declared.worked.Placed.{Placed}
use Rattle.call_processor.specs.Keeping.{HasKept, KeepsWork}
use Rattle.call_processor.specs.Work.{DidEvent, IsAnswer}
use Rattle.call_processor.proofs.EventLemmas.{Going, StartsWith_next, going_none, going_said, next_of, works_front, works_lacking, works_whole}

pub on_ok : {A E : Type 0} {P Q : Type 0} (r : Result A E) → (P → Q) → OnOk r P → OnOk r Q
on_ok (Ok a) f p = f p
on_ok (Err e) f p = tt

-- what was said of octets is still true, however much more of the history the seat sees
abbrev pub Stays : (Board) → (SeatKnowledge → Placed → Type 0) → Type 0
Stays board octets = (w x : SeatKnowledge) (answers : List Placed) → StartsWith x.seen w.seen → All (IsAnswer board w) answers → All (octets w) answers → All (octets x) answers

-- the events that were done so far are kept
pub record Keeps {K : Type 0} (holds : K → List Placed → Type 0) (board : Board) (octets : SeatKnowledge → Placed → Type 0) (done : List ℕ) (v : SeatKnowledge) (sink : K) (w : SeatKnowledge) : Type 0 where
  pub answers : List Placed
  pub held : holds sink answers
  pub going : Going board done v answers w
  pub said : All (octets w) answers

module _ {K : Type 0} (holds : K → List Placed → Type 0) (board : Board) (octets : SeatKnowledge → Placed → Type 0) where
  pub keeps_none : (v : SeatKnowledge) (k : K) → holds k [] → Keeps holds board octets [] v k v
  keeps_none v k held = record { answers = []; held = held; going = going_none board v [] refl; said = All-nil (octets v) }

  pub keeps_done : (done more : List ℕ) (v w : SeatKnowledge) (k : K) → done ≡ more → Keeps holds board octets done v k w → Keeps holds board octets more v k w
  keeps_done done more v w k same g = subst (λ (l : List ℕ). Keeps holds board octets l v k w) same g

  pub keeps_more : Stays board octets → (done : List ℕ) (v w x : SeatKnowledge) (n : ℕ) (k m : K) → Keeps holds board octets done v k w → DidEvent w n x → HasKept holds board x n (octets x) k m
      → Keeps holds board octets (done ++ n ∷ []) v m x
  keeps_more stays done v w x n k m g h kept = record {
    answers = g.answers ++ kept.answer ∷ [];
    held = kept.held g.answers g.held;
    going = going_said board done v w x g.answers kept.answer n g.going h kept.place kept.event_is kept.is;
    said = All-push (octets x) g.answers kept.answer (stays w x g.answers (StartsWith_next (before h.place x.seen) n h.place w x (next_of w x n h)) g.going.each g.said) kept.said;
  }

  pub keeps_whole : (part : List ℕ) (v w : SeatKnowledge) (k : K) → Keeps holds board octets part v k w → KeepsWork holds board octets part v k true w
  keeps_whole part v w k g = record { answers = g.answers; held = g.held; works = works_whole board part v w g.answers g.going; said = g.said }

  pub keeps_front : (part done rest : List ℕ) (v w : SeatKnowledge) (k : K) → part ≡ done ++ rest → Keeps holds board octets done v k w → KeepsWork holds board octets part v k false w
  keeps_front part done rest v w k front g = record { answers = g.answers; held = g.held; works = works_front board part done rest v w g.answers front g.going; said = g.said }

  -- the last event done was not kept
  pub keeps_lacking : Stays board octets → (part done rest : List ℕ) (n : ℕ) (v w x : SeatKnowledge) (k m : K) → part ≡ (done ++ n ∷ []) ++ rest → Keeps holds board octets done v k w → DidEvent w n x
      → ((answers : List Placed) → holds k answers → holds m answers) → KeepsWork holds board octets part v m false x
  keeps_lacking stays part done rest n v w x k m front g h refused =
      let e = next_of w x n h in
      record {
        answers = g.answers;
        held = refused g.answers g.held;
        works = works_lacking board (before h.place x.seen) part done rest n h.place v w x g.answers front g.going e;
        said = stays w x g.answers (StartsWith_next (before h.place x.seen) n h.place w x e) g.going.each g.said;
      }

  -- a seat that comes to its part before it did anything
  pub keeps_nothing : (part : List ℕ) (v : SeatKnowledge) (k : K) → holds k [] → KeepsWork holds board octets part v k false v
  keeps_nothing part v k held = keeps_front part [] part v v k refl (keeps_none v k held)

-- which of its endings a worker came to
pub works_ended : {K : Type 0} (holds : K → List Placed → Type 0) (board : Board) (octets : SeatKnowledge → Placed → Type 0) (part : List ℕ) (v w : SeatKnowledge) (k : K) (whole ended : Bool) → whole ≡ ended → KeepsWork holds board octets part v k ended w
    → KeepsWork holds board octets part v k whole w
works_ended holds board octets part v w k whole ended same works = subst (λ (b : Bool). KeepsWork holds board octets part v k b w) (sym same) works
