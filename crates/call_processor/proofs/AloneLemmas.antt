-- Seat 0 alone: one event after another, in the order of the file.
use Rattle.std.proofs.Common.{◌≡◌, ◌-◌, arith, ℕ, Bool, true, false, List, [], ◌∷◌, ◌++◌, get_or, length, refl, sym, ap, ◌∙◌, subst, append_assoc, append-nil}
use Rattle.std.specs.List.{range_with_len}
use Rattle.std.proofs.lemmas.List.{map-append}
use Rattle.std.proofs.lemmas.List.Elements.{All-cons, All-nil}
use Rattle.circuit_model.specs.declared.circuit.Kind.{Kind}
use Rattle.exchange_core.specs.declared.tool.Tool.{Tool}
use Rattle.exchange_core.specs.Boards.{Board, IsFrame}
use Rattle.exchange_core.specs.Working.{Entry}
use Rattle.exchange_events.specs.declared.trace.Trace.{Trace}
use Rattle.exchange_events.specs.Orders.{Frame_worker}
use Rattle.exchange_events.specs.Sizes.{Dimensions}
use Rattle.seat_history.specs.declared.seat_knowledge.SeatKnowledge.{SeatKnowledge}
use Rattle.seat_history.specs.Histories.{before}
use Rattle.seat_history.specs.Seats.{Settled, after_step}
use Rattle.call_processor.specs.declared.worked.Placed.{Placed}
use Rattle.call_processor.specs.Alone.{DidInOrder, DidNext, HasOctets, HoldsBehind, IsOnly}
use Rattle.call_processor.specs.Frames.{Carrying, HasFrame, IsReady, Plays}
use Rattle.call_processor.specs.Keeping.{HasKept, KeepsWork, has_no_octets}
use Rattle.call_processor.specs.Parts.{is_its}
use Rattle.call_processor.specs.Work.{Did, DidEvent, entries_for}
use Rattle.call_processor.proofs.EventLemmas.{did_more, frame_stays, next_of, Did_none}
use Rattle.call_processor.proofs.FrameLemmas.{frame_its, still_ready}
use Rattle.call_processor.proofs.KeepingLemmas.{Keeps, Stays, keeps_front, keeps_lacking, keeps_more, keeps_none, keeps_whole}

-- where the history before a step is what the seat had seen, the step's entry is all that came
pub next_alone : (turns : ℕ) (history : List Entry) (n : ℕ) (v w : SeatKnowledge) → w ≡ after_step history n v → history ≡ v.seen → Settled turns w → DidNext turns v n w
next_alone turns history n v w is same settled = record {
  grew = ap (λ (k : SeatKnowledge). k.seen) is ∙ ap (λ (l : List Entry). l ++ (v.number, n) ∷ []) same;
  settled = settled;
}

-- what the frame worker does not do is no frame
pub not_frame : (trace : Trace) (n : ℕ) → is_its trace Frame_worker n ≡ false → IsFrame trace n → ⊥
not_frame trace n off frame = let wrong : false ≡ true = sym off ∙ frame_its trace n frame in cc wrong

-- an event that is no frame leaves the engine and the tool ready
pub ready_next : {E : Type 0} (carries : Carrying E) (next : E → ℕ) (sizes : E → Dimensions) (board : Board) (turns n : ℕ) (v w : SeatKnowledge) (engine : E) (tool : Tool) → (IsFrame board.trace n → ⊥)
    → DidNext turns v n w → IsReady carries next sizes board v.seen engine tool → IsReady carries next sizes board w.seen engine tool
ready_next carries next sizes board turns n v w engine tool none d r =
    let entry : Entry = (v.number, n) in
    still_ready carries next sizes board v.seen w.seen engine tool (entry ∷ [], d.grew)
    (All-cons (λ (e : Entry). IsFrame board.trace e.1 → ⊥) entry [] none (All-nil (λ (e : Entry). IsFrame board.trace e.1 → ⊥))) r

-- ---- what is kept of one event

module _ {K : Type 0} (holds : K → List Placed → Type 0) (board : Board) where
  pub kept_said : (seat : SeatKnowledge) (n : ℕ) (P Q : Placed → Type 0) (k m : K) → ((p : Placed) → p.answer.event ≡ n → P p → Q p) → HasKept holds board seat n P k m → HasKept holds board seat n Q k m
  kept_said seat n P Q k m f h = record {
    answer = h.answer;
    place = h.place;
    event_is = h.event_is;
    is = h.is;
    said = f h.answer h.event_is h.said;
    held = h.held;
  }

  -- behind what another sink held
  kept_behind : (seat : SeatKnowledge) (n : ℕ) (octets : Placed → Type 0) (first k m : K) → HasKept holds board seat n octets k m → HasKept (HoldsBehind holds first) board seat n octets k m
  kept_behind seat n octets first k m h = record {
    answer = h.answer;
    place = h.place;
    event_is = h.event_is;
    is = h.is;
    said = h.said;
    held = λ answers held kept have. subst (holds m) (append_assoc kept answers (h.answer ∷ [])) (h.held (kept ++ answers) (held kept have));
  }

module _ (plays : Plays) (tones : Kind → List ℕ) (board : Board) (w : SeatKnowledge) where
  pub quiet_octets : (n : ℕ) → (IsFrame board.trace n → ⊥) → (p : Placed) → p.answer.event ≡ n → has_no_octets p → HasOctets plays tones board w p
  quiet_octets n none p is no_octets = (λ input number. absurd (none (subst (IsFrame board.trace) is (input, number))), λ never. no_octets)

  pub frame_octets : (n : ℕ) → IsFrame board.trace n → (p : Placed) → p.answer.event ≡ n → HasFrame plays tones board w p → HasOctets plays tones board w p
  frame_octets n frame p is plays_it = (plays_it, λ never. absurd (never (subst (IsFrame board.trace) (sym is) frame)))

pub octets_stay : (plays : Plays) (tones : Kind → List ℕ) (board : Board) → Stays board (HasOctets plays tones board)
octets_stay plays tones board w x answers s each octets = λ k d within.
    let h = octets k d within in
    (frame_stays plays tones board w x (get_or answers k d) s (each k d within) h.0, h.1)

-- ---- all events so far

-- seat 0 did these events in this order, each was kept, and nobody did another
pub record GoesOn {K : Type 0} (holds : K → List Placed → Type 0) (board : Board) (octets : SeatKnowledge → Placed → Type 0) (turns : ℕ) (done : List ℕ) (v : SeatKnowledge) (first k : K) (w : SeatKnowledge) : Type 0 where
  pub keeps : Keeps (HoldsBehind holds first) board octets done v k w
  pub grew : w.seen ≡ v.seen ++ entries_for v.number done
  pub settled : Settled turns v → Settled turns w

did_next : (v w x : SeatKnowledge) (done : List ℕ) (n : ℕ) → Did v done w → DidEvent w n x → Did v (done ++ n ∷ []) x
did_next v w x done n d h = did_more (before h.place x.seen) v w x done n h.place d (next_of w x n h)

grew_next : (turns : ℕ) (v w x : SeatKnowledge) (done : List ℕ) (n : ℕ) → w.seen ≡ v.seen ++ entries_for v.number done → w.number ≡ v.number → DidNext turns w n x
    → x.seen ≡ v.seen ++ entries_for v.number (done ++ n ∷ [])
grew_next turns v w x done n grew number d =
    d.grew
    ∙ (ap (λ (m : ℕ). w.seen ++ (m, n) ∷ []) number
    ∙ (ap (λ (l : List Entry). l ++ (v.number, n) ∷ []) grew
    ∙ (append_assoc v.seen (entries_for v.number done) ((v.number, n) ∷ [])
    ∙ ap (λ (l : List Entry). v.seen ++ l) (sym (map-append (λ (m : ℕ). (v.number, m)) done (n ∷ []))))))

-- still nobody else is there
pub still_only : (v w : SeatKnowledge) (done : List ℕ) → Did v done w → IsOnly v → IsOnly w
still_only v w done d only = (d.number ∙ only.0, d.made ∙ (only.1 ∙ sym (ap length d.others)))

module _ {K : Type 0} (holds : K → List Placed → Type 0) (board : Board) (octets : SeatKnowledge → Placed → Type 0) (turns : ℕ) (v : SeatKnowledge) (first : K) where
  pub goes_none : GoesOn holds board octets turns [] v first first v
  goes_none = record {
    keeps = keeps_none (HoldsBehind holds first) board octets v first (λ kept have. subst (holds first) (sym (append-nil kept)) have);
    grew = sym (append-nil v.seen);
    settled = λ s. s;
  }

  pub goes_same : (done more : List ℕ) (k : K) (w : SeatKnowledge) → done ≡ more → GoesOn holds board octets turns done v first k w → GoesOn holds board octets turns more v first k w
  goes_same done more k w same g = subst (λ (l : List ℕ). GoesOn holds board octets turns l v first k w) same g

  -- at the first number of a range
  pub goes_begin : (at : ℕ) → GoesOn holds board octets turns (range_with_len at (at - at)) v first first v
  goes_begin at = let zero_it : 0 ≡ at - at = omega arith in goes_same [] (range_with_len at (at - at)) first v (ap (range_with_len at) zero_it) goes_none

  pub goes_on : Stays board octets → (done : List ℕ) (n : ℕ) (k m : K) (w x : SeatKnowledge) → GoesOn holds board octets turns done v first k w → DidEvent w n x → DidNext turns w n x
      → HasKept holds board x n (octets x) k m → GoesOn holds board octets turns (done ++ n ∷ []) v first m x
  goes_on stays done n k m w x g h d kept = record {
    keeps = keeps_more (HoldsBehind holds first) board octets stays done v w x n k m g.keeps h (kept_behind holds board x n (octets x) first k m kept);
    grew = grew_next turns v w x done n g.grew g.keeps.going.did.number d;
    settled = λ s. d.settled;
  }

  pub in_order_whole : (events : List ℕ) (k : K) (w : SeatKnowledge) → GoesOn holds board octets turns events v first k w → DidInOrder events v true w
  in_order_whole events k w g = record {
    done = events;
    first = ([], sym (append-nil events));
    did = g.keeps.going.did;
    grew = g.grew;
    all = λ yes_whole. refl;
  }

  pub works_whole : (events : List ℕ) (k : K) (w : SeatKnowledge) → GoesOn holds board octets turns events v first k w → KeepsWork (HoldsBehind holds first) board octets events v k true w
  works_whole events k w g = keeps_whole (HoldsBehind holds first) board octets events v w k g.keeps

  -- the last event done was not kept
  pub in_order_lacking : (events done rest : List ℕ) (n : ℕ) (k : K) (w x : SeatKnowledge) → events ≡ (done ++ n ∷ []) ++ rest → GoesOn holds board octets turns done v first k w → DidEvent w n x → DidNext turns w n x
      → DidInOrder events v false x
  in_order_lacking events done rest n k w x front g h d = record {
    done = done ++ n ∷ [];
    first = (rest, front);
    did = did_next v w x done n g.keeps.going.did h;
    grew = grew_next turns v w x done n g.grew g.keeps.going.did.number d;
    all = λ never. absurd (cc never);
  }

  pub works_lacking : Stays board octets → (events done rest : List ℕ) (n : ℕ) (k m : K) (w x : SeatKnowledge) → events ≡ (done ++ n ∷ []) ++ rest → GoesOn holds board octets turns done v first k w → DidEvent w n x
      → ((answers : List Placed) → holds k answers → holds m answers) → KeepsWork (HoldsBehind holds first) board octets events v m false x
  works_lacking stays events done rest n k m w x front g h refused =
      keeps_lacking (HoldsBehind holds first) board octets stays events done rest n v w x k m front g.keeps h (λ answers held kept have. refused (kept ++ answers) (held kept have))

  -- nothing was done
  pub works_none : (events : List ℕ) → KeepsWork (HoldsBehind holds first) board octets events v first false v
  works_none events = keeps_front (HoldsBehind holds first) board octets events [] events v v first refl goes_none.keeps

pub in_order_none : (events : List ℕ) (v : SeatKnowledge) → DidInOrder events v false v
in_order_none events v = record {
  done = [];
  first = (events, refl);
  did = Did_none v;
  grew = sym (append-nil v.seen);
  all = λ never. absurd (cc never);
}

pub in_order_ended : (events : List ℕ) (v w : SeatKnowledge) (whole ended : Bool) → whole ≡ ended → DidInOrder events v ended w → DidInOrder events v whole w
in_order_ended events v w whole ended same did = subst (λ (b : Bool). DidInOrder events v b w) (sym same) did
