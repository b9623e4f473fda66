-- What seat 0 has for the next segment, and a seat for a part of it.
use Rattle.std.proofs.Common.{◌≡◌, ℕ, ◌<◌, ◌≤◌, ◌&&◌, nat_eq, not, Bool, true, false, cond, List, [], ◌∷◌, filter, length, refl, sym, ap, ◌∙◌, subst, arith}
use Rattle.std.proofs.lemmas.List.Filters.{length-filter_both}
use Rattle.std.proofs.lemmas.List.FromFn.{length-range_with_len}
use Rattle.exchange_events.specs.declared.trace.Trace.{Trace}
use Rattle.exchange_events.specs.Orders.{Worker, file_order, segment_of}
use Rattle.exchange_events.specs.Sound.{IsSound}
use Rattle.exchange_core.specs.Boards.{Board}
use Rattle.exchange_core.specs.Working.{order_of}
use Rattle.exchange_core.specs.declared.tool.Tool.{Tool}
use Rattle.exchange_events.specs.Sizes.{Dimensions}
use Rattle.seat_history.specs.declared.seat_knowledge.SeatKnowledge.{SeatKnowledge}
use Rattle.seat_history.specs.Seats.{first_seat}
use Rattle.call_processor.specs.Frames.{Carrying, IsReady, IsReadyFor}
use Rattle.call_processor.specs.Parts.{events_of_segment, is_its, part_of}
use Rattle.segment_run.specs.Segment.{IsChief}
use Rattle.segment_run.specs.Segments.{IsDoneBelow}
use Rattle.segment_run.proofs.LoadLemmas.{length-events_of_segment-le}
use Rattle.segment_run.proofs.OrderLemmas.{first_chief, IsDoneBelow_none, seen_done}

-- ---- the seat that a board begins with

pub first_is_chief : (turns n : ℕ) (v : SeatKnowledge) → turns ≡ n → v ≡ first_seat n → IsChief turns v
first_is_chief turns n v same fresh = subst (IsChief turns) (sym (fresh ∙ ap first_seat (sym same))) (first_chief turns)

pub first_has_done : (trace : Trace) (n : ℕ) (v : SeatKnowledge) → v ≡ first_seat n → IsDoneBelow trace 0 (order_of v.seen)
first_has_done trace n v fresh = subst (λ (w : SeatKnowledge). IsDoneBelow trace 0 (order_of w.seen)) (sym fresh) (IsDoneBelow_none trace)

pub first_made : (n : ℕ) (v : SeatKnowledge) → v ≡ first_seat n → v.made ≡ 0
first_made n v fresh = ap (λ (w : SeatKnowledge). w.made) fresh

pub first_is_ready : {E : Type 0} (carries : Carrying E) (next : E → ℕ) (sizes : E → Dimensions) (board : Board) (n : ℕ) (v : SeatKnowledge) (engine : E) (tool : Tool)
    → v ≡ first_seat n → IsReady carries next sizes board [] engine tool → IsReadyFor carries next sizes board v engine tool
first_is_ready carries next sizes board n v engine tool fresh ready = subst (λ (w : SeatKnowledge). IsReadyFor carries next sizes board w engine tool) (sym fresh) ready

-- ---- turns

fewer : (p q : ℕ → Bool) (xs : List ℕ) → length (filter (λ n. p n && q n) xs) ≤ length (filter p xs)
fewer p q [] = omega arith
fewer p q (x ∷ xs) = one (p x) (q x) (fewer p q xs)
  where
    one : (a b : Bool) → length (filter (λ (n : ℕ). p n && q n) xs) ≤ length (filter p xs)
        → length (cond (a && b) (x ∷ filter (λ (n : ℕ). p n && q n) xs) (filter (λ (n : ℕ). p n && q n) xs)) ≤ length (cond a (x ∷ filter p xs) (filter p xs))
    one true true rest = omega (arith, rest)
    one true false rest = omega (arith, rest)
    one false true rest = rest
    one false false rest = rest

-- a part is no longer than its segment
part_few : (trace : Trace) (segment : ℕ) (worker : Worker) → length (part_of trace segment worker) ≤ length (events_of_segment trace segment)
part_few trace segment worker = fewer (λ n. nat_eq (segment_of trace.segments n) segment) (is_its trace worker) (file_order (length trace.events))

-- nor longer than the trace
all_few : (trace : Trace) (segment : ℕ) → length (events_of_segment trace segment) ≤ length trace.events
all_few trace segment =
    let p : ℕ → Bool = λ n. nat_eq (segment_of trace.segments n) segment in
    let both = length-filter_both p (λ n. not (p n)) (λ n. refl) (file_order (length trace.events)) in
    let size = length-range_with_len 1 (length trace.events) in
    omega (arith, both, size)

-- the first seat has a turn for each event of a part
pub length-part_of_first-le : (trace : Trace) (segment : ℕ) (worker : Worker) (v : SeatKnowledge) → v ≡ first_seat (length trace.events) → length (part_of trace segment worker) ≤ v.left
length-part_of_first-le trace segment worker v fresh =
    let part = part_few trace segment worker in
    let all = all_few trace segment in
    let left = ap (λ (w : SeatKnowledge). w.left) fresh in
    omega (arith, part, all, left)

-- so has seat 0 where all segments before were done
pub length-part_of_chief-le : (trace : Trace) (segment : ℕ) (worker : Worker) (turns : ℕ) (v : SeatKnowledge) → turns ≡ length trace.events → IsSound trace → segment < length trace.segments → IsChief turns v
    → IsDoneBelow trace segment (order_of v.seen) → length (part_of trace segment worker) ≤ v.left
length-part_of_chief-le trace segment worker turns v same sound within chief below =
    let board : Board = record { trace = trace; slots = 0; bound = 0 } in
    let part = part_few trace segment worker in
    let begun = seen_done trace segment v sound (omega (arith, within)) below in
    let all = length-events_of_segment-le board trace segment v refl sound within (subst (λ (n : ℕ). IsChief n v) same chief) begun in
    omega (arith, part, all)
