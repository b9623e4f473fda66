-- What is written where nothing is, a run on another board, and the room for an order.
use Rattle.std.proofs.Common.{rules, ◌≡◌, ℕ, ◌+◌, ◌≤◌, List, [], length, Option, Some, None, sym, ap, subst, arith}
use Rattle.std.specs.Io.KnownBytes.{Keeps}
use Rattle.seat_history.specs.declared.seat_knowledge.SeatKnowledge.{SeatKnowledge}
use Rattle.seat_history.specs.Histories.{Entry}
use Rattle.exchange_core.specs.Boards.{Board}
use Rattle.segment_run.specs.Segment.{IsChief}

pub keeps : (known : Option (List ℕ)) → Keeps known known
keeps None = search rules
keeps (Some bytes) = search rules

-- what holds on a board holds on one that equals it
pub moved : (P : Board → List ℕ → Type 0) (board wanted : Board) (order seen : List ℕ) → board ≡ wanted → order ≡ seen → P board seen → P wanted order
moved P board wanted order seen same is holds = subst (λ b. P b order) same (subst (λ o. P board o) (sym is) holds)

-- seat 0's history has an entry for each event at the most
pub fits_order : (order : List ℕ) (journal : List Entry) (seat : SeatKnowledge) (turns events room : ℕ) → order ≡ [] → journal ≡ seat.seen → IsChief turns seat → turns ≡ events → events ≤ room → length order + length journal ≤ room
fits_order order journal seat turns events room none is chief same fits = let whole = chief.settled.whole chief.joined in let a = ap length none in let b = ap length is in omega arith
