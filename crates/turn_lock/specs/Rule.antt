-- The rule of the lock: the invariant between any two moves, in seven parts. Source: this project. The two ticket words
-- make a ticket lock: J. M. Mellor-Crummey and M. L. Scott, "Algorithms for scalable synchronization on shared-memory
-- multiprocessors", ACM Transactions on Computer Systems 9 (1), 1991, section 2.2.
use Rattle.std.specs.Prelude.{◌≡◌, ◌≢◌, ℕ, ◌+◌, ◌<◌, ◌≤◌, ◌^◌, IsTrue, List, length, Option, Some}
use Rattle.std.specs.List.{AllByRecursion as Every}
use mathlib.Core.Option.{none, some}
use lib.ListN.{get_elem?}
use Rattle.atomic_table.specs.Table.{State}
use Rattle.seat_history.specs.declared.seat_knowledge.JoinedSeat.{JoinedSeat}
use Rattle.seat_history.specs.Histories.{Entry, StartsWith, unseen}
use Rattle.turn_lock.specs.declared.board.View.{View}
use Rattle.turn_lock.specs.Entries.{Once, IsWhole}
use Rattle.turn_lock.specs.Views.{HoldsTicket, IsServed, tickets_of, Under, Sits, Each, Pairs, total, NoneServed, next_place, next_ticket, now_serving}

module _ {X C : Type 0} where
  -- 1. One history. Some seat has seen all of it, each seat has seen a prefix of it, and `next_place` is its length.
  pub record OneHistory (log : List Entry) (s : State X (View C)) : Type 0 where
    pub length_is : next_place s ≡ length log
    pub longest : (j : ℕ) × (v : View C) × Sits s.views j v × (v.known.seen ≡ log)
    pub begun : Each s.views (λ v. StartsWith log v.known.seen)

  -- 2. Tickets. The entries, the due events and the steps left add up to the budget, and at most one ticket was drawn
  -- per step made. The held tickets are the numbers from `now_serving` up to `next_ticket`, and one seat holds each.
  pub record Tickets (budget : ℕ) (s : State X (View C)) : Type 0 where
    pub budget_is : next_place s + total (λ (v : View C). v.due) s.views + total (λ (v : View C). v.known.left) s.views ≡ budget
    pub drawn : next_ticket s + total (λ (v : View C). v.known.left) s.views ≤ budget
    pub held : now_serving s + total (λ (v : View C). tickets_of v.stage) s.views ≡ next_ticket s
    pub between : Each s.views (λ v. (t : ℕ) → HoldsTicket v.stage t → (now_serving s ≤ t) × (t < next_ticket s))
    pub one_each : Pairs (λ v w. (t : ℕ) → HoldsTicket v.stage t → HoldsTicket w.stage t → ⊥) s.views

module _ {C : Type 0} where
  -- 3. Own entries. A seat's own are the history's entries with its number, and it has seen them all; the same holds of
  -- the entries that seat 0 keeps for each seat that was joined. No two of these numbers are the same, and none is
  -- above the number of seats made. A number that was not made has no entry.
  pub record OwnEntries (log : List Entry) (made : ℕ) (views : List (View C)) : Type 0 where
    pub own : Each views (λ v. IsWhole log v.known.seen v.known.number v.known.own)
    pub kept : Each views (λ v. Every (λ (k : JoinedSeat). IsWhole log v.known.seen k.number k.own) v.known.kept)
    pub differ : Pairs (λ v w. v.known.number ≢ w.known.number) views
    pub gone : Pairs (λ v w. Every (λ (k : JoinedSeat). k.number ≢ w.known.number) v.known.kept) views
    pub not_mine : Each views (λ v. Every (λ (k : JoinedSeat). k.number ≢ v.known.number) v.known.kept)
    pub kept_once : Each views (λ v. Once v.known.kept)
    pub number_made : Each views (λ v. v.known.number ≤ made)
    pub kept_made : Each views (λ v. Every (λ (k : JoinedSeat). k.number ≤ made) v.known.kept)
    pub entries_made : Every (λ (e : Entry). e.0 ≤ made) log

module _ {S C : Type 0} (setting : S → C) (journal : S → List Entry) (room : S → ℕ) where
  -- the state is at this history, and has capacity for the remaining steps
  pub record IsAt (opening : Option C) (budget : ℕ) (log : List Entry) (x : S) : Type 0 where
    pub setting_is : opening ≡ Some (setting x)
    pub journal_is : journal x ≡ log
    pub roomy : budget ≤ room x + length log

  -- 4. The slot's way. If a seat is served, its ticket is `now_serving`, it has seen the whole history, and the slot is
  -- out with it, in a step and between two steps of a kept turn. If no seat is served, the slot is at home and holds
  -- the state, whose journal is the history. Every view has the setting and the budget of the opening, and no move
  -- changes these.
  pub record SlotsWay (opening : C) (budget : ℕ) (log : List Entry) (s : State (Option S) (View C)) : Type 0 where
    pub turn : Each s.views (λ v. IsServed v.stage → HoldsTicket v.stage (now_serving s) × (v.known.seen ≡ log))
    pub home : NoneServed s.views → (x : S) × (get_elem? s.homes 0 ≡ some (some (Some x))) × IsAt (Some opening) budget log x
    pub out : Each s.views (λ v. IsServed v.stage → get_elem? s.homes 0 ≡ some none)
    pub opened : Each s.views (λ v. (v.setting ≡ Some opening) × (v.budget ≡ budget))

module _ {C : Type 0} (reserved : C → ℕ → Type 0) where
  -- the setting reserves the event
  abbrev pub Reserves : Option C → ℕ → Type 0
  Reserves setting event = Under setting (λ c. reserved c event)

  -- 5. The baton. At most one seat holds it. A seat with a ticket for a reserved event holds the baton, and the holder
  --    has seen every reserved entry of the history.
  pub record Baton (log : List Entry) (views : List (View C)) : Type 0 where
    pub one : Pairs (λ v w. IsTrue v.known.baton → IsTrue w.known.baton → ⊥) views
    pub asked : Each views (λ v. (t : ℕ) → HoldsTicket v.stage t → Reserves v.setting v.event → IsTrue v.known.baton)
    pub seen : Each views (λ v. IsTrue v.known.baton → Every (λ (e : Entry). Reserves v.setting e.1 → ⊥) (unseen v.known.seen log))

module _ {C : Type 0} where
  -- 6. The number of seats. Seat 0, the seats that it made and the joined seats add up. Seat 0 counts the seats made,
  --    and only seat 0 stores entries of others.
  pub record HowMany (made : ℕ) (views : List (View C)) : Type 0 where
    pub count : total (λ (v : View C). 1) views + total (λ (v : View C). length v.known.kept) views ≡ made + 1
    pub counts : Each views (λ v. v.known.number ≡ 0 → v.known.made ≡ made)
    pub keeps : Each views (λ v. v.known.number ≢ 0 → length v.known.kept ≡ 0)

  -- 7. Old histories. The histories that seat 0 and the seat that it joins had seen are prefixes of the one that seat 0
  --    has seen.
  abbrev pub OldHistories : List (View C) → Type 0
  OldHistories views = Each views (λ v. StartsWith v.known.seen v.first × StartsWith v.known.seen v.second)

module _ {S C : Type 0} (setting : S → C) (journal : S → List Entry) (room : S → ℕ) (reserved : C → ℕ → Type 0) where
  -- The rule of a lock that was opened with this setting and this budget: all seven parts hold for some history and
  -- some number of seats made.
  pub record TurnRule (opening : C) (budget : ℕ) (s : State (Option S) (View C)) : Type 0 where
    pub log : List Entry
    pub made : ℕ
    pub small : budget < 2 ^ 32
    pub words : length s.words ≡ 33
    pub slots : length s.homes ≡ 1
    pub one_history : OneHistory log s
    pub tickets : Tickets budget s
    pub own_entries : OwnEntries log made s.views
    pub slots_way : SlotsWay setting journal room opening budget log s
    pub baton : Baton reserved log s.views
    pub how_many : HowMany made s.views
    pub old_histories : OldHistories s.views
