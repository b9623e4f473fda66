-- Waiting for a turn, which is one or more steps under one ticket. No definition here guarantees that a seat is ever
-- served, because the seat that has the turn need not pass it. Source: this project; "first come, first served" is a
-- term of Mellor-Crummey and Scott (`Rule.antt`).
use Rattle.std.specs.Prelude.{ℕ, ◌+◌, ◌<◌}
use Rattle.atomic_table.specs.Table.{State}
use Rattle.turn_lock.specs.declared.board.View.{View}
use Rattle.turn_lock.specs.Views.{HoldsTicket, IsServed, Sits, Each, total, next_ticket, now_serving}

module _ {X C : Type 0} where
  -- some seat can go: if a ticket is held, a seat holds the served one. It is served already, or its next look finds
  -- its turn.
  abbrev pub SomebodyCanGo : State X (View C) → Type 0
  SomebodyCanGo s = now_serving s < next_ticket s → (j : ℕ) × (v : View C) × Sits s.views j v × HoldsTicket v.stage (now_serving s)

  -- first come, first served: while a ticket is held, no seat with a later one is served, and the next ticket to be
  -- drawn is later
  abbrev pub KeepsPlace : State X (View C) → Type 0
  KeepsPlace s = Each s.views (λ v. (t : ℕ) → HoldsTicket v.stage t → (t < next_ticket s) × Each s.views (λ w. (u : ℕ) → HoldsTicket w.stage u → t < u → IsServed w.stage → ⊥))

  -- fewer turns come before a ticket than there are seats
  abbrev pub FewComeBefore : State X (View C) → Type 0
  FewComeBefore s = Each s.views (λ v. (t : ℕ) → HoldsTicket v.stage t → t < now_serving s + total (λ (w : View C). 1) s.views)
