-- The views of the seats at a lock, in the order in which the seats were made. A seat that was joined leaves a spent
-- view, which has no setting. The definitions below speak only of live views.
use Rattle.std.specs.Prelude.{◌≡◌, ◌≢◌, ℕ, ◌+◌, IsTrue, is_some, List, [], ◌∷◌, slice_index, Option, Some, None}
use mathlib.Core.Option.{some}
use lib.ListN.{get_elem?}
use Rattle.atomic_table.specs.Table.{State}
use Rattle.turn_lock.specs.declared.board.View.{View}
use Rattle.turn_lock.specs.declared.board.Stage.{Stage}
use Rattle.turn_lock.specs.declared.board.Stage.TheVariants.{Idle, Waits, Served}

-- the seat holds this ticket
abbrev pub HoldsTicket : Stage → ℕ → Type 0
HoldsTicket Idle t = ⊥
HoldsTicket (Waits u) t = u ≡ t
HoldsTicket (Served u) t = u ≡ t

-- it is the seat's turn
abbrev pub IsServed : Stage → Type 0
IsServed Idle = ⊥
IsServed (Waits u) = ⊥
IsServed (Served u) = Unit {0}

-- the number of tickets that a seat holds
abbrev pub tickets_of : Stage → ℕ
tickets_of Idle = 0
tickets_of (Waits u) = 1
tickets_of (Served u) = 1

-- there is a setting, and P holds of it
abbrev pub Under : {C : Type 0} → Option C → (C → Type 0) → Type 0
Under None P = ⊥
Under (Some c) P = P c

-- the view of a seat that was not joined
abbrev pub IsLive : {C : Type 0} → Option C → Type 0
IsLive setting = IsTrue (is_some setting)

-- n for a live view, and 0 for a spent one
abbrev pub weigh : {C : Type 0} → Option C → ℕ → ℕ
weigh None n = 0
weigh (Some c) n = n

module _ {C : Type 0} where
  -- a live view is at this position
  abbrev pub Sits : List (View C) → ℕ → View C → Type 0
  Sits views j v = (get_elem? views j ≡ some v) × IsLive v.setting

  -- P holds of each live view
  abbrev pub Each : List (View C) → (View C → Type 0) → Type 0
  Each views P = (j : ℕ) (v : View C) → Sits views j v → P v

  -- R holds of each two live views, in both orders
  abbrev pub Pairs : (View C → View C → Type 0) → List (View C) → Type 0
  Pairs R views = (i j : ℕ) (v w : View C) → Sits views i v → Sits views j w → i ≢ j → R v w

  -- the sum over the live views
  abbrev pub total : (View C → ℕ) → List (View C) → ℕ
  total f [] = 0
  total f (v ∷ vs) = weigh v.setting (f v) + total f vs

  -- no seat has the turn
  abbrev pub NoneServed : List (View C) → Type 0
  NoneServed views = (j : ℕ) (v : View C) → Sits views j v → IsServed v.stage → ⊥

module _ {X V : Type 0} where
  -- the word with the next ticket to be drawn
  abbrev pub next_ticket : State X V → ℕ
  next_ticket s = slice_index s.words 0

  -- The word with the served ticket. The words between these are padding, so that no two are in one cache line.
  abbrev pub now_serving : State X V → ℕ
  now_serving s = slice_index s.words 16

  -- the word with the position of the next entry
  abbrev pub next_place : State X V → ℕ
  next_place s = slice_index s.words 32
