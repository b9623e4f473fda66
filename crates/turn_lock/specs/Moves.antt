-- The view after each of the ten moves, and the knowledge that its seat gains. Source: this project.
use Rattle.std.specs.Prelude.{◌≡◌, ◌≢◌, ℕ, ◌-◌, ◌<◌, ◌^◌, Bool, true, false, IsTrue, List, [], ◌∷◌, ◌++◌, length, Option, Some, None}
use Rattle.std.specs.List.{AllByRecursion as Every}
use Rattle.atomic_table.specs.Table.{Me, Step}
use Rattle.seat_history.specs.declared.seat_knowledge.JoinedSeat.{JoinedSeat}
use Rattle.seat_history.specs.Histories.{Entry, StartsWith, entries_of}
use Rattle.seat_history.specs.Seats.{HasJoinedAll, Settled, after_join, after_split, after_step, first_seat, new_seat}
use Rattle.turn_lock.specs.declared.board.View.{View}
use Rattle.turn_lock.specs.declared.board.Stage.{Stage}
use Rattle.turn_lock.specs.declared.board.Stage.TheVariants.{Idle, Waits, Served}
use Rattle.turn_lock.specs.Views.{Under, IsLive}
use Rattle.turn_lock.specs.Rule.{IsAt, Reserves}

module _ {C : Type 0} where
  -- seat 0's view after the lock is opened
  abbrev pub first_view : C → ℕ → View C
  first_view opening budget = record { setting = Some opening; budget = budget; known = first_seat budget; stage = Idle; event = 0; due = 0; first = []; second = [] }

  -- the view of a joined seat: it has no knowledge
  abbrev pub spent_view : View C
  spent_view = record { setting = None; budget = 0; known = record { number = 0; left = 0; baton = false; seen = []; own = []; made = 0; kept = [] }; stage = Idle; event = 0; due = 0; first = []; second = [] }

  -- split: a new seat gets n steps, and the baton if b
  abbrev pub view_after_split : ℕ → Bool → View C → View C
  view_after_split n b v = record v { known = after_split n b v.known }

  -- split: the new seat's view begins
  abbrev pub new_view : ℕ → Bool → View C → View C
  new_view n b v = record { setting = v.setting; budget = v.budget; known = new_seat n b v.known; stage = Idle; event = 0; due = 0; first = []; second = [] }

  -- join: the knowledge of seat 0, and both old histories, which stay until meet
  abbrev pub view_after_join : View C → View C → View C
  view_after_join v w = record v { known = after_join v.known w.known; first = v.known.seen; second = w.known.seen }

  -- meet: the old histories are dropped
  abbrev pub view_after_meet : View C → View C
  view_after_meet v = record v { first = []; second = [] }

  -- draw: one step less, a ticket, and the event that is due
  abbrev pub view_after_draw : ℕ → ℕ → View C → View C
  view_after_draw t event v = record v { known = record v.known { left = v.known.left - 1 }; stage = Waits t; event = event; due = 1 }

  -- renew: one step less, and the next event that is due; the ticket stays
  abbrev pub view_after_renew : ℕ → View C → View C
  view_after_renew event v = record v { known = record v.known { left = v.known.left - 1 }; event = event; due = 1 }

  -- append: the history that the seat has seen and its own entries have the entry of the step, which is not due any
  -- more
  abbrev pub view_after_append : View C → View C
  view_after_append v = record v { known = record v.known { seen = v.known.seen ++ (v.known.number, v.event) ∷ []; own = v.known.own ++ (v.known.number, v.event) ∷ [] }; due = 0 }

  -- pass: the seat has no ticket
  abbrev pub view_after_pass : View C → View C
  view_after_pass v = record v { stage = Idle }

  -- the knowledge of seat 0 adds up
  abbrev pub KnowsAll : View C → Type 0
  KnowsAll v = Settled v.budget v.known

module _ {C : Type 0} (reserved : C → ℕ → Type 0) where
  -- an entry that a seat need not have seen: neither its own nor a joined seat's, and not a reserved one if the seat
  -- holds the baton
  pub record IsForeign (setting : Option C) (number : ℕ) (baton : Bool) (kept : List JoinedSeat) (e : Entry) : Type 0 where
    pub number_is : e.0 ≢ number
    pub kept_are : Every (λ (k : JoinedSeat). e.0 ≢ k.number) kept
    pub plain : IsTrue baton → Reserves reserved setting e.1 → ⊥

  abbrev pub Foreign : View C → Entry → Type 0
  Foreign v e = IsForeign v.setting v.known.number v.known.baton v.known.kept e

module _ {S C : Type 0} (setting : S → C) (journal : S → List Entry) (room : S → ℕ) where
  -- the seat holds the slot, with the state at this history
  abbrev pub HoldsState : Me (Option S) (View C) → List Entry → Type 0
  HoldsState m log = (x : S) × (m.1 ≡ (0, Some x) ∷ []) × IsAt setting journal room m.0.setting m.0.budget log x

  -- the seat holds the slot, with its own entry after the history that it has seen
  abbrev pub HoldsOwnEntry : Me (Option S) (View C) → Type 0
  HoldsOwnEntry m = HoldsState m (m.0.known.seen ++ (m.0.known.number, m.0.event) ∷ [])

module _ {S C : Type 0} (setting : S → C) (journal : S → List Entry) (room : S → ℕ) (reserved : C → ℕ → Type 0) where
  -- draw: one step less, the ticket that was found, and its event
  abbrev pub IsDraw : ℕ → Step (Option S) → Me (Option S) (View C) → ℕ → Me (Option S) (View C) → Type 0
  IsDraw event st m n m' = (m'.0 ≡ view_after_draw n event m.0) × (m'.1 ≡ m.1)

  -- look, when the turn begins: the seat has seen the whole history, and owns the slot with the state at that history
  pub record Gets (t : ℕ) (m m' : Me (Option S) (View C)) : Type 0 where
    pub rest : List Entry
    pub view : m'.0 ≡ record m.0 { known = record m.0.known { seen = m.0.known.seen ++ rest }; stage = Served t }
    pub foreign : Every (Foreign reserved m.0) rest
    pub own_is : m.0.known.own ≡ entries_of m.0.known.number (m.0.known.seen ++ rest)
    pub within : length (m.0.known.seen ++ rest) < m.0.budget
    pub alone : m.0.known.number ≡ 0 → HasJoinedAll m.0.known → rest ≡ []
    pub state : S
    pub slot : m'.1 ≡ (0, Some state) ∷ m.1
    pub at : IsAt setting journal room m.0.setting m.0.budget (m.0.known.seen ++ rest) state

  -- look: the turn begins if the word is the ticket of the seat, and otherwise nothing changes
  abbrev pub IsLook : Step (Option S) → Me (Option S) (View C) → ℕ → Me (Option S) (View C) → Type 0
  IsLook st m n m' = (t : ℕ) → m.0.stage ≡ Waits t → (n ≡ t → Gets t m m') × (n ≢ t → m' ≡ m)

  -- The seat has the turn for an event, with the state at the whole history. v is its view before the call. Other seats
  -- stepped rest in between, which is empty if the seat kept the turn.
  pub record HasTurn (keeps : Bool) (event : ℕ) (v : View C) (m : Me (Option S) (View C)) : Type 0 where
    pub rest : List Entry
    pub ticket : ℕ
    pub view : m.0 ≡ record v { known = record v.known { left = v.known.left - 1; seen = v.known.seen ++ rest }; stage = Served ticket; event = event; due = 1 }
    pub live : IsLive v.setting
    pub foreign : Every (Foreign reserved v) rest
    pub own_is : v.known.own ≡ entries_of v.known.number (v.known.seen ++ rest)
    pub within : length (v.known.seen ++ rest) < v.budget
    pub alone : v.known.number ≡ 0 → HasJoinedAll v.known → rest ≡ []
    pub kept : IsTrue keeps → rest ≡ []
    pub state : HoldsState setting journal room m (v.known.seen ++ rest)

module _ {S C : Type 0} where
  -- renew: one step less, and the event that is due; all entries with the number of the seat are its own
  abbrev pub IsRenew : ℕ → Step (Option S) → Me (Option S) (View C) → ℕ → Me (Option S) (View C) → Type 0
  IsRenew event st m n m' = (m' ≡ (view_after_renew event m.0, m.1)) × (m.0.known.own ≡ entries_of m.0.known.number m.0.known.seen) × (length m.0.known.seen < m.0.budget)

  -- append: the entry of the step is appended to the history, at the position that was found; the view of seat 0
  -- accounts for the history
  abbrev pub IsAppend : Step (Option S) → Me (Option S) (View C) → ℕ → Me (Option S) (View C) → Type 0
  IsAppend st m n m' = (m' ≡ (view_after_append m.0, m.1)) × (n ≡ length m.0.known.seen) × (m.0.known.number ≡ 0 → KnowsAll (view_after_append m.0))

  -- pass: no seat owns the slot
  abbrev pub IsPass : Step (Option S) → Me (Option S) (View C) → ℕ → Me (Option S) (View C) → Type 0
  IsPass st m n m' = m' ≡ (view_after_pass m.0, [])

  -- meet: both old histories are prefixes of the one that the seat has seen
  abbrev pub IsMeet : Step (Option S) → Me (Option S) (View C) → ℕ → Me (Option S) (View C) → Type 0
  IsMeet st m n m' = (m' ≡ (view_after_meet m.0, m.1)) × StartsWith m.0.known.seen m.0.first × StartsWith m.0.known.seen m.0.second × KnowsAll m.0

  -- between two calls: the seat has no ticket
  pub record IsFree (m : Me (Option S) (View C)) : Type 0 where
    pub live : IsLive m.0.setting
    pub stage : m.0.stage ≡ Idle
    pub slots : m.1 ≡ []
    pub none_due : m.0.due ≡ 0

module _ {S C : Type 0} (setting : S → C) (journal : S → List Entry) (room : S → ℕ) where
  -- between two calls: the seat has kept the turn, has seen the whole history and owns the slot with the state
  pub record HasKept (m : Me (Option S) (View C)) : Type 0 where
    pub live : IsLive m.0.setting
    pub served : (t : ℕ) × (m.0.stage ≡ Served t)
    pub none_due : m.0.due ≡ 0
    pub state : HoldsState setting journal room m m.0.known.seen

  -- between two calls: the seat has kept the turn, or has no ticket
  abbrev pub Rests : Bool → Me (Option S) (View C) → Type 0
  Rests true m = HasKept m
  Rests false m = IsFree m

module _ {C R T : Type 0} (reserved : C → ℕ → Type 0) (answers : C → List Entry → ℕ → ℕ → R → T → Type 0) where
  -- A step: draw and look, or renew if the seat kept the turn, then take, give and append. Other seats stepped rest
  -- between the history that the seat had seen and its step. rest is empty if the seat kept the turn. The stage is not
  -- determined, because pass may follow.
  pub record IsStep (keeps : Bool) (v : View C) (event place : ℕ) (reply : R) (tool : T) (w : View C) : Type 0 where
    pub rest : List Entry
    pub stage : Stage
    pub view : w ≡ record v { known = after_step (v.known.seen ++ rest) event v.known; stage = stage; event = event; due = 0 }
    pub foreign : Every (Foreign reserved v) rest
    pub own_is : v.known.own ≡ entries_of v.known.number (v.known.seen ++ rest)
    pub place_is : place ≡ length (v.known.seen ++ rest)
    pub below : place < v.budget
    pub reply_is : Under v.setting (λ c. answers c (v.known.seen ++ rest) v.known.number event reply tool)
    pub alone : v.known.number ≡ 0 → HasJoinedAll v.known → rest ≡ []
    pub kept : IsTrue keeps → rest ≡ []
    pub settled : v.known.number ≡ 0 → KnowsAll w

module _ {S C : Type 0} (setting : S → C) (journal : S → List Entry) where
  -- the state at the end
  pub record IsEnd (v : View C) (x : S) : Type 0 where
    pub setting_is : v.setting ≡ Some (setting x)
    pub journal_is : journal x ≡ v.known.seen
    pub settled : KnowsAll v

module _ {S C : Type 0} (setting : S → C) (journal : S → List Entry) (room : S → ℕ) where
  -- between two calls: the fields of the seat agree with its view
  pub record MatchesView (me : Me (Option S) (View C)) (number left : ℕ) (baton : Bool) (made : ℕ) (keeps : Bool) : Type 0 where
    pub rests : Rests setting journal room keeps me
    pub number_is : me.0.known.number ≡ number
    pub left_is : me.0.known.left ≡ left
    pub baton_is : me.0.known.baton ≡ baton
    pub made_is : me.0.known.number ≡ 0 → me.0.known.made ≡ made
    pub small : me.0.budget < 2 ^ 32
