-- The knowledge of a lock seat, and its change by each call. Source: this project.
use Rattle.std.specs.Prelude.{◌≡◌, ◌≢◌, ℕ, ◌+◌, ◌-◌, ◌≤◌, ◌||◌, nat_eq, Bool, true, false, IsTrue, if◌then◌else◌, List, [], ◌∷◌, ◌++◌, map, length, All, AllPairs}
use Rattle.std.specs.List.{list_any}
use Rattle.seat_history.specs.declared.seat_knowledge.JoinedSeat.{JoinedSeat}
use Rattle.seat_history.specs.declared.seat_knowledge.SeatKnowledge.{SeatKnowledge}
use Rattle.seat_history.specs.Histories.{Entry, longer, entries_of}

-- seat 0 at the start: it has all turns and the baton
abbrev pub first_seat : ℕ → SeatKnowledge
first_seat turns = record { number = 0; left = turns; baton = true; seen = []; own = []; made = 0; kept = [] }

-- seat 0 after it made another seat: n turns fewer, no baton if b, and one more seat made
abbrev pub after_split : ℕ → Bool → SeatKnowledge → SeatKnowledge
after_split n b seat = record seat { left = seat.left - n; baton = if b then false else seat.baton; made = seat.made + 1 }

-- the new seat: the next number, n turns, the baton if b, the history that seat 0 has seen, and no own entry
abbrev pub new_seat : ℕ → Bool → SeatKnowledge → SeatKnowledge
new_seat n b seat = record { number = seat.made + 1; left = n; baton = b; seen = seat.seen; own = []; made = 0; kept = [] }

-- a seat after it processed an event at this history: one turn less, and the entry is added to the history and to the
-- seat's own
abbrev pub after_step : List Entry → ℕ → SeatKnowledge → SeatKnowledge
after_step history event seat = record seat { left = seat.left - 1; seen = history ++ (seat.number, event) ∷ []; own = seat.own ++ (seat.number, event) ∷ [] }

-- the record of a joined seat: its own entries, with its number
abbrev pub joined_seat : SeatKnowledge → JoinedSeat
joined_seat other = record { number = other.number; own = other.own }

-- seat 0 after it joined another seat: the longer history, the turns of both, the baton of either, and the other's
-- entries
abbrev pub after_join : SeatKnowledge → SeatKnowledge → SeatKnowledge
after_join seat other = record seat { left = seat.left + other.left; baton = seat.baton || other.baton; seen = longer seat.seen other.seen; kept = joined_seat other ∷ seat.kept }

-- every seat that seat 0 has made is joined
abbrev pub HasJoinedAll : SeatKnowledge → Type 0
HasJoinedAll seat = seat.made ≡ length seat.kept

-- the number is the seat's, or a joined seat's
abbrev pub Accounts : SeatKnowledge → ℕ → Type 0
Accounts seat n = IsTrue (nat_eq n seat.number || list_any (nat_eq n) (map (λ (k : JoinedSeat). k.number) seat.kept))

-- The knowledge of seat 0 adds up. Its own entries are those with its number, and the entries of each joined seat are
-- those with that seat's number. These numbers differ from each other and from its own. No number of an entry is above
-- the number of seats made. If all other seats are joined, each entry is its own or a joined seat's, and the entries
-- and the turns left add up to the number of turns.
pub record Settled (turns : ℕ) (seat : SeatKnowledge) : Type 0 where
  pub own : seat.own ≡ entries_of seat.number seat.seen
  pub kept : All (λ (k : JoinedSeat). k.own ≡ entries_of k.number seat.seen) seat.kept
  pub others : All (λ (k : JoinedSeat). (k.number ≢ seat.number) × (k.number ≤ seat.made)) seat.kept
  pub once : AllPairs (λ (k m : JoinedSeat). m.number ≢ k.number) seat.kept
  pub entries_made : All (λ (e : Entry). e.0 ≤ seat.made) seat.seen
  pub within : seat.left ≤ turns
  pub accounted : HasJoinedAll seat → All (λ (e : Entry). Accounts seat e.0) seat.seen
  pub whole : HasJoinedAll seat → length seat.seen + seat.left ≡ turns
