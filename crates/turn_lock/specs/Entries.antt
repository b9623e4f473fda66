-- The rule on a seat's entries in the history. Source: this project.
use Rattle.std.specs.Prelude.{◌≡◌, ◌≢◌, ℕ, List, [], ◌∷◌}
use Rattle.std.specs.List.{AllByRecursion as Every}
use Rattle.seat_history.specs.declared.seat_knowledge.JoinedSeat.{JoinedSeat}
use Rattle.seat_history.specs.Histories.{Entry, entries_of, unseen}

-- no two of the joined seats have the same number
abbrev pub Once : List JoinedSeat → Type 0
Once [] = Unit {0}
Once (k ∷ ks) = Every (λ (m : JoinedSeat). m.number ≢ k.number) ks × Once ks

-- these are all entries with the number, and the seen history has them
pub record IsWhole (log seen : List Entry) (number : ℕ) (own : List Entry) : Type 0 where
  pub entries : own ≡ entries_of number log
  pub none_behind : Every (λ (e : Entry). e.0 ≢ number) (unseen seen log)
