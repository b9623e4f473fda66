-- Histories: the processed events in order, each with the seat that processed it. Source: this project.
use Rattle.std.specs.Prelude.{◌≡◌, ℕ, List, ◌++◌, length, take, drop, nat_lt, nat_eq, if◌then◌else◌, filter, All}

-- the number of a seat, and the event that it processed
abbrev pub Entry : Type 0
Entry = ℕ × ℕ

-- the history begins with the part that was seen
abbrev pub StartsWith : List Entry → List Entry → Type 0
StartsWith history seen = (rest : List Entry) × (history ≡ seen ++ rest)

-- the part of a history after the part that was seen
abbrev pub unseen : List Entry → List Entry → List Entry
unseen seen history = drop (length seen) history

-- the history before the event at this position, counted from 0
abbrev pub before : ℕ → List Entry → List Entry
before place history = take place history

-- the longer of two histories
abbrev pub longer : List Entry → List Entry → List Entry
longer a b = if nat_lt (length a) (length b) then b else a

-- the entries of the seat with this number, in their order
abbrev pub entries_of : ℕ → List Entry → List Entry
entries_of number history = filter (λ (e : Entry). nat_eq e.0 number) history

-- no entry is of an event with the property
abbrev pub HasNone : (ℕ → Type 0) → List Entry → Type 0
HasNone P history = All (λ (e : Entry). P e.1 → ⊥) history
