-- The segments whose workers run in threads. Source: this project.
use Rattle.std.specs.Prelude.{ℕ, ◌+◌, ◌-◌, max, List, [], ◌∷◌}

-- the number of events of all workers together
abbrev pub events_of_all : List ℕ → ℕ
events_of_all [] = 0
events_of_all (n ∷ ns) = n + events_of_all ns

-- the number of events of the worker that has the most
abbrev pub largest_part : List ℕ → ℕ
largest_part [] = 0
largest_part (n ∷ ns) = max n (largest_part ns)

-- the number of events outside the largest part: all other workers' events
abbrev pub events_beside : List ℕ → ℕ
events_beside loads = events_of_all loads - largest_part loads
