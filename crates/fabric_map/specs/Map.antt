-- The maximum number of paths that the map of the rearrangeable fabric moves.
use Rattle.std.specs.Prelude.{ℕ, ◌-◌}

-- the maximum number of live paths that a new path moves, on n lines. Source: this project, from Paull's chains (1962):
-- the chains of the incoming and the outgoing line share no line, so the shorter has at most half of the paths that
-- both can have
abbrev pub max_moves : ℕ → ℕ
max_moves lines = lines - 1
