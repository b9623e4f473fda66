-- A layout and Paull's matrix of it. Source: M. C. Paull, "Reswitching of connection networks" (1962): the cell of an
-- incoming and an outgoing line holds the internal slots of the paths between them.
use Rattle.std.specs.Prelude.{◌≡◌, ℕ, option_map}
use Rattle.control_memory.specs.Layout.{Layout, path_in}
use Rattle.paull_matrix.specs.Matrix.{Matrix, row_slot}

-- the matrix has the paths of the layout, by row and slot
abbrev pub IsMatrixOf : Matrix → Layout → Type 0
IsMatrixOf m layout = (i s : ℕ) → row_slot m i s ≡ option_map (λ p. p.to.line) (path_in layout i s)
