-- Moves of paths in Paull's matrix that can be made in sequence. Source: this project; the chain of moved paths is from
-- M. C. Paull (1962), cited in Matrix.antt.
use Rattle.std.specs.Prelude.{◌≡◌, ◌<◌, ⊤, Some, None, List, [], ◌∷◌}
use Rattle.paull_matrix.specs.Matrix.{Matrix, row_slot, column_slot, with_path, without_path}
use Rattle.paull_matrix.specs.declared.moves.Move.{Move}

-- the matrix without the paths that move, and with them in their new slots
abbrev pub lifted : Matrix → List Move → Matrix
lifted m [] = m
lifted m (v ∷ moves) = lifted (without_path m v.row v.old) moves

abbrev pub placed : Matrix → List Move → Matrix
placed m [] = m
placed m (v ∷ moves) = placed (with_path m v.row v.column v.new) moves

-- each path to be moved is in its old slot after the moves before it
abbrev pub CanLift : Matrix → List Move → Type 0
CanLift m [] = ⊤
CanLift m (v ∷ moves) = (row_slot m v.row v.old ≡ Some v.column) × CanLift (without_path m v.row v.old) moves

-- the new slot of a path is free in its row and in its column
pub record HasRoom (m : Matrix) (v : Move) : Type 0 where
  pub row : v.row < m.lines
  pub column : v.column < m.lines
  pub slot : v.new < m.slots
  pub row_free : row_slot m v.row v.new ≡ None
  pub column_free : column_slot m v.column v.new ≡ None

-- each path has its new slot free after the moves before it
abbrev pub CanPlace : Matrix → List Move → Type 0
CanPlace m [] = ⊤
CanPlace m (v ∷ moves) = HasRoom m v × CanPlace (with_path m v.row v.column v.new) moves
