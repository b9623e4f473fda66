-- The rule by which Paull's matrix makes room for another path: live paths move along the shorter of two alternating
-- chains. Source: M. C. Paull, "Reswitching of connection networks", Bell System Technical Journal 41 (1962), for the
-- rule and its chains; in terms of graphs the chains are Kempe's. The chain from a column never reaches the row in
-- which room is made. This proves the Slepian-Duguid theorem: the slots need only be the same number as the places of a
-- line. The choice of the shorter chain is this project's.
use Rattle.std.specs.Prelude.{◌≡◌, ℕ, zero, suc, ◌*◌, Bool, nat_lt, length, if◌then◌else◌, Option, Some, None, unwrap_or, List, [], ◌∷◌, ◌≢◌, All, AllPairs}
use Rattle.paull_matrix.specs.Matrix.{Matrix, row_slot, column_slot, lowest_in_row, lowest_in_column, lowest_in_both}
use Rattle.paull_matrix.specs.declared.moves.Move.{Move}
pub use Rattle.paull_matrix.specs.InTurn.{lifted, placed}

-- one end of a path: its row or its column
pub data End : Type 0 where
  Row : ℕ → End
  Column : ℕ → End

-- the line at the other end of the path of a row or a column in a slot
abbrev pub far_line : Matrix → End → ℕ → Option ℕ
far_line m (Row i) s = row_slot m i s
far_line m (Column j) s = column_slot m j s

-- the other end of a path, from one end and the line at the other
abbrev pub far_end : End → ℕ → End
far_end (Row i) line = Column line
far_end (Column j) line = Row line

-- the path between an end and a line moves to another slot
abbrev pub move_of : End → ℕ → ℕ → ℕ → Move
move_of (Row i) line old new = record { row = i; column = line; old = old; new = new }
move_of (Column j) line old new = record { row = line; column = j; old = old; new = new }

-- the alternating chain from a row or a column: its path in slot a, then the path in b at that path's other end, then
-- one in a again, and so on, for at most n paths; each path of the chain takes the other slot, and a lookup gives the
-- line at the other end of a path
abbrev pub chain : (End → ℕ → Option ℕ) → ℕ → End → ℕ → ℕ → List Move
chain look zero end a b = []
chain look (suc n) end a b = elim (look end a) [ None ↦ [] | Some line ↦ move_of end line a b ∷ chain look n (far_end end line) b a ]

-- the chain from a column, and the chain from a row, each of at most twice the number of lines of paths
abbrev pub from_column : Matrix → ℕ → ℕ → ℕ → List Move
from_column m j a b = chain (far_line m) (2 * m.lines) (Column j) a b

abbrev pub from_row : Matrix → ℕ → ℕ → ℕ → List Move
from_row m i a b = chain (far_line m) (2 * m.lines) (Row i) b a

-- the matrix after simultaneous moves
abbrev pub exchanged : Matrix → List Move → Matrix
exchanged m moves = placed (lifted m moves) moves

-- slot a of the rule is the lowest that is missing in the row, slot b the lowest that is missing in the column
abbrev pub slot_a : Matrix → ℕ → ℕ
slot_a m i = unwrap_or (lowest_in_row m i) 0

abbrev pub slot_b : Matrix → ℕ → ℕ
slot_b m j = unwrap_or (lowest_in_column m j) 0

-- the chain from the column, and the chain from the row
abbrev pub column_chain : Matrix → ℕ → ℕ → List Move
column_chain m i j = chain (far_line m) (2 * m.lines) (Column j) (slot_a m i) (slot_b m j)

abbrev pub row_chain : Matrix → ℕ → ℕ → List Move
row_chain m i j = chain (far_line m) (2 * m.lines) (Row i) (slot_b m j) (slot_a m i)

-- the row's chain is taken if it is strictly shorter than the column's
abbrev pub is_shorter : List Move → List Move → Bool
is_shorter by_row by_column = nat_lt (length by_row) (length by_column)

abbrev pub shorter : List Move → List Move → List Move
shorter by_row by_column = if is_shorter by_row by_column then by_row else by_column

-- the rule: the lowest slot that is missing in both is taken, and nothing moves; if there is none, the paths of the
-- shorter chain exchange a and b, and the new path takes b with the row's chain and a with the column's
abbrev pub slot_by : Matrix → ℕ → ℕ → Option ℕ → ℕ
slot_by m i j (Some common) = common
slot_by m i j None = if is_shorter (row_chain m i j) (column_chain m i j) then slot_b m j else slot_a m i

abbrev pub moves_by : Matrix → ℕ → ℕ → Option ℕ → List Move
moves_by m i j (Some common) = []
moves_by m i j None = shorter (row_chain m i j) (column_chain m i j)

abbrev pub slot_for : Matrix → ℕ → ℕ → ℕ
slot_for m i j = slot_by m i j (lowest_in_both m i j)

abbrev pub moves_for : Matrix → ℕ → ℕ → List Move
moves_for m i j = moves_by m i j (lowest_in_both m i j)

-- the moves are the difference between two matrices: no path moves twice, each is in its old slot before and in its new
-- one after, a path that does not move stays, and nothing else is there after
pub record ChangesBy (before after : Matrix) (moves : List Move) : Type 0 where
  pub once : AllPairs (λ u v. ¬ ((u.row ≡ v.row) × (u.old ≡ v.old))) moves
  pub turned : All (λ v. v.old ≢ v.new) moves
  pub stood : All (λ v. row_slot before v.row v.old ≡ Some v.column) moves
  pub stands : All (λ v. row_slot after v.row v.new ≡ Some v.column) moves
  pub kept : (i s j : ℕ) → All (λ v. ¬ ((v.row ≡ i) × (v.old ≡ s))) moves → row_slot before i s ≡ Some j → row_slot after i s ≡ Some j
  pub none_else : (i s j : ℕ) → All (λ v. ¬ ((v.row ≡ i) × (v.new ≡ s))) moves → row_slot after i s ≡ Some j → row_slot before i s ≡ Some j
