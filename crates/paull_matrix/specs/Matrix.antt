-- Paull's matrix as a value (M. C. Paull, "Reswitching of connection networks", Bell System Technical Journal 41,
-- 1962). A row is a switch of the first stage, here an incoming line, and a column a switch of the third stage, here an
-- outgoing line. The entries in the cell of a row and a column are the switches of the middle stage over which paths
-- lead from one to the other. A middle switch is an internal time slot here.
use Rattle.std.specs.Prelude.{◌≡◌, refl, ℕ, ◌<◌, ◌≤◌, Bool, false, ◌&&◌, Option, Some, None, is_some, is_none, nat_eq}
use Rattle.std.specs.declared.cmp.Ordering.{Ordering}
use Rattle.std.specs.Ordering.{nat_cmp, ordering_then}
use Rattle.std.specs.FinMap.{FinMap, code, empty, get, insert, remove}
use Rattle.std.specs.Coded.{Coded, code_by, coded×, coded_ℕ}
use Rattle.paull_matrix.specs.Numbers.{lowest, count_below}

-- by row, and then by slot
abbrev pub by_row_and_slot : ℕ × ℕ → ℕ × ℕ → Ordering
by_row_and_slot p q = ordering_then (nat_cmp p.0 q.0) (nat_cmp p.1 q.1)

-- the number of rows, which is the number of columns; the number of slots; and the column of the path that each row has
-- in a slot
pub record Matrix : Type 0 where
  pub lines : ℕ
  pub slots : ℕ
  pub columns : FinMap by_row_and_slot ℕ

-- a matrix is stored as the tuple of its fields
abbrev pub matrix_code : Coded Matrix
matrix_code =
    code_by (ℕ × (ℕ × FinMap by_row_and_slot ℕ)) (coded× coded_ℕ (coded× coded_ℕ (code (coded× coded_ℕ coded_ℕ) coded_ℕ)))
    (λ m. (m.lines, (m.slots, m.columns))) (λ t. record { lines = t.0; slots = t.1.0; columns = t.1.1 }) (λ _. refl)

-- a matrix without paths
abbrev pub no_paths : ℕ → ℕ → Matrix
no_paths lines slots = record { lines = lines; slots = slots; columns = empty }

-- the column of the path of row i in slot s
abbrev pub row_slot : Matrix → ℕ → ℕ → Option ℕ
row_slot m i s = get m.columns (i, s)

abbrev pub names : Option ℕ → ℕ → Bool
names None j = false
names (Some k) j = nat_eq k j

-- whether a path of row i and column j is in slot s
abbrev pub has_path : Matrix → ℕ → ℕ → ℕ → Bool
has_path m i j s = names (row_slot m i s) j

-- the row of the path of column j in slot s
abbrev pub column_slot : Matrix → ℕ → ℕ → Option ℕ
column_slot m j s = lowest (λ i. has_path m i j s) m.lines

abbrev pub is_free_in_row : Matrix → ℕ → ℕ → Bool
is_free_in_row m i s = is_none (row_slot m i s)

abbrev pub is_free_in_column : Matrix → ℕ → ℕ → Bool
is_free_in_column m j s = is_none (column_slot m j s)

-- the lowest slot that is missing in row i, in column j, and in both
abbrev pub lowest_in_row : Matrix → ℕ → Option ℕ
lowest_in_row m i = lowest (is_free_in_row m i) m.slots

abbrev pub lowest_in_column : Matrix → ℕ → Option ℕ
lowest_in_column m j = lowest (is_free_in_column m j) m.slots

abbrev pub lowest_in_both : Matrix → ℕ → ℕ → Option ℕ
lowest_in_both m i j = lowest (λ s. is_free_in_row m i s && is_free_in_column m j s) m.slots

-- the number of paths of row i, of column j, and of their cell
abbrev pub paths_of_row : Matrix → ℕ → ℕ
paths_of_row m i = count_below (λ s. is_some (row_slot m i s)) m.slots

abbrev pub paths_of_column : Matrix → ℕ → ℕ
paths_of_column m j = count_below (λ s. is_some (column_slot m j s)) m.slots

abbrev pub paths_of_cell : Matrix → ℕ → ℕ → ℕ
paths_of_cell m i j = count_below (has_path m i j) m.slots

-- the matrix with an additional path, and with a path removed
abbrev pub with_path : Matrix → ℕ → ℕ → ℕ → Matrix
with_path m i j s = record m { columns = insert m.columns (i, s) j }

abbrev pub without_path : Matrix → ℕ → ℕ → Matrix
without_path m i s = record m { columns = remove m.columns (i, s) }

abbrev pub SameSizes : Matrix → Matrix → Type 0
SameSizes m n = (n.lines ≡ m.lines) × (n.slots ≡ m.slots)

-- no column has a slot twice, and each path lies within the matrix; no row has a slot twice, since a row has one column
-- in a slot
pub record IsLegal (m : Matrix) : Type 0 where
  pub column_once : (i k s j : ℕ) → row_slot m i s ≡ Some j → row_slot m k s ≡ Some j → i ≡ k
  pub row_within : (i s j : ℕ) → row_slot m i s ≡ Some j → i < m.lines
  pub column_within : (i s j : ℕ) → row_slot m i s ≡ Some j → j < m.lines
  pub slot_within : (i s j : ℕ) → row_slot m i s ≡ Some j → s < m.slots
  pub lines_within : (0 < m.lines) × (m.lines ≤ 34)
  pub slots_within : (0 < m.slots) × (m.slots ≤ 59)
