-- A matrix that is stored as a table of columns by row and slot, with a table of rows by column and slot and words of
-- used slots.
use Rattle.std.specs.Prelude.{◌≡◌, ℕ, zero, suc, ◌+◌, ◌*◌, ◌<◌, Option, Some, None, List, length, get_or}
use Rattle.std.specs.FinMap.{FinMap, empty, insert}
use Rattle.paull_matrix.specs.Matrix.{Matrix, by_row_and_slot, row_slot, column_slot, IsLegal}
use Rattle.paull_matrix.specs.Marks.{IsMarked}

-- the entry of a table for a line and a slot, if each line has `slots` places
abbrev pub held : List (Option ℕ) → ℕ → ℕ → ℕ → Option ℕ
held table slots line s = get_or table (line * slots + s) None

-- a map with the entry of a place, if there is one
abbrev pub with_held : FinMap by_row_and_slot ℕ → ℕ → ℕ → Option ℕ → FinMap by_row_and_slot ℕ
with_held columns i s None = columns
with_held columns i s (Some j) = insert columns (i, s) j

-- a map with the entries of a row in the slots below a bound
unfoldable pub with_row : List (Option ℕ) → ℕ → ℕ → ℕ → FinMap by_row_and_slot ℕ → FinMap by_row_and_slot ℕ
with_row table slots i zero columns = columns
with_row table slots i (suc s) columns = with_held (with_row table slots i s columns) i s (held table slots i s)

-- the entries of the rows below a bound
unfoldable pub rows_below : List (Option ℕ) → ℕ → ℕ → FinMap by_row_and_slot ℕ
rows_below table slots zero = empty
rows_below table slots (suc i) = with_row table slots i slots (rows_below table slots i)

-- the matrix that a table of columns by row and slot represents
abbrev pub tabled : ℕ → ℕ → List (Option ℕ) → Matrix
tabled lines slots columns = record { lines = lines; slots = slots; columns = rows_below columns slots lines }

-- the invariant of the tables and the words: the second table has for a column and a slot the row whose path is there,
-- and the words have a bit for each slot in which a row, or a column, has a path
pub record IsKept (lines slots : ℕ) (columns rows : List (Option ℕ)) (row_words column_words : List ℕ) : Type 0 where
  pub legal : IsLegal (tabled lines slots columns)
  pub row_places : length columns ≡ lines * slots
  pub column_places : length rows ≡ lines * slots
  pub indexed : (j s : ℕ) → j < lines → s < slots → held rows slots j s ≡ column_slot (tabled lines slots columns) j s
  pub row_marks : IsMarked lines slots row_words (row_slot (tabled lines slots columns))
  pub column_marks : IsMarked lines slots column_words (column_slot (tabled lines slots columns))
