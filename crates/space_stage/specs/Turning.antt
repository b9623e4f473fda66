-- Sixteen rows of sixteen octets, turned by four rounds in which rows are interleaved. Source: this project; it is the
-- transposition of a matrix by perfect shuffles, H. S. Stone, "Parallel processing with the perfect shuffle" (1971).
use Rattle.std.specs.Prelude.{◌≡◌, ℕ, ◌+◌, ◌*◌, ◌<◌, ◌≤◌, List, [], ◌∷◌, ◌++◌, length, take, map, slice_index, slice_index_or}
use Rattle.std.specs.List.{range_with_len}
use Rattle.circuit_model.specs.FrameInput.{idle_octet}

-- the octets of two rows in turn: first halves, and second halves
abbrev pub first_woven : List ℕ → List ℕ → List ℕ
first_woven a b = map (λ k. slice_index (a ++ b) k) (0 ∷ 16 ∷ 1 ∷ 17 ∷ 2 ∷ 18 ∷ 3 ∷ 19 ∷ 4 ∷ 20 ∷ 5 ∷ 21 ∷ 6 ∷ 22 ∷ 7 ∷ 23 ∷ [])

abbrev pub second_woven : List ℕ → List ℕ → List ℕ
second_woven a b = map (λ k. slice_index (a ++ b) k) (8 ∷ 24 ∷ 9 ∷ 25 ∷ 10 ∷ 26 ∷ 11 ∷ 27 ∷ 12 ∷ 28 ∷ 13 ∷ 29 ∷ 14 ∷ 30 ∷ 15 ∷ 31 ∷ [])

-- a row
abbrev pub row_of : List (List ℕ) → ℕ → List ℕ
row_of rows k = slice_index_or rows k []

abbrev pub woven_from : List (List ℕ) → List ℕ → List (List ℕ)
woven_from rows [] = []
woven_from rows (k ∷ ks) = first_woven (row_of rows k) (row_of rows (k + 8)) ∷ second_woven (row_of rows k) (row_of rows (k + 8)) ∷ woven_from rows ks

-- one round: each of the first eight rows with the row eight after it
abbrev pub woven : List (List ℕ) → List (List ℕ)
woven rows = woven_from rows (0 ∷ 1 ∷ 2 ∷ 3 ∷ 4 ∷ 5 ∷ 6 ∷ 7 ∷ [])

-- the octet of a row at a place
abbrev pub octet_at : List (List ℕ) → ℕ → ℕ → ℕ
octet_at rows row at = slice_index (row_of rows row) at

-- sixteen rows of sixteen octets, by a function
unfoldable pub square : (ℕ → ℕ → ℕ) → List (List ℕ)
square octet = map (λ row. map (λ at. octet row at) (range_with_len 0 16)) (range_with_len 0 16)

-- sixteen rows of sixteen octets
pub record IsSquare (rows : List (List ℕ)) : Type 0 where
  pub many : length rows ≡ 16
  pub octets : (row : ℕ) → row < 16 → length (row_of rows row) ≡ 16

-- each byte is a number below a limit, or 255
abbrev pub AreNumbers : ℕ → List ℕ → Type 0
AreNumbers limit bytes = (at : ℕ) → limit ≤ slice_index bytes at → slice_index bytes at ≡ 255

-- each byte of sixteen rows is the number of a line below 32, or 255
abbrev pub AreTurnedNumbers : List (List ℕ) → Type 0
AreTurnedNumbers rows = (row at : ℕ) → row < 16 → at < 16 → 32 ≤ octet_at rows row at → octet_at rows row at ≡ 255

-- the octets of a line: fourteen of one row, and sixteen of another
abbrev pub joined : List (List ℕ) → List (List ℕ) → ℕ → ℕ → ℕ
joined front back line at = slice_index (take 14 (row_of front line) ++ row_of back line) at

-- the octet of a line by its number, from the octets of 32 lines in two halves, slot after slot
abbrev pub octet_by : List (List ℕ) → List (List ℕ) → ℕ → ℕ → ℕ
octet_by low high slot number = slice_index_or (row_of low slot ++ row_of high slot) number idle_octet
