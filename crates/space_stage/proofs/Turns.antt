-- Four rounds turn sixteen rows of sixteen octets.
use Rattle.std.proofs.Common.{◌≡◌, ℕ, ◌+◌, ◌<◌, List, [], length, get_or, map, refl, sym, ap, subst, ◌∙◌, arith}
use Rattle.std.specs.List.{range_with_len}
use Rattle.std.proofs.lemmas.List.FromFn.{fill_by_all, get_or-map-range_with_len, length-map-range_with_len}
use Rattle.space_stage.specs.Turning.{woven, square, octet_at, row_of, IsSquare}

-- the row of a square
abbrev pub row_by : (ℕ → ℕ → ℕ) → ℕ → List ℕ
row_by octet row = map (λ at. octet row at) (range_with_len 0 16)

-- both sides compute at a square that a function gives
pub turned_square : (octet : ℕ → ℕ → ℕ) → woven (woven (woven (woven (square octet)))) ≡ square (λ row at. octet at row)
unfolding square
turned_square octet = refl

pub square_by_rows : (octet : ℕ → ℕ → ℕ) (rows : List (List ℕ)) → length rows ≡ 16 → ((row : ℕ) → row < 16 → get_or rows row [] ≡ row_by octet row) → rows ≡ square octet
unfolding square
square_by_rows octet rows many are = fill_by_all (row_by octet) rows 16 [] many are

pub many_rows : (octet : ℕ → ℕ → ℕ) → length (square octet) ≡ 16
unfolding square
many_rows octet = length-map-range_with_len (row_by octet) 0 16

pub row_of_square : (octet : ℕ → ℕ → ℕ) (row : ℕ) → row < 16 → row_of (square octet) row ≡ row_by octet row
unfolding square
row_of_square octet row near = get_or-map-range_with_len (row_by octet) 0 16 row row [] near (omega arith)

pub length-row_by : (octet : ℕ → ℕ → ℕ) (row : ℕ) → length (row_by octet row) ≡ 16
length-row_by octet row = length-map-range_with_len (λ at. octet row at) 0 16

pub octet_in_row : (octet : ℕ → ℕ → ℕ) (row at : ℕ) → at < 16 → get_or (row_by octet row) at 0 ≡ octet row at
octet_in_row octet row at near = get_or-map-range_with_len (λ a. octet row a) 0 16 at at 0 near (omega arith)

pub row_is : (octet : ℕ → ℕ → ℕ) (row : ℕ) (octets : List ℕ) → length octets ≡ 16 → ((at : ℕ) → at < 16 → get_or octets at 0 ≡ octet row at) → octets ≡ row_by octet row
row_is octet row octets long are = fill_by_all (λ at. octet row at) octets 16 0 long are

pub octet_of_square : (octet : ℕ → ℕ → ℕ) (row at : ℕ) → row < 16 → at < 16 → octet_at (square octet) row at ≡ octet row at
octet_of_square octet row at near within = ap (λ l. get_or l at 0) (row_of_square octet row near) ∙ octet_in_row octet row at within

pub is_square_of : (octet : ℕ → ℕ → ℕ) → IsSquare (square octet)
is_square_of octet = record {
  many = many_rows octet;
  octets = λ row near. ap length (row_of_square octet row near) ∙ length-row_by octet row;
}

-- sixteen rows of sixteen octets are a square
pub is_square : (rows : List (List ℕ)) → IsSquare rows → rows ≡ square (octet_at rows)
is_square rows is = square_by_rows (octet_at rows) rows is.many (λ row near. row_is (octet_at rows) row (row_of rows row) (is.octets row near) (λ at within. refl))

-- two squares with the same octets
pub same_square : (f g : ℕ → ℕ → ℕ) → ((row at : ℕ) → row < 16 → at < 16 → f row at ≡ g row at) → square f ≡ square g
same_square f g same =
    square_by_rows g (square f) (many_rows f) (λ row near. row_of_square f row near ∙ row_is g row (row_by f row) (length-row_by f row) (λ at within. octet_in_row f row at within ∙ same row at near within))

pub turned_by_rounds : (rows : List (List ℕ)) → IsSquare rows → woven (woven (woven (woven rows))) ≡ square (λ row at. octet_at rows at row)
turned_by_rounds rows is = ap (λ l. woven (woven (woven (woven l)))) (is_square rows is) ∙ turned_square (octet_at rows)

-- a square that is turned
pub turned_of : (octet : ℕ → ℕ → ℕ) (rows turned : List (List ℕ)) → rows ≡ square octet → turned ≡ square (λ row at. octet_at rows at row) → turned ≡ square (λ row at. octet at row)
turned_of octet rows turned is e =
    e ∙ same_square (λ row at. octet_at rows at row) (λ row at. octet at row) (λ row at near within. ap (λ l. octet_at l at row) is ∙ octet_of_square octet at row within near)
