-- Listing a chain move by move.
use Rattle.std.proofs.Common.{◌≡◌, ℕ, zero, suc, ◌+◌, ◌-◌, ◌*◌, ◌<◌, ◌≤◌, true, false, Option, Some, None, List, [], ◌∷◌, ◌++◌, length, length-append, append_assoc, append-nil, arith, refl, sym, ap, ◌∙◌}
use Rattle.std.specs.Prelude.{if◌then◌else◌}
use Rattle.std.proofs.lemmas.Bool.Decides.{nat_tests}
use Rattle.paull_matrix.specs.Matrix.{Matrix, column_slot, IsLegal}
use Rattle.paull_matrix.specs.declared.moves.Move.{Move}
use Rattle.rearrange_chain.specs.Chain.{End, Column, far_end, far_line, move_of, chain, from_row, from_column, is_shorter, shorter}
use Rattle.rearrange_chain.proofs.Freed.{lines_within}

chain_some : (look : End → ℕ → Option ℕ) (n : ℕ) (e : End) (a b line : ℕ) → 0 < n → look e a ≡ Some line → chain look n e a b ≡ move_of e line a b ∷ chain look (n - 1) (far_end e line) b a
chain_some look zero e a b line more goes = absurd (omega arith)
chain_some look (suc n) e a b line more goes =
    ap (λ (o : Option ℕ). elim o as (λ _. List Move) [ None ↦ [] | Some l ↦ move_of e l a b ∷ chain look n (far_end e l) b a ]) goes
    ∙ ap (λ k. move_of e line a b ∷ chain look k (far_end e line) b a) (omega arith)

chain_none : (look : End → ℕ → Option ℕ) (n : ℕ) (e : End) (a b : ℕ) → look e a ≡ None → chain look n e a b ≡ []
chain_none look zero e a b ends = refl
chain_none look (suc n) e a b ends = ap (λ (o : Option ℕ). elim o as (λ _. List Move) [ None ↦ [] | Some l ↦ move_of e l a b ∷ chain look n (far_end e l) b a ]) ends

-- while the chain goes on, the list is shorter than the bound
pub room_for_move : (look : End → ℕ → Option ℕ) (lines : ℕ) (whole moves : List Move) (e : End) (a b line : ℕ)
    → moves ++ chain look (2 * lines - length moves) e a b ≡ whole → length whole + 2 ≤ 2 * lines → look e a ≡ Some line → length moves + 3 ≤ 2 * lines
room_for_move look lines whole moves e a b line rest bound goes =
    let size = ap length rest in
    let parts = length-append moves (chain look (2 * lines - length moves) e a b) in
    let more : 0 < 2 * lines - length moves = omega arith in
    let next = ap length (chain_some look (2 * lines - length moves) e a b line more goes) in
    omega arith

-- one move more
pub next_rest : (look : End → ℕ → Option ℕ) (lines : ℕ) (whole moves : List Move) (e : End) (a b line : ℕ)
    → moves ++ chain look (2 * lines - length moves) e a b ≡ whole → length whole + 2 ≤ 2 * lines → look e a ≡ Some line
    → (moves ++ move_of e line a b ∷ []) ++ chain look (2 * lines - length (moves ++ move_of e line a b ∷ [])) (far_end e line) b a ≡ whole
next_rest look lines whole moves e a b line rest bound goes =
    let few = room_for_move look lines whole moves e a b line rest bound goes in
    let more : 0 < 2 * lines - length moves = omega arith in
    let size = length-append moves (move_of e line a b ∷ []) in
    let left : 2 * lines - length (moves ++ move_of e line a b ∷ []) ≡ 2 * lines - length moves - 1 = omega arith in
    append_assoc moves (move_of e line a b ∷ []) (chain look (2 * lines - length (moves ++ move_of e line a b ∷ [])) (far_end e line) b a)
    ∙ ap (λ k. moves ++ move_of e line a b ∷ chain look k (far_end e line) b a) left
    ∙ ap (λ ms. moves ++ ms) (sym (chain_some look (2 * lines - length moves) e a b line more goes))
    ∙ rest

-- where the chain ends, the list is whole
pub rest_done : (look : End → ℕ → Option ℕ) (lines : ℕ) (whole moves : List Move) (e : End) (a b : ℕ)
    → moves ++ chain look (2 * lines - length moves) e a b ≡ whole → look e a ≡ None → moves ≡ whole
rest_done look lines whole moves e a b rest ends = sym (append-nil moves) ∙ ap (λ ms. moves ++ ms) (sym (chain_none look (2 * lines - length moves) e a b ends)) ∙ rest

-- the next line lies within the matrix
pub row_in : (m : Matrix) (column s row : ℕ) → IsLegal m → column_slot m column s ≡ Some row → row < m.lines
row_in m column s row legal goes = lines_within m legal (Column column) s row goes

-- where the column's chain has ended and the row's has gone as far, the column's is taken
pub column_taken : (m : Matrix) (i j a b : ℕ) (moves by_row rest : List Move) → moves ≡ from_column m j a b → by_row ++ rest ≡ from_row m i a b → length moves ≤ length by_row
    → (moves ≡ shorter (from_row m i a b) (from_column m j a b)) × (a ≡ (if is_shorter (from_row m i a b) (from_column m j a b) then b else a))
column_taken m i j a b moves by_row rest whole on far =
    let size = ap length on in
    let parts = length-append by_row rest in
    let same = ap length whole in
    let more : length (from_column m j a b) ≤ length (from_row m i a b) = omega arith in
    let no_less : is_shorter (from_row m i a b) (from_column m j a b) ≡ false = grind (arith, nat_tests, more) in
    (whole ∙ sym (ap (λ t. if t then from_row m i a b else from_column m j a b) no_less), sym (ap (λ t. if t then b else a) no_less))

-- where the row's chain has ended and the column's has gone farther, the row's is taken
pub row_taken : (m : Matrix) (i j a b : ℕ) (moves by_row rest : List Move) → by_row ≡ from_row m i a b → moves ++ rest ≡ from_column m j a b → length by_row < length moves
    → (by_row ≡ shorter (from_row m i a b) (from_column m j a b)) × (b ≡ (if is_shorter (from_row m i a b) (from_column m j a b) then b else a))
row_taken m i j a b moves by_row rest whole on far =
    let size = ap length on in
    let parts = length-append moves rest in
    let same = ap length whole in
    let fewer : length (from_row m i a b) < length (from_column m j a b) = omega arith in
    let less : is_shorter (from_row m i a b) (from_column m j a b) ≡ true = grind (arith, nat_tests, fewer) in
    (whole ∙ sym (ap (λ t. if t then from_row m i a b else from_column m j a b) less), sym (ap (λ t. if t then b else a) less))

-- the next path of a chain is listed
pub next_listed : (m : Matrix) (whole moves after : List Move) (turn : Move) (e : End) (x y line : ℕ) → moves ++ chain (far_line m) (2 * m.lines - length moves) e x y ≡ whole → length whole + 2 ≤ 2 * m.lines
    → far_line m e x ≡ Some line → turn ≡ move_of e line x y → after ≡ moves ++ turn ∷ [] → after ++ chain (far_line m) (2 * m.lines - length after) (far_end e line) y x ≡ whole
next_listed m whole moves after turn e x y line rest bound goes turned pushed =
    let is : after ≡ moves ++ move_of e line x y ∷ [] = pushed ∙ ap (λ v. moves ++ v ∷ []) turned in
    rw is (next_rest (far_line m) m.lines whole moves e x y line rest bound goes)

-- what is listed is a part of the whole
pub part_le : (moves rest whole : List Move) → moves ++ rest ≡ whole → length moves ≤ length whole
part_le moves rest whole is =
    let size = ap length is in
    let parts = length-append moves rest in
    omega arith
