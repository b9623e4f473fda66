-- The chain from a row or from a column makes room in both, and the shorter of the two moves few paths.
use Rattle.std.proofs.Common.{◌≡◌, ◌≢◌, ℕ, zero, ◌+◌, ◌*◌, ◌-◌, ◌<◌, ◌≤◌, Bool, true, false, Option, Some, None, List, length, arith, refl, sym, ap, subst, ◌∙◌}
use Rattle.std.specs.Prelude.{slice_get, ◌&&◌, nat_lt, if◌then◌else◌}
use Rattle.std.proofs.lemmas.Bool.Decides.{nat_tests}
use mathlib.Core.Logic.{inl, inr}
use Rattle.paull_matrix.specs.Matrix.{Matrix, row_slot, column_slot, is_free_in_row, is_free_in_column, lowest_in_row, lowest_in_column, lowest_in_both, paths_of_cell, SameSizes, IsLegal}
use Rattle.paull_matrix.proofs.Numbers.{lowest_passes, lowest_none}
use Rattle.paull_matrix.proofs.Laws.{column_of_row, row_of_column, row_inside, no_column, lowest_in_row_is, lowest_in_column_is}
use Rattle.paull_matrix.specs.declared.moves.Move.{Move}
use Rattle.rearrange_chain.specs.Chain.{End, Row, Column, far_line, far_end, move_of, lifted, exchanged, from_row, from_column, is_shorter, shorter, ChangesBy}
use Rattle.rearrange_chain.proofs.Walk.{leave, enter, IsMirrored, IsWithin, own_chain, is_step, slice_get-own_chain_has_step, rows_leave_once, rows_take_once, columns_take_once, not_entered, move_of_new, move_of_old}
use Rattle.rearrange_chain.proofs.Closed.{IsOpen, turned_round, both_bound, takes_neighbour, other_untouched}
use Rattle.rearrange_chain.proofs.Exchange.{IsExchange, row_slot-lifted_keeps, row_slot_lifted_from, row_slot-lifted_takes, row_slot-placed_keeps, placed_from, exchange_changes, exchange_cells, exchange_legal, exchange_sizes}

-- in a legal matrix a path is found from both of its ends
pub mirrored : (m : Matrix) → IsLegal m → IsMirrored (far_line m)
mirrored m legal (Row i) s line h = column_of_row m i s line legal h
mirrored m legal (Column j) s line h = row_of_column m line s j h

pub lines_within : (m : Matrix) → IsLegal m → IsWithin m.lines (far_line m)
lines_within m legal (Row i) s line h = legal.column_within i s line h
lines_within m legal (Column j) s line h = row_inside m line s j h

-- The chain from column j, which lacks b, where row i lacks a: it never comes to the row
pub column_open : (m : Matrix) (i j a b : ℕ) → IsLegal m → i < m.lines → j < m.lines → row_slot m i a ≡ None → column_slot m j b ≡ None → a ≢ b
    → IsOpen (far_line m) a b m.lines (Column j) (Row i)
column_open m i j a b legal row column row_free column_free apart = record {
  mirror = mirrored m legal;
  within = lines_within m legal;
  free = column_free;
  other_free = row_free;
  apart = λ e. cc;
  inside = column;
  other_inside = row;
  two_slots = apart;
}

-- a move's path is found where the move says
stands_at : (m : Matrix) (e : End) (line old new : ℕ) → IsLegal m → far_line m e old ≡ Some line → row_slot m (move_of e line old new).row old ≡ Some (move_of e line old new).column
stands_at m (Row i) line old new legal h = h
stands_at m (Column j) line old new legal h = row_of_column m line old j h

-- an end is left in another slot than it is entered in
two_ways : (a b : ℕ) (e : End) → a ≢ b → leave a b e ≡ enter a b e → ⊥
two_ways a b (Row i) apart same = apart (sym same)
two_ways a b (Column j) apart same = apart same

-- a chain's moves are an exchange
pub chain_exchanges : (m : Matrix) (a b : ℕ) (start other : End) → IsLegal m → a < m.slots → b < m.slots → IsOpen (far_line m) a b m.lines start other
    → IsExchange m (own_chain (far_line m) a b (2 * m.lines) start)
chain_exchanges m a b start other legal a_inside b_inside opened = record {
  stands = λ k v h.
      let at = is_step (far_line m) a b start (2 * m.lines) k v h in
      subst (λ (w : Move). row_slot m w.row w.old ≡ Some w.column) (sym at.is)
      (ap (row_slot m (move_of at.near at.line (leave a b at.near) (enter a b at.near)).row) (move_of_old at.near at.line (leave a b at.near) (enter a b at.near))
      ∙ stands_at m at.near at.line (leave a b at.near) (enter a b at.near) legal at.goes);
  turns = λ k v h same.
      let at = is_step (far_line m) a b start (2 * m.lines) k v h in
      two_ways a b at.near opened.two_slots
      (sym (move_of_old at.near at.line (leave a b at.near) (enter a b at.near)) ∙ ap (λ (w : Move). w.old) (sym at.is) ∙ same ∙ ap (λ (w : Move). w.new) at.is ∙ move_of_new at.near at.line (leave a b at.near) (enter a b at.near));
  within = λ k v h.
      let at = is_step (far_line m) a b start (2 * m.lines) k v h in
      subst (λ (w : Move). w.new < m.slots) (sym at.is) (subst (λ s. s < m.slots) (sym (move_of_new at.near at.line (leave a b at.near) (enter a b at.near))) (enter_inside at.near));
  leave_once = λ k n u v g h row old. rows_leave_once (far_line m) a b start (2 * m.lines) k n u v opened.mirror opened.free opened.two_slots g h row old;
  take_once = λ k n u v g h row new. rows_take_once (far_line m) a b start (2 * m.lines) k n u v opened.mirror opened.free opened.two_slots g h row new;
  columns_once = λ k n u v g h column new. columns_take_once (far_line m) a b start (2 * m.lines) k n u v opened.mirror opened.free opened.two_slots g h column new;
  row_moves = λ k v j h e.
      let taken = takes_neighbour (far_line m) a b m.lines start other opened k v (Row v.row) j h (inl refl) e in
      (taken.0, move_of (Row v.row) j v.new v.old, taken.1, refl, refl);
  column_moves = λ k v i h e.
      let taken = takes_neighbour (far_line m) a b m.lines start other opened k v (Column v.column) i h (inr refl) (column_of_row m i v.new v.column legal e) in
      (taken.0, move_of (Column v.column) i v.new v.old, taken.1, refl, refl);
}
  where
    enter_inside : (e : End) → enter a b e < m.slots
    enter_inside (Row i) = a_inside
    enter_inside (Column j) = b_inside

-- After the exchange of a chain the other end stays free in the slot in which it would be entered
pub far_line_other_free_after : (m : Matrix) (a b : ℕ) (start other : End) → IsLegal m → IsOpen (far_line m) a b m.lines start other
    → far_line (exchanged m (own_chain (far_line m) a b (2 * m.lines) start)) other (enter a b other) ≡ None
far_line_other_free_after m a b start (Row i) legal opened =
    row_slot-placed_keeps moves (lifted m moves) i a (λ k v h row _. untouched k v h row) ∙ row_slot-lifted_keeps moves m i a (λ k v h row _. untouched k v h row) ∙ opened.other_free
  where
    moves : List Move
    moves = own_chain (far_line m) a b (2 * m.lines) start

    untouched : (k : ℕ) (v : Move) → slice_get (own_chain (far_line m) a b (2 * m.lines) start) k ≡ Some v → v.row ≡ i → ⊥
    untouched k v h row = other_untouched (far_line m) a b m.lines (2 * m.lines) start (Row i) opened k v h (inl (ap Row (sym row)))
far_line_other_free_after m a b start (Column j) legal opened =
    no_column (exchanged m (own_chain (far_line m) a b (2 * m.lines) start)) j b (λ x e. elim (placed_from moves (lifted m moves) x b j e) [
      | inl before ↦
          let stood = column_of_row m x b j legal (row_slot_lifted_from moves m x b j before) in
          clash stood opened.other_free
      | inr moved ↦ other_untouched (far_line m) a b m.lines (2 * m.lines) start (Column j) opened moved.0 moved.1 moved.2 (inr (ap Column (sym moved.5)))
    ])
  where
    moves : List Move
    moves = own_chain (far_line m) a b (2 * m.lines) start

    clash : {o : Option ℕ} {x : ℕ} → o ≡ Some x → o ≡ None → ⊥
    clash g h = let wrong = sym g ∙ h in cc

-- and its own end becomes free in the slot in which it was left
pub far_line_start_free_after : (m : Matrix) (a b : ℕ) (start other : End) → IsLegal m → IsOpen (far_line m) a b m.lines start other
    → far_line (exchanged m (own_chain (far_line m) a b (2 * m.lines) start)) start (leave a b start) ≡ None
far_line_start_free_after m a b (Column j) other legal opened =
    no_column (exchanged m (own_chain (far_line m) a b (2 * m.lines) (Column j))) j a (λ x e. elim (placed_from moves (lifted m moves) x a j e) [
      | inl before ↦
          let stood = row_slot_lifted_from moves m x a j before in
          let first = slice_get-own_chain_has_step (far_line m) a b (Column j) (2 * m.lines) zero (Column j) x some_lines refl (column_of_row m x a j legal stood) in
          clash before (row_slot-lifted_takes moves m zero (record { row = x; column = j; old = a; new = b }) first)
      | inr moved ↦
          let at = is_step (far_line m) a b (Column j) (2 * m.lines) moved.0 moved.1 moved.2 in
          let entered : enter a b at.near ≡ a = sym (move_of_new at.near at.line (leave a b at.near) (enter a b at.near)) ∙ ap (λ (w : Move). w.new) (sym at.is) ∙ moved.4 in
          let comes : far_end at.near at.line ≡ Column j = sym (to_column a b at.near at.line opened.two_slots entered) ∙ ap (λ (w : Move). Column w.column) (sym at.is) ∙ ap Column moved.5 in
          not_entered (far_line m) a b at.near (Column j) opened.mirror opened.free (rw at.goes (ap Some comes))
    ])
  where
    moves : List Move
    moves = own_chain (far_line m) a b (2 * m.lines) (Column j)

    some_lines : zero < 2 * m.lines
    some_lines = let few = legal.lines_within in omega arith

    clash : {o : Option ℕ} {x : ℕ} → o ≡ Some x → o ≡ None → ⊥
    clash g h = let wrong = sym g ∙ h in cc

    to_column : (c d : ℕ) (e : End) (line : ℕ) → c ≢ d → enter c d e ≡ c → Column (move_of e line (leave c d e) (enter c d e)).column ≡ far_end e line
    to_column c d (Row i) line apart e = refl
    to_column c d (Column k) line apart e = absurd (apart (sym e))
far_line_start_free_after m a b (Row i) other legal opened = is_none_by (row_slot (exchanged m (own_chain (far_line m) a b (2 * m.lines) (Row i))) i b) (λ l e. elim (placed_from moves (lifted m moves) i b l e) [
  | inl before ↦
      let stood = row_slot_lifted_from moves m i b l before in
      let first = slice_get-own_chain_has_step (far_line m) a b (Row i) (2 * m.lines) zero (Row i) l some_lines refl stood in
      clash before (row_slot-lifted_takes moves m zero (record { row = i; column = l; old = b; new = a }) first)
  | inr moved ↦
      let at = is_step (far_line m) a b (Row i) (2 * m.lines) moved.0 moved.1 moved.2 in
      let entered : enter a b at.near ≡ b = sym (move_of_new at.near at.line (leave a b at.near) (enter a b at.near)) ∙ ap (λ (w : Move). w.new) (sym at.is) ∙ moved.4 in
      let comes : far_end at.near at.line ≡ Row i = sym (to_row a b at.near at.line opened.two_slots entered) ∙ ap (λ (w : Move). Row w.row) (sym at.is) ∙ ap Row moved.3 in
      not_entered (far_line m) a b at.near (Row i) opened.mirror opened.free (rw at.goes (ap Some comes))
])
  where
    moves : List Move
    moves = own_chain (far_line m) a b (2 * m.lines) (Row i)

    some_lines : zero < 2 * m.lines
    some_lines = let few = legal.lines_within in omega arith

    clash : {o : Option ℕ} {x : ℕ} → o ≡ Some x → o ≡ None → ⊥
    clash g h = let wrong = sym g ∙ h in cc

    is_none_by : (o : Option ℕ) → ((l : ℕ) → o ≡ Some l → ⊥) → o ≡ None
    is_none_by None nothing = refl
    is_none_by (Some l) nothing = absurd (nothing l refl)

    to_row : (c d : ℕ) (e : End) (line : ℕ) → c ≢ d → enter c d e ≡ d → Row (move_of e line (leave c d e) (enter c d e)).row ≡ far_end e line
    to_row c d (Row k) line apart e = absurd (apart e)
    to_row c d (Column k) line apart e = refl

-- where no slot is missing in both, those that are missing in one differ
both_free : (c d : Bool) → (c && d) ≡ false → c ≡ true → d ≡ true → ⊥
both_free true true e f g = cc
both_free true false e f g = cc
both_free false d e f g = cc

pub two_slots : (m : Matrix) (i j a b : ℕ) → lowest_in_both m i j ≡ None → lowest_in_row m i ≡ Some a → lowest_in_column m j ≡ Some b → a ≢ b
two_slots m i j a b none row column same =
    let in_row = lowest_passes (is_free_in_row m i) m.slots a row in
    let in_column = lowest_passes (is_free_in_column m j) m.slots b column in
    let at = lowest_none (λ s. is_free_in_row m i s && is_free_in_column m j s) m.slots a none in_row.1 in
    both_free (is_free_in_row m i a) (is_free_in_column m j a) at in_row.0 (subst (λ s. is_free_in_column m j s ≡ true) (sym same) in_column.0)

-- All that the rule promises of a row and a column without a common slot
pub record Room (m : Matrix) (i j s : ℕ) (moves : List Move) : Type 0 where
  pub exchange : IsExchange m moves
  pub row_free : row_slot (exchanged m moves) i s ≡ None
  pub column_free : column_slot (exchanged m moves) j s ≡ None
  pub inside : s < m.slots
  pub bound : length moves ≤ m.lines - 1

-- what both chains need: the one from the column, and turned round the one from the row
pub record Ways (m : Matrix) (i j a b : ℕ) : Type 0 where
  pub legal : IsLegal m
  pub a_inside : a < m.slots
  pub b_inside : b < m.slots
  pub opened : IsOpen (far_line m) a b m.lines (Column j) (Row i)

pub ways : (m : Matrix) (i j a b : ℕ) → IsLegal m → i < m.lines → j < m.lines → lowest_in_both m i j ≡ None → lowest_in_row m i ≡ Some a → lowest_in_column m j ≡ Some b → Ways m i j a b
ways m i j a b legal row column none row_lowest column_lowest =
    let in_row = lowest_in_row_is m i a row_lowest in
    let in_column = lowest_in_column_is m j b column_lowest in
    record {
      legal = legal;
      a_inside = in_row.1;
      b_inside = in_column.1;
      opened = column_open m i j a b legal row column in_row.0 in_column.0 (two_slots m i j a b none row_lowest column_lowest);
    }

pub length-chains-le : (m : Matrix) (i j a b : ℕ) → Ways m i j a b → length (from_column m j a b) + length (from_row m i a b) + 2 ≤ 2 * m.lines
length-chains-le m i j a b w = both_bound (far_line m) a b m.lines (2 * m.lines) (Column j) (Row i) w.opened

pub shorter_room : (m : Matrix) (i j a b : ℕ) → Ways m i j a b → Room m i j (if is_shorter (from_row m i a b) (from_column m j a b) then b else a) (shorter (from_row m i a b) (from_column m j a b))
shorter_room m i j a b w = by (is_shorter (from_row m i a b) (from_column m j a b)) refl
  where
    by : (t : Bool) → nat_lt (length (from_row m i a b)) (length (from_column m j a b)) ≡ t → Room m i j (if t then b else a) (if t then from_row m i a b else from_column m j a b)
    by true less = record {
      exchange = chain_exchanges m a b (Row i) (Column j) w.legal w.a_inside w.b_inside (turned_round (far_line m) a b m.lines (Column j) (Row i) w.opened);
      row_free = far_line_start_free_after m a b (Row i) (Column j) w.legal (turned_round (far_line m) a b m.lines (Column j) (Row i) w.opened);
      column_free = far_line_other_free_after m a b (Row i) (Column j) w.legal (turned_round (far_line m) a b m.lines (Column j) (Row i) w.opened);
      inside = w.b_inside;
      bound = let both = length-chains-le m i j a b w in let fewer : length (from_row m i a b) < length (from_column m j a b) = grind (arith, nat_tests, less) in omega (arith, both, fewer);
    }
    by false more = record {
      exchange = chain_exchanges m a b (Column j) (Row i) w.legal w.a_inside w.b_inside w.opened;
      row_free = far_line_other_free_after m a b (Column j) (Row i) w.legal w.opened;
      column_free = far_line_start_free_after m a b (Column j) (Row i) w.legal w.opened;
      inside = w.a_inside;
      bound = let both = length-chains-le m i j a b w in let fewer : length (from_column m j a b) ≤ length (from_row m i a b) = grind (arith, nat_tests, more) in omega (arith, both, fewer);
    }

-- what is there after moves that make room
pub record Rearranged (m after : Matrix) (i j a : ℕ) (moves : List Move) : Type 0 where
  pub changes : ChangesBy m after moves
  pub cells : (k l : ℕ) → paths_of_cell after k l ≡ paths_of_cell m k l
  pub row_free : row_slot after i a ≡ None
  pub column_free : column_slot after j a ≡ None
  pub within : a < after.slots
  pub bound : length moves ≤ m.lines - 1
  pub legal : IsLegal after
  pub sizes : SameSizes m after

-- what is there after the moves of the shorter chain
pub rearranges_shorter : (m : Matrix) (i j a b s : ℕ) (moves : List Move) → Ways m i j a b → moves ≡ shorter (from_row m i a b) (from_column m j a b) → s ≡ (if is_shorter (from_row m i a b) (from_column m j a b) then b else a) → Rearranged m (exchanged m moves) i j s moves
rearranges_shorter m i j a b s moves w are is =
    subst (λ ms. Rearranged m (exchanged m ms) i j s ms) (sym are) (subst (λ t. Rearranged m (exchanged m (shorter (from_row m i a b) (from_column m j a b))) i j t (shorter (from_row m i a b) (from_column m j a b))) (sym is)
    (let room = shorter_room m i j a b w in
    let ms : List Move = shorter (from_row m i a b) (from_column m j a b) in
    record {
      changes = exchange_changes m ms room.exchange;
      cells = exchange_cells m ms w.legal room.exchange;
      row_free = room.row_free;
      column_free = room.column_free;
      within = subst (λ n. (if is_shorter (from_row m i a b) (from_column m j a b) then b else a) < n) (sym (exchange_sizes m ms).1) room.inside;
      bound = room.bound;
      legal = exchange_legal m ms w.legal room.exchange;
      sizes = exchange_sizes m ms;
    }))
