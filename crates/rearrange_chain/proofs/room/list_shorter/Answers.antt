use Rattle.std.proofs.Common.{◌≡◌, ◌+◌, ◌*◌, ◌<◌, ◌≤◌, if◌then◌else◌, length, sym, ◌∙◌, arith}
use Rattle.rearrange_chain.specs.Chain.{Row, Column, far_line, from_row, from_column, is_shorter, shorter}
use Rattle.rearrange_chain.proofs.Listing.{rest_done, row_in, row_taken, column_taken, next_listed, part_le}
use Rattle.rearrange_chain.proofs.room.list_shorter.Given.{Over}
use Rattle.rearrange_chain.proofs.room.list_shorter.Goals as goal

-- the row's chain ends at the first path of a turn
row_ends : (g : Over) (c : goal.After-swap g) → (c.loop-far_row.by_row.items ≡ shorter (from_row c.args.matrix.now c.args.i c.args.a c.args.b) (from_column c.args.matrix.now c.args.j c.args.a c.args.b)) × (c.args.b ≡ (if is_shorter (from_row c.args.matrix.now c.args.i c.args.a c.args.b) (from_column c.args.matrix.now c.args.j c.args.a c.args.b) then c.args.b else c.args.a))
row_ends g c =
    let few_columns = (let both = c.requires.bound in let few : length (from_column c.args.matrix.now c.args.j c.args.a c.args.b) + 2 ≤ 2 * c.args.matrix.now.lines = omega (arith, both) in few) in
    let column_rest = next_listed c.args.matrix.now (from_column c.args.matrix.now c.args.j c.args.a c.args.b) c.loop-far_row.moves.items c.push.new.self.items c.to_slot.result (Column c.loop-far_row.column) c.args.a c.args.b c.in-Some.far_row c.loop-far_row.invariant.rest few_columns (sym c.in-Some.ensures.row) c.to_slot.ensures c.push.ensures.items in
    let whole = rest_done (far_line c.args.matrix.now) c.args.matrix.now.lines (from_row c.args.matrix.now c.args.i c.args.a c.args.b) c.loop-far_row.by_row.items (Row c.loop-far_row.row) c.args.b c.args.a c.loop-far_row.invariant.row_rest (sym c.row_slot.ensures.column ∙ c.in_default-row_slot.is) in
    row_taken c.args.matrix.now c.args.i c.args.j c.args.a c.args.b c.push.new.self.items c.loop-far_row.by_row.items _ whole column_rest (let far : length c.loop-far_row.by_row.items < length c.push.new.self.items = omega (arith, c.push.ensures.len, c.loop-far_row.invariant.even) in far)

pub returns-in_default-row_slot-clause-moves : goal.returns-in_default-row_slot-clause-moves
returns-in_default-row_slot-clause-moves g c =
    rw c.swap.ensures.x_after ((row_ends g c).0)

pub returns-in_default-row_slot-clause-slot : goal.returns-in_default-row_slot-clause-slot
returns-in_default-row_slot-clause-slot g c =
    (row_ends g c).1

pub returns-in_default-row_slot-clause-looks : goal.returns-in_default-row_slot-clause-looks
returns-in_default-row_slot-clause-looks g c =
    let few_columns = (let both = c.requires.bound in let few : length (from_column c.args.matrix.now c.args.j c.args.a c.args.b) + 2 ≤ 2 * c.args.matrix.now.lines = omega (arith, both) in few) in
    let column_rest = next_listed c.args.matrix.now (from_column c.args.matrix.now c.args.j c.args.a c.args.b) c.loop-far_row.moves.items c.push.new.self.items c.to_slot.result (Column c.loop-far_row.column) c.args.a c.args.b c.in-Some.far_row c.loop-far_row.invariant.rest few_columns (sym c.in-Some.ensures.row) c.to_slot.ensures c.push.ensures.items in
    let columns = part_le c.push.new.self.items _ (from_column c.args.matrix.now c.args.j c.args.a c.args.b) column_rest in
    let rows = part_le c.loop-far_row.by_row.items _ (from_row c.args.matrix.now c.args.i c.args.a c.args.b) c.loop-far_row.invariant.row_rest in
    omega (arith, columns, rows, c.push.ensures.len, c.loop-far_row.invariant.looks, c.column_slot.ensures.looks, c.row_slot.ensures.looks)

pub row_slot-requires-in-Some-clause-row : goal.row_slot-requires-in-Some-clause-row
row_slot-requires-in-Some-clause-row g c =
    row_in c.args.matrix.now c.loop-far_row.column c.args.a c.in-Some.far_row c.in-Some.ensures.legal (sym c.in-Some.ensures.row)

-- the column's chain ends at the second path of a turn
column_ends : (g : Over) (c : goal.In_default-row_slot-2 g) → (c.push.new.self.items ≡ shorter (from_row c.args.matrix.now c.args.i c.args.a c.args.b) (from_column c.args.matrix.now c.args.j c.args.a c.args.b)) × (c.args.a ≡ (if is_shorter (from_row c.args.matrix.now c.args.i c.args.a c.args.b) (from_column c.args.matrix.now c.args.j c.args.a c.args.b) then c.args.b else c.args.a))
column_ends g c =
    let few_columns = (let both = c.requires.bound in let few : length (from_column c.args.matrix.now c.args.j c.args.a c.args.b) + 2 ≤ 2 * c.args.matrix.now.lines = omega (arith, both) in few) in
    let few_rows = (let both = c.requires.bound in let few : length (from_row c.args.matrix.now c.args.i c.args.a c.args.b) + 2 ≤ 2 * c.args.matrix.now.lines = omega (arith, both) in few) in
    let column_rest = next_listed c.args.matrix.now (from_column c.args.matrix.now c.args.j c.args.a c.args.b) c.loop-far_row.moves.items c.push.new.self.items c.to_slot.result (Column c.loop-far_row.column) c.args.a c.args.b c.in-Some.far_row c.loop-far_row.invariant.rest few_columns (sym c.in-Some.ensures.row) c.to_slot.ensures c.push.ensures.items in
    let row_rest = next_listed c.args.matrix.now (from_row c.args.matrix.now c.args.i c.args.a c.args.b) c.loop-far_row.by_row.items c.push-in-Some.new.self.items c.to_slot-in-Some.result (Row c.loop-far_row.row) c.args.b c.args.a c.in-Some-row_slot.far_column c.loop-far_row.invariant.row_rest few_rows (sym c.in-Some-row_slot.ensures.column) c.to_slot-in-Some.ensures c.push-in-Some.ensures.items in
    let whole = rest_done (far_line c.args.matrix.now) c.args.matrix.now.lines (from_column c.args.matrix.now c.args.j c.args.a c.args.b) c.push.new.self.items (Row c.in-Some.far_row) c.args.b c.args.a column_rest (sym c.row_slot-in-Some.ensures.column ∙ c.in_default-row_slot-2.is) in
    column_taken c.args.matrix.now c.args.i c.args.j c.args.a c.args.b c.push.new.self.items c.push-in-Some.new.self.items _ whole row_rest (let far : length c.push.new.self.items ≤ length c.push-in-Some.new.self.items = omega (arith, c.push.ensures.len, c.push-in-Some.ensures.len, c.loop-far_row.invariant.even) in far)

pub returns-in_default-row_slot-2-clause-moves : goal.returns-in_default-row_slot-2-clause-moves
returns-in_default-row_slot-2-clause-moves g c =
    (column_ends g c).0

pub returns-in_default-row_slot-2-clause-slot : goal.returns-in_default-row_slot-2-clause-slot
returns-in_default-row_slot-2-clause-slot g c =
    (column_ends g c).1

pub returns-in_default-row_slot-2-clause-looks : goal.returns-in_default-row_slot-2-clause-looks
returns-in_default-row_slot-2-clause-looks g c =
    let few_columns = (let both = c.requires.bound in let few : length (from_column c.args.matrix.now c.args.j c.args.a c.args.b) + 2 ≤ 2 * c.args.matrix.now.lines = omega (arith, both) in few) in
    let few_rows = (let both = c.requires.bound in let few : length (from_row c.args.matrix.now c.args.i c.args.a c.args.b) + 2 ≤ 2 * c.args.matrix.now.lines = omega (arith, both) in few) in
    let column_rest = next_listed c.args.matrix.now (from_column c.args.matrix.now c.args.j c.args.a c.args.b) c.loop-far_row.moves.items c.push.new.self.items c.to_slot.result (Column c.loop-far_row.column) c.args.a c.args.b c.in-Some.far_row c.loop-far_row.invariant.rest few_columns (sym c.in-Some.ensures.row) c.to_slot.ensures c.push.ensures.items in
    let row_rest = next_listed c.args.matrix.now (from_row c.args.matrix.now c.args.i c.args.a c.args.b) c.loop-far_row.by_row.items c.push-in-Some.new.self.items c.to_slot-in-Some.result (Row c.loop-far_row.row) c.args.b c.args.a c.in-Some-row_slot.far_column c.loop-far_row.invariant.row_rest few_rows (sym c.in-Some-row_slot.ensures.column) c.to_slot-in-Some.ensures c.push-in-Some.ensures.items in
    let columns = part_le c.push.new.self.items _ (from_column c.args.matrix.now c.args.j c.args.a c.args.b) column_rest in
    let rows = part_le c.push-in-Some.new.self.items _ (from_row c.args.matrix.now c.args.i c.args.a c.args.b) row_rest in
    omega (arith, columns, rows, c.push.ensures.len, c.push-in-Some.ensures.len, c.loop-far_row.invariant.looks, c.column_slot.ensures.looks, c.row_slot.ensures.looks, c.row_slot-in-Some.ensures.looks)

-- the row's chain ends at the second path of a turn
row_ends_later : (g : Over) (c : goal.After-swap-in_default-column_slot g) → (c.push-in-Some.new.self.items ≡ shorter (from_row c.args.matrix.now c.args.i c.args.a c.args.b) (from_column c.args.matrix.now c.args.j c.args.a c.args.b)) × (c.args.b ≡ (if is_shorter (from_row c.args.matrix.now c.args.i c.args.a c.args.b) (from_column c.args.matrix.now c.args.j c.args.a c.args.b) then c.args.b else c.args.a))
row_ends_later g c =
    let few_columns = (let both = c.requires.bound in let few : length (from_column c.args.matrix.now c.args.j c.args.a c.args.b) + 2 ≤ 2 * c.args.matrix.now.lines = omega (arith, both) in few) in
    let few_rows = (let both = c.requires.bound in let few : length (from_row c.args.matrix.now c.args.i c.args.a c.args.b) + 2 ≤ 2 * c.args.matrix.now.lines = omega (arith, both) in few) in
    let column_rest = next_listed c.args.matrix.now (from_column c.args.matrix.now c.args.j c.args.a c.args.b) c.loop-far_row.moves.items c.push.new.self.items c.to_slot.result (Column c.loop-far_row.column) c.args.a c.args.b c.in-Some.far_row c.loop-far_row.invariant.rest few_columns (sym c.in-Some.ensures.row) c.to_slot.ensures c.push.ensures.items in
    let row_rest = next_listed c.args.matrix.now (from_row c.args.matrix.now c.args.i c.args.a c.args.b) c.loop-far_row.by_row.items c.push-in-Some.new.self.items c.to_slot-in-Some.result (Row c.loop-far_row.row) c.args.b c.args.a c.in-Some-row_slot.far_column c.loop-far_row.invariant.row_rest few_rows (sym c.in-Some-row_slot.ensures.column) c.to_slot-in-Some.ensures c.push-in-Some.ensures.items in
    let column_on = next_listed c.args.matrix.now (from_column c.args.matrix.now c.args.j c.args.a c.args.b) c.push.new.self.items c.push-in-Some-2.new.self.items c.to_slot-in-Some-2.result (Row c.in-Some.far_row) c.args.b c.args.a c.in-Some-row_slot-2.next_column column_rest few_columns (sym c.in-Some-row_slot-2.ensures.column) c.to_slot-in-Some-2.ensures c.push-in-Some-2.ensures.items in
    let whole = rest_done (far_line c.args.matrix.now) c.args.matrix.now.lines (from_row c.args.matrix.now c.args.i c.args.a c.args.b) c.push-in-Some.new.self.items (Column c.in-Some-row_slot.far_column) c.args.a c.args.b row_rest (sym c.column_slot-in-Some.ensures.row ∙ c.in_default-column_slot.is) in
    row_taken c.args.matrix.now c.args.i c.args.j c.args.a c.args.b c.push-in-Some-2.new.self.items c.push-in-Some.new.self.items _ whole column_on (let far : length c.push-in-Some.new.self.items < length c.push-in-Some-2.new.self.items = omega (arith, c.push.ensures.len, c.push-in-Some.ensures.len, c.push-in-Some-2.ensures.len, c.loop-far_row.invariant.even) in far)

pub returns-in_default-column_slot-clause-moves : goal.returns-in_default-column_slot-clause-moves
returns-in_default-column_slot-clause-moves g c =
    rw c.swap-in_default-column_slot.ensures.x_after ((row_ends_later g c).0)

pub returns-in_default-column_slot-clause-slot : goal.returns-in_default-column_slot-clause-slot
returns-in_default-column_slot-clause-slot g c =
    (row_ends_later g c).1

pub returns-in_default-column_slot-clause-looks : goal.returns-in_default-column_slot-clause-looks
returns-in_default-column_slot-clause-looks g c =
    let few_columns = (let both = c.requires.bound in let few : length (from_column c.args.matrix.now c.args.j c.args.a c.args.b) + 2 ≤ 2 * c.args.matrix.now.lines = omega (arith, both) in few) in
    let few_rows = (let both = c.requires.bound in let few : length (from_row c.args.matrix.now c.args.i c.args.a c.args.b) + 2 ≤ 2 * c.args.matrix.now.lines = omega (arith, both) in few) in
    let column_rest = next_listed c.args.matrix.now (from_column c.args.matrix.now c.args.j c.args.a c.args.b) c.loop-far_row.moves.items c.push.new.self.items c.to_slot.result (Column c.loop-far_row.column) c.args.a c.args.b c.in-Some.far_row c.loop-far_row.invariant.rest few_columns (sym c.in-Some.ensures.row) c.to_slot.ensures c.push.ensures.items in
    let row_rest = next_listed c.args.matrix.now (from_row c.args.matrix.now c.args.i c.args.a c.args.b) c.loop-far_row.by_row.items c.push-in-Some.new.self.items c.to_slot-in-Some.result (Row c.loop-far_row.row) c.args.b c.args.a c.in-Some-row_slot.far_column c.loop-far_row.invariant.row_rest few_rows (sym c.in-Some-row_slot.ensures.column) c.to_slot-in-Some.ensures c.push-in-Some.ensures.items in
    let column_on = next_listed c.args.matrix.now (from_column c.args.matrix.now c.args.j c.args.a c.args.b) c.push.new.self.items c.push-in-Some-2.new.self.items c.to_slot-in-Some-2.result (Row c.in-Some.far_row) c.args.b c.args.a c.in-Some-row_slot-2.next_column column_rest few_columns (sym c.in-Some-row_slot-2.ensures.column) c.to_slot-in-Some-2.ensures c.push-in-Some-2.ensures.items in
    let columns = part_le c.push-in-Some-2.new.self.items _ (from_column c.args.matrix.now c.args.j c.args.a c.args.b) column_on in
    let rows = part_le c.push-in-Some.new.self.items _ (from_row c.args.matrix.now c.args.i c.args.a c.args.b) row_rest in
    omega (arith, columns, rows, c.push.ensures.len, c.push-in-Some.ensures.len, c.push-in-Some-2.ensures.len, c.loop-far_row.invariant.looks, c.column_slot.ensures.looks, c.row_slot.ensures.looks, c.row_slot-in-Some.ensures.looks, c.column_slot-in-Some.ensures.looks)

pub loop-far_row-preserved : goal.loop-far_row-preserved
loop-far_row-preserved g c =
    let few_columns = (let both = c.requires.bound in let few : length (from_column c.args.matrix.now c.args.j c.args.a c.args.b) + 2 ≤ 2 * c.args.matrix.now.lines = omega (arith, both) in few) in
    let few_rows = (let both = c.requires.bound in let few : length (from_row c.args.matrix.now c.args.i c.args.a c.args.b) + 2 ≤ 2 * c.args.matrix.now.lines = omega (arith, both) in few) in
    let column_rest = next_listed c.args.matrix.now (from_column c.args.matrix.now c.args.j c.args.a c.args.b) c.loop-far_row.moves.items c.push.new.self.items c.to_slot.result (Column c.loop-far_row.column) c.args.a c.args.b c.in-Some.far_row c.loop-far_row.invariant.rest few_columns (sym c.in-Some.ensures.row) c.to_slot.ensures c.push.ensures.items in
    let row_rest = next_listed c.args.matrix.now (from_row c.args.matrix.now c.args.i c.args.a c.args.b) c.loop-far_row.by_row.items c.push-in-Some.new.self.items c.to_slot-in-Some.result (Row c.loop-far_row.row) c.args.b c.args.a c.in-Some-row_slot.far_column c.loop-far_row.invariant.row_rest few_rows (sym c.in-Some-row_slot.ensures.column) c.to_slot-in-Some.ensures c.push-in-Some.ensures.items in
    let column_on = next_listed c.args.matrix.now (from_column c.args.matrix.now c.args.j c.args.a c.args.b) c.push.new.self.items c.push-in-Some-2.new.self.items c.to_slot-in-Some-2.result (Row c.in-Some.far_row) c.args.b c.args.a c.in-Some-row_slot-2.next_column column_rest few_columns (sym c.in-Some-row_slot-2.ensures.column) c.to_slot-in-Some-2.ensures c.push-in-Some-2.ensures.items in
    let row_on = next_listed c.args.matrix.now (from_row c.args.matrix.now c.args.i c.args.a c.args.b) c.push-in-Some.new.self.items c.push-in-Some-3.new.self.items c.to_slot-in-Some-3.result (Column c.in-Some-row_slot.far_column) c.args.a c.args.b c.in-Some-column_slot.next_row row_rest few_rows (sym c.in-Some-column_slot.ensures.row) c.to_slot-in-Some-3.ensures c.push-in-Some-3.ensures.items in
    record {
      row = row_in c.args.matrix.now c.in-Some-row_slot.far_column c.args.a c.in-Some-column_slot.next_row c.in-Some.ensures.legal (sym c.in-Some-column_slot.ensures.row);
      column = c.in-Some.ensures.legal.column_within c.in-Some.far_row c.args.b c.in-Some-row_slot-2.next_column (sym c.in-Some-row_slot-2.ensures.column);
      even = omega (arith, c.loop-far_row.invariant.even, c.push.ensures.len, c.push-in-Some.ensures.len, c.push-in-Some-2.ensures.len, c.push-in-Some-3.ensures.len);
      looks = omega (arith, c.loop-far_row.invariant.looks, c.push.ensures.len, c.push-in-Some.ensures.len, c.push-in-Some-2.ensures.len, c.push-in-Some-3.ensures.len, c.column_slot.ensures.looks, c.row_slot.ensures.looks, c.row_slot-in-Some.ensures.looks, c.column_slot-in-Some.ensures.looks);
      rest = column_on;
      row_rest = row_on;
    }

-- the column's chain ends between two turns
column_ends_even : (g : Over) (c : goal.In_default g) → (c.loop-far_row.moves.items ≡ shorter (from_row c.args.matrix.now c.args.i c.args.a c.args.b) (from_column c.args.matrix.now c.args.j c.args.a c.args.b)) × (c.args.a ≡ (if is_shorter (from_row c.args.matrix.now c.args.i c.args.a c.args.b) (from_column c.args.matrix.now c.args.j c.args.a c.args.b) then c.args.b else c.args.a))
column_ends_even g c =
    let whole = rest_done (far_line c.args.matrix.now) c.args.matrix.now.lines (from_column c.args.matrix.now c.args.j c.args.a c.args.b) c.loop-far_row.moves.items (Column c.loop-far_row.column) c.args.a c.args.b c.loop-far_row.invariant.rest (sym c.column_slot.ensures.row ∙ c.in_default.is) in
    column_taken c.args.matrix.now c.args.i c.args.j c.args.a c.args.b c.loop-far_row.moves.items c.loop-far_row.by_row.items _ whole c.loop-far_row.invariant.row_rest (let far : length c.loop-far_row.moves.items ≤ length c.loop-far_row.by_row.items = omega (arith, c.loop-far_row.invariant.even) in far)

pub returns-clause-moves : goal.returns-clause-moves
returns-clause-moves g c =
    (column_ends_even g c).0

pub returns-clause-slot : goal.returns-clause-slot
returns-clause-slot g c =
    (column_ends_even g c).1
