use Rattle.std.proofs.Common.{◌≡◌, ◌+◌, ◌-◌, ◌*◌, ◌<◌, ◌++◌, length}
use Rattle.rearrange_chain.specs.Chain.{Row, Column, far_line, chain, from_row, from_column}
use Rattle.rearrange_chain.proofs.room.list_shorter.Given as goal

abbrev pub invariant-loop-far_row : goal.invariant-loop-far_row
invariant-loop-far_row g l = record {
  row : l.row < l.matrix.lines;
  column : l.column < l.matrix.lines;
  even : length l.moves.items ≡ length l.by_row.items;
  looks : l.steps ≡ l.fn.steps + (length l.moves.items + length l.by_row.items);
  rest : l.moves.items ++ chain (far_line l.matrix) (2 * l.matrix.lines - length l.moves.items) (Column l.column) l.a l.b ≡ from_column l.matrix l.fn.j l.a l.b;
  row_rest : l.by_row.items ++ chain (far_line l.matrix) (2 * l.matrix.lines - length l.by_row.items) (Row l.row) l.b l.a ≡ from_row l.matrix l.fn.i l.a l.b;
}

abbrev pub decreases-loop-far_row : goal.decreases-loop-far_row
decreases-loop-far_row g l = 2 * l.matrix.lines - length l.moves.items
