use Rattle.std.proofs.Common.{◌≡◌, drop, length}
use Rattle.paull_matrix.specs.InTurn.{placed, CanPlace}
use Rattle.paull_matrix.specs.Tabled.{tabled, IsKept}
use Rattle.paull_matrix.proofs.matrix.place_each.Given as goal

abbrev pub invariant-loop-moved : goal.invariant-loop-moved
invariant-loop-moved l = record {
  kept : IsKept (length l.fn.row_words) l.slots l.columns l.rows l.row_words l.column_words;
  can : CanPlace (tabled (length l.fn.row_words) l.slots l.columns) (drop l.moved-index l.moves);
  rest : placed (tabled (length l.fn.row_words) l.slots l.columns) (drop l.moved-index l.moves) ≡ placed (tabled (length l.fn.row_words) l.slots l.fn.columns) l.moves;
}
