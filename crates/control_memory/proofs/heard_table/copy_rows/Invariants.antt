use Rattle.std.proofs.Common.{◌≡◌, ℕ, ◌%◌, ◌<◌, ◌≤◌, length}
use Rattle.std.specs.Int.{bit_at}
use Rattle.control_memory.specs.HeardRows.{heard_on}
use Rattle.control_memory.proofs.heard_table.copy_rows.Given as goal

abbrev pub invariant-loop-line : goal.invariant-loop-line
invariant-loop-line l = record {
  size : length l.to.items ≡ length l.fn.to.items;
  marked : (line place : ℕ) → line < l.line → place < 30 → bit_at l.marks (line % 64) ≡ 1 → heard_on l.to.items line place ≡ heard_on l.from line place;
  others : (line place : ℕ) → line < l.line → place < 30 → bit_at l.marks (line % 64) ≡ 0 → heard_on l.to.items line place ≡ heard_on l.fn.to.items line place;
  rest : (line place : ℕ) → l.line ≤ line → place < 30 → heard_on l.to.items line place ≡ heard_on l.fn.to.items line place;
}
