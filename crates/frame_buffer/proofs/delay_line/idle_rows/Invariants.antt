use Rattle.std.proofs.Common.{◌≡◌, ◌≤◌, List, ℕ, replicate, All, vec_len, vec_capacity}
use Rattle.frame_buffer.proofs.delay_line.idle_rows.Given as goal

abbrev pub invariant-loop : goal.invariant-loop
invariant-loop l = record {
  count : vec_len l.rows ≡ l.counter;
  room : l.lines ≤ vec_capacity l.rows;
  idle : All (λ (row : List ℕ). row ≡ replicate 30 213) l.rows.items;
}
