use Rattle.std.proofs.Common.{◌≡◌, ℕ, ◌+◌, ◌*◌, ◌<◌, ◌≤◌, length, get_or}
use Rattle.control_memory.specs.Tables.{entry, number_in}
use Rattle.space_stage.specs.Turning.{AreNumbers}
use Rattle.space_stage.proofs.slotwise.copy_numbers.Given as goal

abbrev pub invariant-loop-line : goal.invariant-loop-line
invariant-loop-line l = record {
  size : length l.numbers ≡ 960;
  entries : (row at : ℕ) → row < l.line → at < 30 → number_in (get_or l.numbers (row * 30 + at) 0) ≡ entry l.table row at;
  within : AreNumbers l.table.limit l.numbers;
  rest : (i : ℕ) → l.line * 30 ≤ i → i < 960 → get_or l.numbers i 0 ≡ 255;
}
