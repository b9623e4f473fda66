use Rattle.std.proofs.Common.{◌≡◌, ℕ, ◌+◌, ◌*◌, ◌<◌, get_or}
use Rattle.space_stage.proofs.crossbar.find_starts.Given as goal

abbrev pub invariant-loop-line : goal.invariant-loop-line
invariant-loop-line l = record {
  next : l.start ≡ l.line * l.highway.slots;
  lines : (k : ℕ) → k < l.line → get_or l.starts k 0 ≡ (k + 1) * l.highway.slots;
  idle : get_or l.starts 255 0 ≡ 0;
}
