use Rattle.std.proofs.Common.{◌≡◌, length}
use Rattle.frame_buffer.proofs.Parts.{HoldBefore}
use Rattle.space_stage.specs.Turning.{joined}
use Rattle.space_stage.proofs.slotwise.put_lines.Given as goal

abbrev pub invariant-loop-k : goal.invariant-loop-k
invariant-loop-k l = record {
  size : length l.part ≡ length l.fn.part;
  done : HoldBefore 30 (joined l.front l.back) 0 l.k l.part;
}
