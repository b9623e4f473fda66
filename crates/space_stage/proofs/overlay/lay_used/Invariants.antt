use Rattle.std.proofs.Common.{◌≡◌, length}
use Rattle.frame_buffer.proofs.Parts.{IsWrittenTo}
use Rattle.space_stage.specs.Crossing.{gets_by}
use Rattle.space_stage.proofs.overlay.lay_used.Given as goal

abbrev pub invariant-loop-line : goal.invariant-loop-line
invariant-loop-line l = record {
  size : length l.part ≡ length l.fn.part;
  done : IsWrittenTo l.fn.slots (gets_by l.table l.highway) l.first l.line l.part;
}
