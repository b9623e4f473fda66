use Rattle.std.proofs.Common.{◌≡◌, length}
use Rattle.frame_buffer.proofs.Parts.{IsWrittenTo}
use Rattle.time_stage.specs.Interchange.{reads_by}
use Rattle.time_stage.proofs.interchange.read_used.Given as goal

abbrev pub invariant-loop-line : goal.invariant-loop-line
invariant-loop-line l = record {
  size : length l.part ≡ length l.fn.part;
  done : IsWrittenTo 30 (reads_by l.table l.crossed) l.first l.line l.part;
}
