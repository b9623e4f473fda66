use Rattle.std.proofs.Common.{◌≡◌, ℕ, ◌<◌, slice_get}
use Rattle.circuit_model.specs.FrameInput.{octet_at, line_of}
use Rattle.frame_buffer.specs.Delay.{octet_of_row}
use Rattle.frame_buffer.proofs.delay_line.take_in.Given as goal

abbrev pub invariant-loop-line : goal.invariant-loop-line
invariant-loop-line l = (k place : ℕ) → k < l.line → octet_of_row l.rows k place ≡ octet_at place (line_of (slice_get l.input k))
