use Rattle.std.proofs.Common.{◌≡◌, ℕ, ◌*◌, ◌<◌, ◌≤◌, length, None, slice_index_or}
use Rattle.frame_buffer.specs.Speech.{octet_in_half}
use Rattle.frame_engine.specs.Ports.{member_in}
use Rattle.frame_engine.proofs.ports.seat_members.Given as goal

abbrev pub invariant-loop-port : goal.invariant-loop-port
invariant-loop-port l = record {
  size : length l.mixer ≡ 30 * l.image.bridges;
  done : (k : ℕ) → k < l.port → slice_index_or l.mixer k None ≡ member_in l.image (octet_in_half l.read.readable) k;
  free : (k : ℕ) → l.port ≤ k → slice_index_or l.mixer k None ≡ None;
}
