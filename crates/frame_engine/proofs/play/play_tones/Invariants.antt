use Rattle.std.proofs.Common.{◌≡◌, ℕ, ◌<◌, get_or}
use Rattle.std.specs.Int.{bit_at}
use Rattle.control_memory.specs.declared.heard.Heard.TheVariants.{Silent}
use Rattle.tone_rules.specs.Tables.{table_of}
use Rattle.frame_engine.specs.Playing.{with_tone}
use Rattle.frame_engine.proofs.play.play_tones.Given as goal

abbrev pub invariant-loop-left : goal.invariant-loop-left
invariant-loop-left l = record {
  within : (k : ℕ) → k < 32 → bit_at l.left k ≡ 1 → bit_at l.places k ≡ 1;
  done : (k : ℕ) → k < 30 → bit_at l.left k ≡ 0 → get_or l.octets k 0 ≡ with_tone (table_of l.tones) l.frame (get_or l.fn.octets k 0) (get_or l.heard k Silent);
  waiting : (k : ℕ) → k < 30 → bit_at l.left k ≡ 1 → get_or l.octets k 0 ≡ get_or l.fn.octets k 0;
}

abbrev pub decreases-loop-left : goal.decreases-loop-left
decreases-loop-left l = l.left
