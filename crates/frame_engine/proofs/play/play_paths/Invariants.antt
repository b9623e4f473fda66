use Rattle.std.proofs.Common.{◌≡◌, ℕ, ◌<◌, get_or}
use Rattle.control_memory.specs.declared.heard.Heard.TheVariants.{Silent}
use Rattle.frame_engine.specs.Playing.{by_path}
use Rattle.frame_engine.proofs.play.play_paths.Given as goal

abbrev pub invariant-loop-place : goal.invariant-loop-place
invariant-loop-place l = (k : ℕ) → k < l.place → get_or l.octet-items k 0 ≡ by_path l.frame (get_or l.read k 0) (get_or l.heard k Silent)
