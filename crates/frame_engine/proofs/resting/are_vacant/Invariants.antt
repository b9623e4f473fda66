use Rattle.std.proofs.Common.{◌≡◌, ℕ, ◌<◌, None, get_or}
use Rattle.frame_engine.proofs.resting.are_vacant.Given as goal

abbrev pub invariant-loop-port : goal.invariant-loop-port
invariant-loop-port l = (k : ℕ) → k < l.port → get_or l.members k None ≡ None
