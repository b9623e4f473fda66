use Rattle.std.proofs.Common.{◌≡◌, ℕ, ◌<◌, Option, None, get_or}
use Rattle.control_memory.proofs.image.vacate.Given as goal

abbrev pub invariant-loop-port : goal.invariant-loop-port
invariant-loop-port l = (k : ℕ) (d : Option (ℕ × ℕ)) → k < l.port-index → get_or l.rooms k d ≡ None
