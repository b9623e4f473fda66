use Rattle.std.proofs.Common.{◌≡◌, ◌≤◌, None, length}
use Rattle.circuit_map.specs.Connections.{SameSizes}
use Rattle.call_control.specs.AtWork.{IsAtWork}
use Rattle.call_profile.specs.Restarts.{outcome_below, restart_rule}
use Rattle.exchange_events.specs.Sizes.{Setting}
use Rattle.call_control.specs.Standing.{Makes}
use Rattle.call_profile.specs.World.{World}
use Rattle.call_control.proofs.operations.CallControl.restart_line.Given as goal

abbrev pub invariant-loop-place : goal.invariant-loop-place
invariant-loop-place g l =
    ((s : Setting) (w : World) → s.tones ≡ l.tones → IsAtWork s l.fn.self.map l.fn.self.legs w
    → Makes s.dimensions l.self.map l.self.legs l.out.sends l.out.moved (outcome_below s.dimensions (restart_rule s.tones l.asked) l.line w l.place).making
    × (l.records ≡ (outcome_below s.dimensions (restart_rule s.tones l.asked) l.line w l.place).recorded))
    × (length l.out.sends ≤ l.place)
    × (length l.records ≤ l.place)
    × (l.out.moved ≡ None)
    × SameSizes l.fn.self.map l.self.map
