use Rattle.std.proofs.Common.{◌≡◌, ◌≤◌, ◌*◌, None, length}
use Rattle.circuit_map.specs.Connections.{SameSizes}
use Rattle.call_control.specs.AtWork.{IsInOrder}
use Rattle.call_profile.specs.Expiring.{outcome_of_lines}
use Rattle.exchange_events.specs.Sizes.{Setting}
use Rattle.call_control.specs.Standing.{Makes}
use Rattle.call_profile.specs.World.{World}
use Rattle.call_control.proofs.operations.CallControl.handle_timers.Given as goal

abbrev pub invariant-loop-line : goal.invariant-loop-line
invariant-loop-line g l =
    ((s : Setting) (w : World) → s.tones ≡ l.tones → s.timers ≡ l.timers → IsInOrder s l.fn.self.map l.fn.self.legs w
    → Makes s.dimensions l.self.map l.self.legs l.out.sends l.out.moved (outcome_of_lines s l.frame w l.line).making
    × (l.out.records ≡ (outcome_of_lines s l.frame w l.line).recorded))
    × (length l.out.sends ≤ 2 * l.line)
    × (length l.out.records ≤ l.line)
    × (l.out.moved ≡ None)
    × SameSizes l.fn.self.map l.self.map
