use Rattle.std.proofs.Common.{◌≡◌, ◌≤◌, None, length}
use Rattle.circuit_map.specs.Connections.{SameSizes}
use Rattle.call_control.specs.AtWork.{IsInOrder}
use Rattle.call_profile.specs.LinkChanges.{give_up_rule}
use Rattle.call_profile.specs.Restarts.{outcome_below}
use Rattle.exchange_events.specs.Sizes.{Setting}
use Rattle.call_control.specs.Standing.{Makes}
use Rattle.call_profile.specs.World.{World}
use Rattle.call_control.proofs.operations.CallControl.restart_interface.Given as goal

abbrev pub invariant-loop-place : goal.invariant-loop-place
invariant-loop-place g l =
    ((s : Setting) (w : World) → s.tones ≡ l.tones → IsInOrder s l.fn.self.map l.fn.self.legs w
    → Makes s.dimensions l.self.map l.self.legs l.out.sends l.out.moved (outcome_below s.dimensions (give_up_rule s.tones l.condition) l.line w l.place).making
    × (l.records ≡ (outcome_below s.dimensions (give_up_rule s.tones l.condition) l.line w l.place).recorded))
    × (length l.out.sends ≤ l.place)
    × (length l.records ≤ l.place)
    × (l.out.moved ≡ None)
    × SameSizes l.fn.self.map l.self.map
