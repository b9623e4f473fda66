use Rattle.std.proofs.Common.{◌≡◌, ◌*◌, [], length}
use Rattle.call_control.specs.AtWork.{IsAtWork}
use Rattle.call_profile.specs.Restarts.{confirm_rule, outcome_below}
use Rattle.exchange_events.specs.Sizes.{Setting}
use Rattle.call_control.specs.Standing.{Makes}
use Rattle.call_profile.specs.World.{World}
use Rattle.call_control.proofs.operations.CallControl.confirm_line.Given as goal

abbrev pub invariant-loop-place : goal.invariant-loop-place
invariant-loop-place g l =
    ((s : Setting) (w : World) → IsAtWork s l.fn.self.map l.fn.self.legs w
    → Makes s.dimensions l.self.map l.self.legs l.out.sends l.out.moved (outcome_below s.dimensions (confirm_rule l.acknowledged) l.line w l.place).making
    × ([] ≡ (outcome_below s.dimensions (confirm_rule l.acknowledged) l.line w l.place).recorded))
    × (l.self.map ≡ l.fn.self.map)
    × (length l.self.legs.held ≡ 30 * l.self.map.external)
