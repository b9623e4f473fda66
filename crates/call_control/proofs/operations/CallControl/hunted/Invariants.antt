use Rattle.std.proofs.Common.{◌≡◌, drop}
use Rattle.call_profile.specs.IdleSlots.{hunted}
use Rattle.call_control.specs.Standing.{Holds}
use Rattle.exchange_events.specs.Sizes.{Dimensions}
use Rattle.call_profile.specs.World.{World}
use Rattle.call_control.proofs.operations.CallControl.hunted.Given as goal

abbrev pub invariant-loop-line : goal.invariant-loop-line
invariant-loop-line g l = (d : Dimensions) (w : World) → Holds d l.self.map l.self.legs w → hunted w l.beside l.lines ≡ hunted w l.beside (drop l.line-index l.lines)
