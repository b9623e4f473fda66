use Rattle.std.proofs.Common.{◌≡◌}
use Rattle.call_profile.specs.IdleSlots.{idle, lowest_idle}
use Rattle.call_control.specs.Standing.{Holds}
use Rattle.exchange_events.specs.Sizes.{Dimensions}
use Rattle.call_profile.specs.World.{World}
use Rattle.call_control.proofs.ChosenSlotLemmas.{first_from}
use Rattle.call_control.proofs.operations.CallControl.lowest_idle.Given as goal

abbrev pub invariant-loop-place : goal.invariant-loop-place
invariant-loop-place g l = (d : Dimensions) (w : World) → Holds d l.self.map l.self.legs w → lowest_idle w l.line ≡ first_from (idle w) l.line l.place
