use Rattle.std.proofs.Common.{◌≡◌, take}
use Rattle.std.specs.List.{list_all}
use Rattle.call_profile.specs.Legs.{is_down}
use Rattle.call_control.proofs.operations.CallControl.are_down.Given as goal

abbrev pub invariant-loop-tried : goal.invariant-loop-tried
invariant-loop-tried g l = l.all ≡ list_all (is_down l.self.legs) (take l.tried-index l.lines)
