use Rattle.std.proofs.Common.{◌≡◌, ◌==◌, take}
use Rattle.std.specs.List.{list_all}
use Rattle.circuit_model.specs.FrameInput.{idle_octet}
use Rattle.report_text.proofs.digits.are_sixteen_idle.Given as goal

abbrev pub invariant-loop-octet : goal.invariant-loop-octet
invariant-loop-octet l = l.all ≡ list_all (λ octet. octet == idle_octet) (take l.octet-index l.octets)
