use Rattle.std.proofs.Common.{◌≡◌, ◌==◌, take}
use Rattle.std.specs.List.{list_all}
use Rattle.circuit_model.specs.FrameInput.{idle_octet}
use Rattle.report_text.proofs.digits.is_piece_idle.Given as goal

abbrev pub invariant-loop-one : goal.invariant-loop-one
invariant-loop-one l = l.all ≡ list_all (λ octet. octet == idle_octet) (take l.one-index l.octets)
