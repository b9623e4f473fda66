use Rattle.std.proofs.Common.{◌≡◌, ◌==◌}
use Rattle.std.specs.List.{flat_map, list_all}
use Rattle.std.specs.Slice.Iter.{chunks_rest}
use Rattle.circuit_model.specs.FrameInput.{idle_octet}
use Rattle.report_text.proofs.digits.are_idle.Given as goal

-- the result is the result for the octets that are left
abbrev pub invariant-loop-piece : goal.invariant-loop-piece
invariant-loop-piece l =
    list_all (λ octet. octet == idle_octet) (chunks_rest l.piece-iterator) ≡ list_all (λ octet. octet == idle_octet) (flat_map (λ line. line) l.fn.lines)
