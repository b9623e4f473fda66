use Rattle.std.proofs.Common.{replicate, ap, ◌∙◌}
use Rattle.circuit_model.specs.FrameInput.{idle_octet}
use Rattle.std.specs.List.{each_same}
use Rattle.lone_exchange.specs.At.{idle_lines}
use Rattle.lone_exchange.proofs.opening.frame_buffers.Goals as goal

pub returns-clause-idle : goal.returns-clause-idle
unfolding idle_lines
returns-clause-idle c =
    c.in_ok-octets.ensures.items_if_clones_equal (λ y h. each_same _ y h.whole) ∙ ap (λ n. replicate n (replicate 30 idle_octet)) c.from.ensures
