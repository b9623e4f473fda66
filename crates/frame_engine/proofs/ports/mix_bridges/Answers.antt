use Rattle.std.proofs.Common.{◌*◌, ◌%◌, ◌<◌, ◌≤◌, get_or, ap, ◌∙◌, ⊎_elim, arith, rules}
use Rattle.circuit_model.specs.Ports.{port_numbered}
use Rattle.circuit_model.proofs.PortSeats.{below_or_not}
use Rattle.frame_engine.proofs.ports.mix_bridges.Goals as goal

pub loop-bridge-preserved : goal.loop-bridge-preserved
loop-bridge-preserved c =
    let m = c.args.image.now in
    let b = c.loop-bridge.bridge in
    let external = c.external.ensures in
    let put = c.put_line.ensures in
    let inv = c.loop-bridge.invariant in
    let low : b < m.bridges = let t = c.loop-bridge-test.true in let e = c.bridges-bridge-end.ensures in omega (arith, t, e) in
    record {
      lines = search rules;
      ports = λ k near.
          ⊎_elim
          (λ (before : k < 30 * b). put.filled.others (port_numbered m.external k) (λ same. omega (arith, same, before, external)) (omega arith) ∙ inv.ports k before)
          (λ (here : 30 * b ≤ k).
          put.filled.written (port_numbered m.external k) (omega (arith, near, here, external)) (omega arith)
          ∙ c.line_of.ensures (k % 30) (omega arith)
          ∙ ap (λ n. get_or c.mix_all.new.octets n 0) (omega (arith, near, here))
          ∙ c.mix_all.ensures k (omega (arith, near, low)))
          (below_or_not k (30 * b));
      readable = search rules;
    }
