use Rattle.std.proofs.Common.{rules, ◌≡◌, ◌∙◌}
use Rattle.std.specs.Prelude.{is_none}
use Rattle.circuit_map.specs.Connections.{hears_at}
use Rattle.circuit_map.proofs.Holdings.{is_none-hears_at_idle}
use Rattle.circuit_map.proofs.circuit_map.CircuitMap.idle.Goals as goal

pub returns-clause-idle : goal.returns-clause-idle
returns-clause-idle g c = λ h ports holds.
    let silent : c.is_none.result ≡ is_none (hears_at c.args.self.now c.args.at) = search rules in
    silent ∙ is_none-hears_at_idle c.args.self.now h ports c.args.at holds
