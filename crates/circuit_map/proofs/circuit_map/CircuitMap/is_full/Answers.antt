use Rattle.std.proofs.Common.{◌≡◌, ◌*◌, length, sym, ◌∙◌, ap, subst}
use Rattle.std.specs.Prelude.{position, is_none}
use Rattle.circuit_map.specs.Connections.{Connections}
use Rattle.circuit_map.proofs.Seating.{position-members, told_full}
use Rattle.circuit_map.proofs.circuit_map.CircuitMap.is_full.Goals as goal

pub returns : goal.returns
returns g c = λ h ports holds.
    let is = c.self.view_is in
    c.is_full.ensures
    ∙ told_full c.args.self.now h ports (position is_none c.self.inside.ports.owners) holds
    (subst (λ (m : Connections). length m.ports ≡ 30 * m.bridges) is c.self.invariant.sockets)
    (ap (λ (m : Connections). position is_none m.ports) (sym is) ∙ position-members c.self.inside.ports.owners)
