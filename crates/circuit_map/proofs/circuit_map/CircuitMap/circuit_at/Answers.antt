use Rattle.std.proofs.Common.{◌<◌, length, get_or, None, refl, sym, ◌∙◌, ap, subst, arith}
use Rattle.std.proofs.lemmas.List.{get_or_read_under}
use Rattle.circuit_model.specs.Holding.{Holding}
use Rattle.circuit_map.specs.Connections.{Connections, Represents, hears_at}
use Rattle.circuit_map.proofs.Rows.{number_of_inside, hears_inside}
use Rattle.circuit_map.proofs.Clearing.{hearing_at, heard_of_own}
use Rattle.circuit_map.proofs.circuit_map.CircuitMap.circuit_at.Goals as goal

pub returns-clause-circuit : goal.returns-clause-circuit
returns-clause-circuit g c =
    let is = c.self.view_is in
    let at = c.args.at in
    let near : at.line < c.self.inside.external = subst (λ e. at.line < e) (sym (ap (λ (m : Connections). m.external) is)) c.requires.external.0 in
    let rows = c.self.inside.heard.items in
    let inside : c.to_index.result < length rows = let n = number_of_inside c.self.inside.external at near c.requires.external.1 in let i = c.to_index.ensures in let l = c.self.invariant.listeners in omega (arith, n, i, l) in
    get_or_read_under rows c.to_index.result (length rows) c.index.result.now None c.index.ensures inside refl
    ∙ ap (λ i. get_or rows i None) c.to_index.ensures
    ∙ sym (hears_inside c.self.inside.external rows at near c.requires.external.1)
    ∙ ap (λ (m : Connections). hears_at m at) is

pub returns-clause-listener : goal.returns-clause-listener
returns-clause-listener g c =
    let held = subst (λ (m : Connections). (h : Holding) × Represents m h m.ports) c.self.view_is c.self.invariant.held in
    let m = c.args.self.now in
    heard_of_own m _ c.args.at (hearing_at m held.0 m.ports held.1) (returns-clause-circuit g c)

pub returns-clause-stands : goal.returns-clause-stands
returns-clause-stands g c = λ h ports holds. returns-clause-circuit g c ∙ holds.heard c.args.at
