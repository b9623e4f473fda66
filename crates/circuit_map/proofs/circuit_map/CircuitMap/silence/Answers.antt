use Rattle.std.proofs.Common.{None, refl, sym, ◌∙◌, ap, length-set}
use Rattle.circuit_model.specs.Holding.{Clear}
use Rattle.circuit_model.specs.Ports.{ports_without}
use Rattle.circuit_map.specs.Connections.{Connections, hears_at, hears_after}
use Rattle.circuit_map.proofs.OwnersRooms.{roomed_on, others_hear_on}
use Rattle.circuit_map.proofs.Rows.{hears_set}
use Rattle.circuit_map.proofs.Clearing.{clear_pathless, hearing_at, rows_one, pathless_pair, pathless_member, ports_without_nobody_returns}
use Rattle.circuit_map.proofs.NextMemory.{shown_as, shown_row, port_of_unseated_portless}
use Rattle.circuit_map.proofs.Recent.{forgotten}
use Rattle.circuit_map.proofs.Views.{heeded, obeyed, held_after, roomed_seen, cleared_idle, pathless_seen}
use Rattle.circuit_map.proofs.circuit_map.CircuitMap.silence.Goals as goal

pub returns-clause-hears : goal.returns-clause-hears
returns-clause-hears g c = λ z.
    let is = c.self.view_is in
    let x = c.args.x in
    let held = c.self.invariant.held in
    let at = pathless_seen _ _ x is c.requires.external c.requires.pathless in
    hears_set c.self.inside.external c.self.inside.heard.items x None _ z c.to_index-at.ensures c.self.invariant.listeners at.0.0 at.0.1
    ∙ rows_one _ _ x z (hearing_at _ held.0 _ held.1) (λ s e. pathless_pair _ z x s at.1 e)
    ∙ ap (λ (m : Connections). hears_after m (Clear x) z) is

pub returns-clause-idle : goal.returns-clause-idle
returns-clause-idle g c = cleared_idle _ _ c.args.x _ c.self.view_is c.self.invariant.held (returns-clause-hears g c c.args.x)

pub returns-clause-ports : goal.returns-clause-ports
returns-clause-ports g c =
    let is = c.self.view_is in
    let x = c.args.x in
    let held = c.self.invariant.held in
    let at = pathless_seen _ _ x is c.requires.external c.requires.pathless in
    sym (ports_without_nobody_returns _ held.0 _ x (λ room t s e. pathless_member _ room t s at.1 e) held.1) ∙ ap (λ (m : Connections). ports_without x m.ports) is

pub returns-clause-holds : goal.returns-clause-holds
returns-clause-holds g c =
    let is = c.self.view_is in
    let x = c.args.x in
    let at = pathless_seen _ _ x is c.requires.external c.requires.pathless in
    obeyed _ _ _ (Clear x) is (clear_pathless _ _ x at.0.0 at.1 (heeded _ _ _ _ is refl refl refl (returns-clause-hears g c) (returns-clause-ports g c)) refl)

pub invariant_of-self : goal.invariant_of-self
invariant_of-self g c =
    let is = c.self.view_is in
    let x = c.args.x in
    let held = c.self.invariant.held in
    let at = pathless_seen _ _ x is c.requires.external c.requires.pathless in
    let none = port_of_unseated_portless _ held.0 _ x (λ room t s e. pathless_member _ room t s at.1 e) held.1 in
    record {
      few = c.self.invariant.few;
      width = c.self.invariant.width;
      first = c.self.invariant.first;
      rows = c.self.invariant.rows;
      listeners = length-set c.self.inside.heard.items _ _ ∙ c.self.invariant.listeners;
      sockets = c.self.invariant.sockets;
      legal = c.self.invariant.legal;
      held = held_after _ _ _ (Clear x) is (returns-clause-holds g c) held;
      roomed = roomed_on (hears_at c.args.self.now) _ _ (roomed_seen _ _ _ is c.self.invariant.roomed)
          (others_hear_on (hears_at c.args.self.now) _ x (returns-clause-hears g c) (λ room s e. pathless_member (hears_at c.args.self.now x) room x s c.requires.pathless e));
      shown = shown_as _ _ _ _ _ _ _ c.set.ensures (shown_row _ _ _ _ _ _ x None _ c.self.invariant.shown c.self.invariant.listeners at.0.0 at.0.1 none c.to_index-at.ensures);
      recent = forgotten _ _ _ _ _ _ _ _ _ _ _ _ c.self.invariant.recent c.forget.ensures.external c.forget.ensures.bridges c.forget.ensures.slots c.forget.ensures.latest refl;
    }
