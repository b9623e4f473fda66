use Rattle.std.proofs.Common.{length, set, None, refl, sym, ◌∙◌, ap, subst, length-set, arith}
use Rattle.circuit_model.specs.Circuits.{heard_by}
use Rattle.circuit_model.specs.Holding.{Clear}
use Rattle.circuit_model.specs.Ports.{ports_without}
use Rattle.control_memory.specs.Layout.{IsSlot}
use Rattle.circuit_map.specs.Connections.{Connections, hears_at, hears_after}
use Rattle.circuit_map.proofs.OwnersRooms.{roomed_on, others_hear_on}
use Rattle.circuit_map.proofs.Rows.{hears_two, number_of_inside}
use Rattle.circuit_map.proofs.Clearing.{clear_paths, clears, hearing_at, rows_two, ports_without_nobody_returns, pair_partner, no_member_too}
use Rattle.circuit_map.proofs.NextMemory.{shown_as, shown_row, port_of_unseated_portless}
use Rattle.circuit_map.proofs.Recent.{forgotten}
use Rattle.circuit_map.proofs.Views.{heeded, obeyed, held_after, roomed_seen, cleared_idle}
use Rattle.circuit_map.proofs.Ends.{ends_of}
use Rattle.circuit_map.proofs.circuit_map.CircuitMap.release.Goals as goal

pub disconnect_both-requires-clause-joined : goal.disconnect_both-requires-clause-joined
disconnect_both-requires-clause-joined g c =
    (ends_of _ _ _ _ _ _ _ _ _ c.self.view_is c.self.invariant c.args.x c.args.y c.requires.connected.0 c.requires.connected.1 c.requires.external c.requires.connected.2).joined

pub index_mut-requires-2 : goal.index_mut-requires-2
index_mut-requires-2 g c =
    let far = (ends_of _ _ _ _ _ _ _ _ _ c.self.view_is c.self.invariant c.args.x c.args.y c.requires.connected.0 c.requires.connected.1 c.requires.external c.requires.connected.2).far in
    let inside = number_of_inside c.self.inside.external c.args.y far.0 far.1 in
    omega (arith, inside, c.to_index-at_y.ensures, c.self.invariant.listeners, c.self.inside.heard.ok.0)

pub set-requires-2 : goal.set-requires-2
set-requires-2 g c =
    let far = (ends_of _ _ _ _ _ _ _ _ _ c.self.view_is c.self.invariant c.args.x c.args.y c.requires.connected.0 c.requires.connected.1 c.requires.external c.requires.connected.2).far in
    let inside = number_of_inside c.self.inside.external c.args.y far.0 far.1 in
    let hearers = ap length c.set.ensures ∙ length-set c.self.inside.hearing _ _ ∙ c.self.invariant.shown.hearers in
    omega (arith, inside, c.to_index-at_y.ensures, hearers)

pub returns-clause-hears : goal.returns-clause-hears
returns-clause-hears g c = λ z.
    let is = c.self.view_is in
    let x = c.args.x in
    let y = c.args.y in
    let held = c.self.invariant.held in
    let ends = ends_of _ _ _ _ _ _ _ _ _ is c.self.invariant x y c.requires.connected.0 c.requires.connected.1 c.requires.external c.requires.connected.2 in
    hears_two c.self.inside.external c.self.inside.heard.items x y None None _ _ z c.to_index-at_x.ensures c.to_index-at_y.ensures c.self.invariant.listeners ends.near ends.far
    ∙ rows_two _ _ x y z c.requires.connected.1 (hearing_at _ held.0 _ held.1) ends.hears
    ∙ ap (λ (m : Connections). hears_after m (Clear x) z) is

pub returns-clause-idle : goal.returns-clause-idle
returns-clause-idle g c = cleared_idle _ _ c.args.x _ c.self.view_is c.self.invariant.held (returns-clause-hears g c c.args.x)

pub returns-clause-ports : goal.returns-clause-ports
returns-clause-ports g c =
    let x = c.args.x in
    let s = c.requires.connected.1 in
    let held = c.self.invariant.held in
    let ends = ends_of _ _ _ _ _ _ _ _ _ c.self.view_is c.self.invariant x c.args.y c.requires.connected.0 s c.requires.external c.requires.connected.2 in
    sym (ports_without_nobody_returns _ held.0 _ x (λ room at t e. no_member_too _ c.args.y x at s room t ends.hears e) held.1) ∙ ap (λ (m : Connections). ports_without x m.ports) c.self.view_is

pub returns-clause-holds : goal.returns-clause-holds
returns-clause-holds g c =
    let is = c.self.view_is in
    let x = c.args.x in
    let y = c.args.y in
    let s = c.requires.connected.1 in
    let ends = ends_of _ _ _ _ _ _ _ _ _ is c.self.invariant x y c.requires.connected.0 s c.requires.external c.requires.connected.2 in
    obeyed _ _ _ (Clear x) is (λ h ports holds.
    clear_paths _ _ x y ends.near.0 (heeded _ _ _ _ is refl refl refl (returns-clause-hears g c) (returns-clause-ports g c))
    (λ a b inside. c.disconnect_both.ensures.pairs a b (subst (λ w. IsSlot w a) (sym c.self.invariant.width) inside))
    h ports holds (pair_partner _ ports _ (heard_by h.circuits) _ x y s (clears _ h ports x ends.near.0 holds) (sym (holds.heard x) ∙ ends.hears)))

pub invariant_of-self : goal.invariant_of-self
invariant_of-self g c =
    let is = c.self.view_is in
    let x = c.args.x in
    let y = c.args.y in
    let s = c.requires.connected.1 in
    let held = c.self.invariant.held in
    let long = c.self.invariant.listeners in
    let ends = ends_of _ _ _ _ _ _ _ _ _ is c.self.invariant x y c.requires.connected.0 s c.requires.external c.requires.connected.2 in
    let none_x = port_of_unseated_portless _ held.0 _ x (λ room at t e. no_member_too _ y x at s room t ends.hears e) held.1 in
    let none_y = port_of_unseated_portless _ held.0 _ y (λ room at t e. no_member_too _ x y at s room t ends.hears_back e) held.1 in
    let one = shown_as _ _ _ _ _ _ _ c.set.ensures (shown_row _ _ _ _ _ _ x None _ c.self.invariant.shown long ends.near.0 ends.near.1 none_x c.to_index-at_x.ensures) in
    record {
      few = c.self.invariant.few;
      width = c.disconnect_both.ensures.width ∙ c.self.invariant.width;
      first = c.self.invariant.first;
      rows = c.self.invariant.rows;
      listeners = length-set (set c.self.inside.heard.items _ _) _ _ ∙ length-set c.self.inside.heard.items _ _ ∙ long;
      sockets = c.self.invariant.sockets;
      legal = c.disconnect_both.ensures.legal;
      held = held_after _ _ _ (Clear x) is (returns-clause-holds g c) held;
      roomed = roomed_on (hears_at c.args.self.now) _ _ (roomed_seen _ _ _ is c.self.invariant.roomed)
          (others_hear_on (hears_at c.args.self.now) _ x (returns-clause-hears g c) (λ room t e. no_member_too _ y x x s room t ends.hears (ap (λ (m : Connections). hears_at m x) is ∙ e)));
      shown = shown_as _ _ _ _ _ _ _ c.set-2.ensures (shown_row _ _ _ _ _ _ y None _ one (length-set c.self.inside.heard.items _ _ ∙ long) ends.far.0 ends.far.1 none_y c.to_index-at_y.ensures);
      recent = forgotten _ _ _ _ _ _ _ _ _ _ _ _ c.self.invariant.recent c.forget.ensures.external c.forget.ensures.bridges c.forget.ensures.slots c.forget.ensures.latest c.disconnect_both.ensures.depth;
    }
