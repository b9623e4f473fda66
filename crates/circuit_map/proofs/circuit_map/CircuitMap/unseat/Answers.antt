use Rattle.std.proofs.Common.{◌≡◌, length, None, Some, refl, sym, ◌∙◌, ap, subst, length-set}
use Rattle.circuit_model.specs.Circuits.{heard_by}
use Rattle.circuit_model.specs.Holding.{Clear}
use Rattle.circuit_model.specs.Ports.{port_of, ports_without}
use Rattle.control_memory.specs.Layout.{IsSlot}
use Rattle.circuit_map.specs.Connections.{Connections, AreRoomed, hears_at, hears_after, parted}
use Rattle.circuit_map.proofs.OwnersRooms.{roomed_returned}
use Rattle.circuit_map.proofs.Rows.{hears_set}
use Rattle.circuit_map.proofs.Sockets.{length-returned, port_line}
use Rattle.circuit_map.proofs.Clearing.{clear_paths, clears, hearing_at, rows_one, member_partner, no_member_too}
use Rattle.circuit_map.proofs.NextMemory.{shown_as, shown_row, shown_returned, shown_by, count_by-has_one_port, port_of_returned_portless}
use Rattle.circuit_map.proofs.Recent.{forgotten}
use Rattle.circuit_map.proofs.Views.{heeded, obeyed, held_after, roomed_seen, cleared_idle}
use Rattle.circuit_map.proofs.Ends.{port_had, port_not_lacking}
use Rattle.conference_ports.specs.Owners.{members}
use Rattle.circuit_map.proofs.circuit_map.CircuitMap.unseat.Goals as goal

pub unreachable-requires : goal.unreachable-requires
unreachable-requires g c =
    let s = c.requires.seated in
    port_not_lacking _ _ _ _ _ _ _ _ _ c.self.view_is c.self.invariant c.args.x s.1 s.0 s.2 s.3 (sym c.port_of.ensures ∙ c.in_default.is)

pub disconnect_both-requires-clause-joined : goal.disconnect_both-requires-clause-joined
disconnect_both-requires-clause-joined g c =
    let s = c.requires.seated in
    (port_had _ _ _ _ _ _ _ _ _ c.self.view_is c.self.invariant c.args.x c.in-Some.port s.1 s.0 s.2 c.requires.external s.3 (sym c.port_of.ensures ∙ c.in-Some.is)).joined

pub returns-clause-layout : goal.returns-clause-layout
returns-clause-layout g c =
    let is = c.self.view_is in
    let x = c.args.x in
    let s = c.requires.seated in
    let has = port_had _ _ _ _ _ _ _ _ _ is c.self.invariant x c.in-Some.port s.1 s.0 s.2 c.requires.external s.3 (sym c.port_of.ensures ∙ c.in-Some.is) in
    c.disconnect_both.ensures.layout ∙ sym has.parts ∙ ap (λ (m : Connections). parted m x) is

pub returns-clause-hears : goal.returns-clause-hears
returns-clause-hears g c = λ z.
    let is = c.self.view_is in
    let x = c.args.x in
    let s = c.requires.seated in
    let held = c.self.invariant.held in
    let has = port_had _ _ _ _ _ _ _ _ _ is c.self.invariant x c.in-Some.port s.1 s.0 s.2 c.requires.external s.3 (sym c.port_of.ensures ∙ c.in-Some.is) in
    hears_set c.self.inside.external c.self.inside.heard.items x None _ z c.to_index-at_x.ensures c.self.invariant.listeners has.near.0 has.near.1
    ∙ rows_one _ _ x z (hearing_at _ held.0 _ held.1) (λ t e. no_member_too _ z x x t s.0 s.2 e has.hears)
    ∙ ap (λ (m : Connections). hears_after m (Clear x) z) is

pub returns-clause-idle : goal.returns-clause-idle
returns-clause-idle g c = cleared_idle _ _ c.args.x _ c.self.view_is c.self.invariant.held (returns-clause-hears g c c.args.x)

pub returns-clause-ports : goal.returns-clause-ports
returns-clause-ports g c = c.give.ensures.members ∙ ap (λ (m : Connections). ports_without c.args.x m.ports) c.self.view_is

-- the port's line is a bridge line
pub port_index-sits_at-requires : goal.port_index-sits_at-requires
port_index-sits_at-requires g c =
    let at_p : port_of c.self.inside.external (members c.self.inside.ports.owners) c.args.x ≡ Some c.in-Some.port = ap (λ e. port_of e (members c.self.inside.ports.owners) c.args.x) (sym c.self.invariant.first) ∙ sym c.port_of.ensures ∙ c.in-Some.is in
    port_line c.self.inside.external (members c.self.inside.ports.owners) c.args.x c.in-Some.port at_p

pub returns-clause-holds : goal.returns-clause-holds
returns-clause-holds g c =
    let is = c.self.view_is in
    let x = c.args.x in
    let p = c.in-Some.port in
    let s = c.requires.seated in
    let has = port_had _ _ _ _ _ _ _ _ _ is c.self.invariant x p s.1 s.0 s.2 c.requires.external s.3 (sym c.port_of.ensures ∙ c.in-Some.is) in
    obeyed _ _ _ (Clear x) is (λ h ports holds.
    clear_paths _ _ x p has.near.0 (heeded _ _ _ _ is refl refl refl (returns-clause-hears g c) (returns-clause-ports g c))
    (λ a b inside. c.disconnect_both.ensures.pairs a b (subst (λ w. IsSlot w a) (sym c.self.invariant.width) inside))
    h ports holds
    (member_partner _ ports _ (heard_by h.circuits) _ x p s.0 s.2 (clears _ h ports x has.near.0 holds) (sym (holds.heard x) ∙ has.hears) (ap (λ q. port_of c.self.inside.external q x) (sym holds.members) ∙ has.port)))

pub invariant_of-self : goal.invariant_of-self
invariant_of-self g c =
    let is = c.self.view_is in
    let x = c.args.x in
    let p = c.in-Some.port in
    let s = c.requires.seated in
    let held = c.self.invariant.held in
    let has = port_had _ _ _ _ _ _ _ _ _ is c.self.invariant x p s.1 s.0 s.2 c.requires.external s.3 (sym c.port_of.ensures ∙ c.in-Some.is) in
    let one = shown_as _ _ _ _ _ _ _ c.set.ensures (shown_returned c.self.inside.external c.self.inside.bridges _ _ _ _ x p _ _ c.self.invariant.shown has.port (count_by-has_one_port _ held.0 _ x held.1) has.inside c.to_index-at_port.ensures c.port_index-sits_at.ensures) in
    let two = shown_as _ _ _ _ _ _ _ c.set-2.ensures (shown_row _ _ _ _ _ _ x None _ one c.self.invariant.listeners has.near.0 has.near.1 (port_of_returned_portless c.self.inside.external (members c.self.inside.ports.owners) x) c.to_index-at_x.ensures) in
    record {
      few = c.self.invariant.few;
      width = c.disconnect_both.ensures.width ∙ c.self.invariant.width;
      first = c.give.ensures.sizes.0 ∙ c.self.invariant.first;
      rows = c.give.ensures.sizes.1 ∙ c.self.invariant.rows;
      listeners = length-set c.self.inside.heard.items _ _ ∙ c.self.invariant.listeners;
      sockets = ap length c.give.ensures.members ∙ length-returned x _ ∙ c.self.invariant.sockets;
      legal = c.disconnect_both.ensures.legal;
      held = held_after _ _ _ (Clear x) is (returns-clause-holds g c) held;
      roomed = subst (AreRoomed _) (sym c.give.ensures.owners)
          (roomed_returned (hears_at c.args.self.now) _ c.self.inside.ports.owners x (roomed_seen _ _ _ is c.self.invariant.roomed) (returns-clause-hears g c));
      shown = shown_by _ _ _ _ _ _ _ c.give.ensures.members two;
      recent = forgotten _ _ _ _ _ _ _ _ _ _ _ _ c.self.invariant.recent c.forget.ensures.external c.forget.ensures.bridges c.forget.ensures.slots c.forget.ensures.latest c.disconnect_both.ensures.depth;
    }
