use Rattle.std.proofs.Common.{◌≡◌, ◌*◌, arith, if◌then◌else◌, length, set, Some, None, refl, sym, ◌∙◌, ap, subst, length-set}
use Rattle.std.specs.Prelude.{position, is_none, IfSome}
use Rattle.circuit_model.specs.declared.circuit.Circuit.TheVariants.{Member}
use Rattle.circuit_model.specs.Holding.{Holding, Seat}
use Rattle.circuit_model.specs.Ports.{Ports, port_of, ports_with}
use Rattle.control_memory.specs.Layout.{IsSlot}
use Rattle.circuit_map.specs.Connections.{Connections, joined_both, AreMoves, hears_in, hears_after, Represents, AreRoomed}
use Rattle.circuit_map.proofs.OwnersRooms.{roomed_given}
use Rattle.circuit_map.proofs.Sockets.{length-given}
use Rattle.circuit_map.proofs.Seating.{lowest_port, position-members, no_number, holds_seat, no_lowest, ports_with_none_given, port_of_idle_portless, count_by-is_member_full, not_full}
use Rattle.circuit_map.proofs.Rows.{hears_set, given_keeps}
use Rattle.circuit_map.proofs.NextMemory.{shown_as, shown_row, shown_given, shown_by}
use Rattle.circuit_map.proofs.Recent.{forgotten}
use Rattle.circuit_map.proofs.Views.{shown_with, held_with, idle_seen, obeyed, held_after, joined_seen, moves_seen, port_seen}
use Rattle.circuit_map.proofs.Ends.{port_given}
use Rattle.circuit_model.proofs.Slots.{same_slot-refl}
use Rattle.circuit_model.specs.declared.channel.Slot.{Slot}
use Rattle.conference_ports.specs.Owners.{members}
use Rattle.conference_ports.proofs.Positions.{owners_with_owned_none}
use Rattle.circuit_map.proofs.circuit_map.CircuitMap.seat.Goals as goal

pub take-requires-clause-portless : goal.take-requires-clause-portless
take-requires-clause-portless g c =
    let is = c.self.view_is in
    let held = subst (λ (m : Connections). (h : Holding) × Represents m h m.ports) is c.self.invariant.held in
    let m = c.args.self.now in
    (λ i. port_of ((c.self.invariant.first ∙ ap (λ (m : Connections). m.external) is) i) (is i).ports c.args.x) ∙ port_of_idle_portless m held.0 m.ports c.args.x held.1 c.requires.idle

pub invariant_of-self : goal.invariant_of-self
invariant_of-self g c =
    let is = c.self.view_is in
    let none = no_lowest c.self.inside.ports.external c.self.inside.ports.owners (sym c.take.ensures.lowest ∙ c.in_default.is) in
    let same = c.take.ensures.members ∙ ports_with_none_given c.args.x _ none in
    record {
      few = c.self.invariant.few;
      width = c.self.invariant.width;
      first = c.take.ensures.sizes.0 ∙ c.self.invariant.first;
      rows = c.take.ensures.sizes.1 ∙ c.self.invariant.rows;
      listeners = c.self.invariant.listeners;
      sockets = ap length same ∙ c.self.invariant.sockets;
      legal = c.self.invariant.legal;
      held = held_with _ _ same c.self.invariant.held;
      roomed = subst (AreRoomed (hears_in c.self.inside.external c.self.inside.heard.items)) (sym (c.take.ensures.owners ∙ owners_with_owned_none _ c.self.inside.ports.owners (no_number c.self.inside.ports.external _ (sym c.take.ensures.lowest ∙ c.in_default.is)))) c.self.invariant.roomed;
      shown = shown_by _ _ _ _ _ _ _ same c.self.invariant.shown;
      recent = c.self.invariant.recent;
    }

pub returns-in_default-clause-refused : goal.returns-in_default-clause-refused
returns-in_default-clause-refused g c =
    let is = c.self.view_is in
    let none = no_lowest c.self.inside.ports.external c.self.inside.ports.owners (sym c.take.ensures.lowest ∙ c.in_default.is) in
    let same = c.take.ensures.members ∙ ports_with_none_given c.args.x _ none in
    shown_with _ _ _ same is

pub returns-in_default-clause-full : goal.returns-in_default-clause-full
returns-in_default-clause-full g c = λ h ports holds.
    let is = c.self.view_is in
    let none = no_lowest c.self.inside.ports.external c.self.inside.ports.owners (sym c.take.ensures.lowest ∙ c.in_default.is) in
    (λ err. count_by-is_member_full c.args.self.now h ports holds (subst (λ (m : Connections). length m.ports ≡ 30 * m.bridges) is c.self.invariant.sockets) (subst (λ (p : Ports). position is_none p ≡ None) (ap (λ (m : Connections). m.ports) is) none), λ full. refl)

pub connect_both-moves-requires : goal.connect_both-moves-requires
connect_both-moves-requires g c = (port_given _ _ _ _ _ _ _ _ _ c.self.view_is c.self.invariant c.args.x c.in-Some.port c.requires.external c.requires.idle refl (sym c.take.ensures.lowest ∙ c.in-Some.is)).can

pub returns-clause-full : goal.returns-clause-full
returns-clause-full g c = λ h ports holds.
    let is = c.self.view_is in
    let gets = port_given _ _ _ _ _ _ _ _ _ is c.self.invariant c.args.x c.in-Some.port c.requires.external c.requires.idle refl (sym c.take.ensures.lowest ∙ c.in-Some.is) in
    let old : Represents _ h ports = subst (λ (m : Connections). Represents m h ports) (sym is) holds in
    (λ err. absurd (cc), λ full. absurd (not_full _ h ports gets.lowest.number old c.self.invariant.sockets gets.lowest.lowest (full ∙ ap (λ (m : Connections). 30 * m.bridges) (sym is))))

pub returns-clause-layout : goal.returns-clause-layout
returns-clause-layout g c =
    let is = c.self.view_is in
    let x = c.args.x in
    let gets = port_given _ _ _ _ _ _ _ _ _ is c.self.invariant x c.in-Some.port c.requires.external c.requires.idle refl (sym c.take.ensures.lowest ∙ c.in-Some.is) in
    let at_p = port_seen _ _ x c.in-Some.port _ is c.take.ensures.members gets.port in
    subst (λ o. IfSome o (λ port. g.P.PathMap.layout c.connect_both-moves.new.map ≡ joined_both c.args.self.now x port)) (sym at_p)
    (joined_seen _ _ _ x c.in-Some.port _ c.self.invariant.width is c.connect_both-moves.ensures.layout)

pub returns-clause-moves : goal.returns-clause-moves
returns-clause-moves g c =
    let is = c.self.view_is in
    let x = c.args.x in
    let gets = port_given _ _ _ _ _ _ _ _ _ is c.self.invariant x c.in-Some.port c.requires.external c.requires.idle refl (sym c.take.ensures.lowest ∙ c.in-Some.is) in
    let at_p = port_seen _ _ x c.in-Some.port _ is c.take.ensures.members gets.port in
    subst (λ o. IfSome o (λ port. AreMoves c.connect_both-moves.result c.args.self.now x port)) (sym at_p)
    (moves_seen _ _ _ x c.in-Some.port _ c.self.invariant.width is c.connect_both-moves.ensures.layout _ _ c.connect_both-moves.ensures.there c.connect_both-moves.ensures.back)

pub returns-clause-hears : goal.returns-clause-hears
returns-clause-hears g c = λ z.
    let is = c.self.view_is in
    let x = c.args.x in
    let near = (idle_seen _ _ x is c.requires.external c.requires.idle).0 in
    hears_set c.self.inside.external c.self.inside.heard.items x (Some (Member c.args.room x c.self.inside.next)) _ z c.to_index-at_x.ensures c.self.invariant.listeners near.0 near.1
    ∙ ap (λ (m : Connections). hears_after m (Seat x c.args.room) z) is

pub returns-clause-holds : goal.returns-clause-holds
returns-clause-holds g c =
    let is = c.self.view_is in
    let x = c.args.x in
    let p = c.in-Some.port in
    let gets = port_given _ _ _ _ _ _ _ _ _ is c.self.invariant x p c.requires.external c.requires.idle refl (sym c.take.ensures.lowest ∙ c.in-Some.is) in
    obeyed _ _ _ (Seat x c.args.room) is
    (holds_seat _ _ x p c.args.room gets.lowest.number c.self.invariant.sockets gets.idle
    (record {
      external = refl;
      bridges = refl;
      next = refl;
      hears = λ z. returns-clause-hears g c z ∙ sym (ap (λ (m : Connections). hears_after m (Seat x c.args.room) z) is);
      lowest = gets.lowest.lowest;
      port = gets.lowest.is;
      members = c.take.ensures.members;
      joins = λ a b inside. c.connect_both-moves.ensures.pairs a b (subst (λ w. IsSlot w a) (sym c.self.invariant.width) inside);
    }))

pub returns-clause-ports : goal.returns-clause-ports
returns-clause-ports g c = c.take.ensures.members ∙ ap (λ (m : Connections). ports_with c.args.x m.ports) c.self.view_is

-- the port's line is a bridge line
pub port_index-sits_at-requires : goal.port_index-sits_at-requires
port_index-sits_at-requires g c =
    let lowest = lowest_port c.self.inside.ports.external c.self.inside.ports.owners c.in-Some.port (sym c.take.ensures.lowest ∙ c.in-Some.is) in
    let line = ap (λ (s : Slot). s.line) lowest.2 in
    let first = c.self.invariant.first in
    omega (arith, line, first)

pub invariant_of-self-2 : goal.invariant_of-self-2
invariant_of-self-2 g c =
    let is = c.self.view_is in
    let x = c.args.x in
    let p = c.in-Some.port in
    let gets = port_given _ _ _ _ _ _ _ _ _ is c.self.invariant x p c.requires.external c.requires.idle refl (sym c.take.ensures.lowest ∙ c.in-Some.is) in
    let seat = Some (Member c.args.room x c.self.inside.next) in
    let rows = c.self.inside.heard.items in
    let long = c.self.invariant.listeners in
    let held = c.self.invariant.held in
    let none = port_of_idle_portless _ held.0 _ x held.1 gets.idle in
    let one = shown_as _ _ _ _ _ _ _ c.set.ensures (shown_row _ _ _ _ _ _ x seat _ c.self.invariant.shown long gets.near.0 gets.near.1 none c.to_index-at_x.ensures) in
    let heard = set rows c.to_index-at_x.result seat in
    let hears : hears_in c.self.inside.external heard x ≡ seat =
    hears_set c.self.inside.external rows x seat _ x c.to_index-at_x.ensures long gets.near.0 gets.near.1
    ∙ ap (λ b. if b then seat else hears_in c.self.inside.external rows x) (same_slot-refl x) in
    let two = shown_as _ _ _ _ _ _ _ c.set-2.ensures (shown_given c.self.inside.external c.self.inside.bridges heard (members c.self.inside.ports.owners) _ _ x p gets.lowest.number seat _ _ one gets.lowest.lowest gets.lowest.is gets.lowest.inside hears c.to_index-at_port.ensures c.port_index-sits_at.ensures) in
    record {
      few = c.self.invariant.few;
      width = c.connect_both-moves.ensures.width ∙ c.self.invariant.width;
      first = c.take.ensures.sizes.0 ∙ c.self.invariant.first;
      rows = c.take.ensures.sizes.1 ∙ c.self.invariant.rows;
      listeners = length-set rows _ _ ∙ long;
      sockets = ap length c.take.ensures.members ∙ length-given x _ ∙ c.self.invariant.sockets;
      legal = c.connect_both-moves.ensures.legal;
      held = held_after _ _ _ (Seat x c.args.room) is (returns-clause-holds g c) held;
      roomed = subst (AreRoomed (hears_in c.self.inside.external heard)) (sym c.take.ensures.owners)
          (roomed_given (hears_in c.self.inside.external rows) (hears_in c.self.inside.external heard) c.self.inside.ports.owners x c.args.room c.self.inside.next gets.lowest.number c.self.invariant.roomed (sym (position-members c.self.inside.ports.owners) ∙ gets.lowest.lowest) hears
          (given_keeps (hears_in c.self.inside.external rows) (hears_in c.self.inside.external heard) x seat
          (λ z. hears_set c.self.inside.external rows x seat _ z c.to_index-at_x.ensures long gets.near.0 gets.near.1) gets.idle));
      shown = shown_by _ _ _ _ _ _ _ c.take.ensures.members two;
      recent = forgotten _ _ _ _ _ _ _ _ _ _ _ _ c.self.invariant.recent c.forget.ensures.external c.forget.ensures.bridges c.forget.ensures.slots c.forget.ensures.latest c.connect_both-moves.ensures.depth;
    }
