use Rattle.std.proofs.Common.{set, Some, sym, ◌∙◌, ap, subst, length-set, refl}
use Rattle.circuit_model.specs.declared.circuit.Circuit.TheVariants.{Pair}
use Rattle.circuit_model.specs.Holding.{Connect}
use Rattle.control_memory.specs.Layout.{IsSlot}
use Rattle.circuit_map.specs.Connections.{Connections, hears_in, hears_at, hears_after}
use Rattle.circuit_map.proofs.Rows.{hears_two, two_keep}
use Rattle.circuit_map.proofs.OwnersRooms.{roomed_on}
use Rattle.circuit_map.proofs.Holdings.{holds_pair, swapped}
use Rattle.circuit_map.proofs.Seating.{port_of_idle_portless}
use Rattle.circuit_map.proofs.NextMemory.{shown_as, shown_row}
use Rattle.circuit_map.proofs.Recent.{forgotten}
use Rattle.circuit_map.proofs.Views.{idle_seen, heeded, obeyed, held_after, roomed_seen, joined_seen, moves_seen}
use Rattle.circuit_map.proofs.Ends.{idle_both}
use Rattle.circuit_map.proofs.circuit_map.CircuitMap.pair.Goals as goal

pub connect_both-moves-requires : goal.connect_both-moves-requires
connect_both-moves-requires g c =
    idle_both _ _ _ _ _ _ _ _ _ c.self.view_is c.self.invariant c.args.x c.args.y c.requires.distinct c.requires.external_x c.requires.external_y c.requires.idle_x c.requires.idle_y

pub returns-clause-layout : goal.returns-clause-layout
returns-clause-layout g c = joined_seen _ _ _ c.args.x c.args.y _ c.self.invariant.width c.self.view_is c.connect_both-moves.ensures.layout

pub returns-clause-moves : goal.returns-clause-moves
returns-clause-moves g c = moves_seen _ _ _ c.args.x c.args.y _ c.self.invariant.width c.self.view_is c.connect_both-moves.ensures.layout _ _ c.connect_both-moves.ensures.there c.connect_both-moves.ensures.back

pub returns-clause-hears : goal.returns-clause-hears
returns-clause-hears g c = λ z.
    let is = c.self.view_is in
    let x = c.args.x in
    let y = c.args.y in
    let one = Some (Pair y x c.self.inside.next) in
    let two = Some (Pair x y c.self.inside.next) in
    let in_x = idle_seen _ _ x is c.requires.external_x c.requires.idle_x in
    let in_y = idle_seen _ _ y is c.requires.external_y c.requires.idle_y in
    let rows = c.self.inside.heard.items in
    hears_two c.self.inside.external rows x y one two _ _ z c.to_index-at_x.ensures c.to_index-at_y.ensures c.self.invariant.listeners in_x.0 in_y.0
    ∙ swapped x y z one two (hears_in c.self.inside.external rows z) c.requires.distinct
    ∙ ap (λ (m : Connections). hears_after m (Connect x y) z) is

pub returns-clause-holds : goal.returns-clause-holds
returns-clause-holds g c =
    let is = c.self.view_is in
    let x = c.args.x in
    let y = c.args.y in
    let in_x = idle_seen _ _ x is c.requires.external_x c.requires.idle_x in
    let in_y = idle_seen _ _ y is c.requires.external_y c.requires.idle_y in
    obeyed _ _ _ (Connect x y) is
    (holds_pair _ _ x y c.requires.distinct in_x.1 in_y.1 (heeded _ _ _ _ is refl refl refl (returns-clause-hears g c) (ap (λ (m : Connections). m.ports) is))
    (λ a b inside. c.connect_both-moves.ensures.pairs a b (subst (λ w. IsSlot w a) (sym c.self.invariant.width) inside)))

pub invariant_of-self : goal.invariant_of-self
invariant_of-self g c =
    let is = c.self.view_is in
    let x = c.args.x in
    let y = c.args.y in
    let in_x = idle_seen _ _ x is c.requires.external_x c.requires.idle_x in
    let in_y = idle_seen _ _ y is c.requires.external_y c.requires.idle_y in
    let held = c.self.invariant.held in
    let none_x = port_of_idle_portless _ held.0 _ x held.1 in_x.1 in
    let none_y = port_of_idle_portless _ held.0 _ y held.1 in_y.1 in
    let long = c.self.invariant.listeners in
    let one = shown_as _ _ _ _ _ _ _ c.set.ensures (shown_row _ _ _ _ _ _ x (Some (Pair y x c.self.inside.next)) _ c.self.invariant.shown long in_x.0.0 in_x.0.1 none_x c.to_index-at_x.ensures) in
    record {
      few = c.self.invariant.few;
      width = c.connect_both-moves.ensures.width ∙ c.self.invariant.width;
      first = c.self.invariant.first;
      rows = c.self.invariant.rows;
      listeners = length-set (set c.self.inside.heard.items _ _) _ _ ∙ length-set c.self.inside.heard.items _ _ ∙ long;
      sockets = c.self.invariant.sockets;
      legal = c.connect_both-moves.ensures.legal;
      held = held_after _ _ _ (Connect x y) is (returns-clause-holds g c) held;
      roomed = roomed_on (hears_at c.args.self.now) _ _ (roomed_seen _ _ _ is c.self.invariant.roomed)
          (λ z room since e. two_keep (hears_at c.args.self.now) _ x y _ _ (returns-clause-hears g c) c.requires.idle_x c.requires.idle_y z _ e);
      shown = shown_as _ _ _ _ _ _ _ c.set-2.ensures (shown_row _ _ _ _ _ _ y (Some (Pair x y c.self.inside.next)) _ one (length-set c.self.inside.heard.items _ _ ∙ long) in_y.0.0 in_y.0.1 none_y c.to_index-at_y.ensures);
      recent = forgotten _ _ _ _ _ _ _ _ _ _ _ _ c.self.invariant.recent c.forget.ensures.external c.forget.ensures.bridges c.forget.ensures.slots c.forget.ensures.latest c.connect_both-moves.ensures.depth;
    }
