use Rattle.std.proofs.Common.{Some, refl, ◌∙◌, ap, length-set}
use Rattle.circuit_model.specs.declared.circuit.Circuit.TheVariants.{Tone}
use Rattle.circuit_model.specs.Holding.{Give_tone}
use Rattle.circuit_map.specs.Connections.{Connections, hears_at, hears_after}
use Rattle.circuit_map.proofs.Rows.{hears_set, given_keeps}
use Rattle.circuit_map.proofs.OwnersRooms.{roomed_on}
use Rattle.circuit_map.proofs.Holdings.{holds_tone}
use Rattle.circuit_map.proofs.Seating.{port_of_idle_portless}
use Rattle.circuit_map.proofs.NextMemory.{shown_as, shown_row}
use Rattle.circuit_map.proofs.Recent.{forgotten}
use Rattle.circuit_map.proofs.Views.{idle_seen, heeded, obeyed, held_after, roomed_seen}
use Rattle.circuit_map.proofs.circuit_map.CircuitMap.tone.Goals as goal

pub returns-clause-hears : goal.returns-clause-hears
returns-clause-hears g c = λ z.
    let is = c.self.view_is in
    let x = c.args.x in
    let at = idle_seen _ _ x is c.requires.external c.requires.idle in
    hears_set c.self.inside.external c.self.inside.heard.items x (Some (Tone c.args.kind x c.self.inside.next)) _ z c.to_index-at.ensures c.self.invariant.listeners at.0.0 at.0.1
    ∙ ap (λ (m : Connections). hears_after m (Give_tone x c.args.kind) z) is

pub returns-clause-holds : goal.returns-clause-holds
returns-clause-holds g c =
    let is = c.self.view_is in
    let x = c.args.x in
    let at = idle_seen _ _ x is c.requires.external c.requires.idle in
    obeyed _ _ _ (Give_tone x c.args.kind) is (holds_tone _ _ x c.args.kind at.1 (heeded _ _ _ _ is refl refl refl (returns-clause-hears g c) (ap (λ (m : Connections). m.ports) is)) refl)

pub invariant_of-self : goal.invariant_of-self
invariant_of-self g c =
    let is = c.self.view_is in
    let x = c.args.x in
    let at = idle_seen _ _ x is c.requires.external c.requires.idle in
    let held = c.self.invariant.held in
    let none = port_of_idle_portless _ held.0 _ x held.1 at.1 in
    record {
      few = c.self.invariant.few;
      width = c.self.invariant.width;
      first = c.self.invariant.first;
      rows = c.self.invariant.rows;
      listeners = length-set c.self.inside.heard.items _ _ ∙ c.self.invariant.listeners;
      sockets = c.self.invariant.sockets;
      legal = c.self.invariant.legal;
      held = held_after _ _ _ (Give_tone x c.args.kind) is (returns-clause-holds g c) held;
      roomed = roomed_on (hears_at c.args.self.now) _ _ (roomed_seen _ _ _ is c.self.invariant.roomed)
          (λ z room since e. given_keeps (hears_at c.args.self.now) _ x (Some (Tone c.args.kind x c.args.self.now.next)) (returns-clause-hears g c) c.requires.idle z _ e);
      shown = shown_as _ _ _ _ _ _ _ c.set.ensures (shown_row _ _ _ _ _ _ x (Some (Tone c.args.kind x c.self.inside.next)) _ c.self.invariant.shown c.self.invariant.listeners at.0.0 at.0.1 none c.to_index-at.ensures);
      recent = forgotten _ _ _ _ _ _ _ _ _ _ _ _ c.self.invariant.recent c.forget.ensures.external c.forget.ensures.bridges c.forget.ensures.slots c.forget.ensures.latest refl;
    }
