use Rattle.std.proofs.Common.{ℕ, ◌+◌, ◌<◌, List, Option, sym, ◌∙◌, ap, subst}
use Rattle.circuit_model.specs.Holding.{Frame}
use Rattle.control_memory.specs.Layout.{Legal}
use Rattle.control_memory.specs.Image.{HasLayout, port_entry}
use Rattle.control_memory.specs.Shown.{heard_as}
use Rattle.control_memory.specs.declared.heard.Heard.TheVariants.{Silent}
use Rattle.circuit_map.specs.Connections.{AreLatest, Connections, map_lines, served_in, room_in, entry_at}
use Rattle.circuit_map.proofs.Holdings.{holds_frame}
use Rattle.circuit_map.proofs.Showing.{shows}
use Rattle.circuit_map.proofs.Views.{held_after}
use Rattle.circuit_map.proofs.circuit_map.CircuitMap.boundary.Goals as goal

pub returns-clause-holds : goal.returns-clause-holds
returns-clause-holds g c = λ h ports holds.
    let is = c.self.view_is in
    holds_frame c.args.self.now _
    (record {
      external = ap (λ (m : Connections). m.external) is;
      bridges = ap (λ (m : Connections). m.bridges) is;
      next = ap (λ (m : Connections). m.next + 1) is;
      heard = ap (λ (m : Connections). m.heard) is;
      members = ap (λ (m : Connections). m.ports) is;
      layout = ap (λ (m : Connections). m.layout) is;
    }) h ports holds

pub invariant_of-self : goal.invariant_of-self
invariant_of-self g c = record {
  few = c.self.invariant.few;
  width = c.self.invariant.width;
  first = c.self.invariant.first;
  rows = c.self.invariant.rows;
  listeners = c.self.invariant.listeners;
  sockets = c.self.invariant.sockets;
  legal = c.self.invariant.legal;
  held = held_after _ _ _ Frame c.self.view_is (returns-clause-holds g c) c.self.invariant.held;
  roomed = c.self.invariant.roomed;
  shown = c.self.invariant.shown;
  recent =
      let a = c.write_memory.ensures in
      let recent = c.self.invariant.recent in
      record {
        external = a.external ∙ recent.external;
        bridges = a.bridges ∙ recent.bridges;
        slots = a.depth ∙ recent.slots;
        latest = subst (λ (s : List (Option (ℕ × ℕ))). AreLatest (g.P.PathMap.layout c.self.inside.paths) c.self.inside.hearing s c.write_memory.new.recent) c.deref.ensures.value a.latest;
      };
}

pub returns-clause-shows : goal.returns-clause-shows
returns-clause-shows g c = λ h ports holds.
    let is = c.self.view_is in
    let a = c.write_memory.ensures in
    let width = c.self.invariant.width ∙ ap map_lines is in
    let lines = ap map_lines is in
    let shown = c.self.invariant.shown in
    let external = a.sizes.external ∙ c.requires.external ∙ sym (ap (λ (m : Connections). m.external) is) in
    shows c.args.self.now c.write_memory.new.image h ports
    (record {
      frame = a.frame ∙ ap (λ (m : Connections). m.next) is;
      external = a.sizes.external ∙ c.requires.external;
      bridges = a.sizes.bridges ∙ c.requires.bridges;
      slots = a.sizes.slots ∙ c.requires.slots;
      legal = subst (λ w. Legal w c.args.self.now.slots c.args.self.now.layout) width (subst (λ (m : Connections). Legal (g.P.PathMap.width c.self.inside.paths) m.slots m.layout) is c.self.invariant.legal);
      tables = subst (λ l. HasLayout c.write_memory.new.image l) (ap (λ (m : Connections). m.layout) is) a.tables;
      heard = λ at line place. ap (λ l. entry_at Silent l at) a.heard ∙ shown.hears at (subst (λ w. at.line < w) (sym lines) line) place ∙ ap (λ (m : Connections). heard_as (served_in m.external m.heard m.ports at)) is;
      rooms = λ at line place. (λ i. port_entry (external i) ((a.rooms ∙ c.deref.ensures.value) i) at) ∙ shown.sits at (subst (λ w. at.line < w) (sym lines) line) place ∙ ap (λ (m : Connections). room_in m.external m.heard m.ports at) is;
    }) holds
