use Rattle.std.proofs.Common.{◌≡◌, ◌⊎◌, ◌∙◌, refl, sym, subst}
use Rattle.circuit_model.specs.declared.channel.Slot.{Slot}
use Rattle.control_memory.specs.Layout.{IsSlot, Joins}
use Rattle.control_memory.specs.Paths.{Fabric}
use Rattle.path_memory.proofs.Added.{added_by}
use Rattle.fabric_map.proofs.fabric.FabricMapPathMap.connect.Goals as goal

pub returns-in-Some-clause-pairs : goal.returns-in-Some-clause-pairs
returns-in-Some-clause-pairs c =
    (added_by c.self.inside.memory c.args.self.now c.connect_in_common_slot.new.self c.self.view_is c.args.from c.args.to c.in-Some.field-0 c.requires.from c.requires.inlet
    c.in-Some.ensures.slot c.in-Some.ensures.connected c.in-Some.ensures.lines c.in-Some.ensures.legal.inlets).pairs

pub returns-in-Some-clause-moves : goal.returns-in-Some-clause-moves
returns-in-Some-clause-moves c =
    sym (added_by c.self.inside.memory c.args.self.now c.connect_in_common_slot.new.self c.self.view_is c.args.from c.args.to c.in-Some.field-0 c.requires.from c.requires.inlet
    c.in-Some.ensures.slot c.in-Some.ensures.connected c.in-Some.ensures.lines c.in-Some.ensures.legal.inlets).none_moved

pub returns-in-None-clause-pairs : goal.returns-in-None-clause-pairs
returns-in-None-clause-pairs c =
    let from = c.args.from in
    let to = c.args.to in
    let after = c.connect_by_moves.new.memory.layout in
    subst (λ (m : Fabric). (x y : Slot) → IsSlot m.lines x → (Joins after x y → Joins m.layout x y ⊎ ((x ≡ from) × (y ≡ to))) × (Joins m.layout x y ⊎ ((x ≡ from) × (y ≡ to)) → Joins after x y))
    (c.in-None.ensures.unchanged refl ∙ c.self.view_is) c.connect_by_moves.ensures.pairs
