use Rattle.std.proofs.Common.{rules, ◌≡◌, ℕ, ◌∙◌, Some, None, ap}
use Rattle.circuit_model.specs.declared.channel.Slot.{Slot}
use Rattle.control_memory.specs.Layout.{IsSlot, hop_of, path_to}
use Rattle.control_memory.specs.Connecting.{common_slot}
use Rattle.control_memory.specs.Paths.{Fabric}
use Rattle.paull_matrix.specs.Matrix.{Matrix, lowest_in_both}
use Rattle.path_memory.specs.Memory.{IsPathMemory}
use Rattle.path_memory.proofs.Kept.{InCommon, in_common, lowest_in_both_common_of, can_of, beside_of, IsPathMemory-with_path}
use Rattle.path_memory.proofs.memory.PathMemory.connect_in_common_slot.Goals as goal

-- what holds where a slot is free in both lines, from what the call asks
found : (m : Matrix) (f now : Fabric) → f ≡ now → (from to : Slot) (slot : ℕ) → IsPathMemory m f → IsSlot now.lines from → IsSlot now.lines to → hop_of now.layout from ≡ None → path_to now.layout to ≡ None → Some slot ≡ lowest_in_both m from.line to.line → InCommon m f from to slot
found m f now is from to slot kept a b i o lowest = in_common m f from to slot kept (can_of f now is from to a b i o) lowest

-- the look at the matrix, as one at the layout
looked : (m : Matrix) (f now : Fabric) → f ≡ now → (from to : Slot) → IsPathMemory m f → lowest_in_both m from.line to.line ≡ common_slot now.slots now.layout from.line to.line
looked m f now is from to kept = lowest_in_both_common_of m f from to kept ∙ ap (λ (x : Fabric). common_slot x.slots x.layout from.line to.line) is

pub returns-in_err-slot-clause-slot : goal.returns-in_err-slot-clause-slot
returns-in_err-slot-clause-slot c =
    let look = looked c.self.inside.matrix c.self.inside.paths c.args.self.now c.self.view_is c.args.from c.args.to c.self.invariant in
    search (rules, look)

pub place-requires-clause-slot : goal.place-requires-clause-slot
place-requires-clause-slot c = (found c.self.inside.matrix c.self.inside.paths c.args.self.now c.self.view_is c.args.from c.args.to c.in_ok-slot.slot c.self.invariant c.requires.from c.requires.to c.requires.inlet c.requires.outlet c.in_ok-slot.ensures.lowest).below

pub place-requires-clause-missing_in_row : goal.place-requires-clause-missing_in_row
place-requires-clause-missing_in_row c = (found c.self.inside.matrix c.self.inside.paths c.args.self.now c.self.view_is c.args.from c.args.to c.in_ok-slot.slot c.self.invariant c.requires.from c.requires.to c.requires.inlet c.requires.outlet c.in_ok-slot.ensures.lowest).row

pub place-requires-clause-missing_in_column : goal.place-requires-clause-missing_in_column
place-requires-clause-missing_in_column c = (found c.self.inside.matrix c.self.inside.paths c.args.self.now c.self.view_is c.args.from c.args.to c.in_ok-slot.slot c.self.invariant c.requires.from c.requires.to c.requires.inlet c.requires.outlet c.in_ok-slot.ensures.lowest).column

pub insert-requires-clause-slot : goal.insert-requires-clause-slot
insert-requires-clause-slot c = (found c.self.inside.matrix c.self.inside.paths c.args.self.now c.self.view_is c.args.from c.args.to c.in_ok-slot.slot c.self.invariant c.requires.from c.requires.to c.requires.inlet c.requires.outlet c.in_ok-slot.ensures.lowest).within

pub insert-requires-clause-free : goal.insert-requires-clause-free
insert-requires-clause-free c = (found c.self.inside.matrix c.self.inside.paths c.args.self.now c.self.view_is c.args.from c.args.to c.in_ok-slot.slot c.self.invariant c.requires.from c.requires.to c.requires.inlet c.requires.outlet c.in_ok-slot.ensures.lowest).free

pub invariant_of-self : goal.invariant_of-self
invariant_of-self c =
    let m = c.self.inside.matrix in
    let f = c.self.inside.paths in
    let can = can_of f c.args.self.now c.self.view_is c.args.from c.args.to c.requires.from c.requires.to c.requires.inlet c.requires.outlet in
    let common = in_common m f c.args.from c.args.to c.in_ok-slot.slot c.self.invariant can c.in_ok-slot.ensures.lowest in
    IsPathMemory-with_path f.lines f.slots m f.layout c.args.from c.args.to c.in_ok-slot.slot c.place.new.self c.insert.new.self c.self.invariant.lines c.self.invariant.slots (beside_of m f c.self.invariant) can.from_inside can.to_inside common.below common.free
    c.place.ensures.placed c.place.ensures.legal c.insert.ensures.layout c.insert.ensures.lines c.insert.ensures.slots

pub returns-clause-slot : goal.returns-clause-slot
returns-clause-slot c = c.in_ok-slot.ensures.lowest ∙ looked c.self.inside.matrix c.self.inside.paths c.args.self.now c.self.view_is c.args.from c.args.to c.self.invariant
