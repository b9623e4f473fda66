use Rattle.std.proofs.Common.{◌≡◌, ◌⊎◌, ◌∙◌, sym, ap, subst, length}
use Rattle.circuit_model.specs.declared.channel.Slot.{Slot}
use Rattle.control_memory.specs.Layout.{IsSlot, Joins}
use Rattle.control_memory.specs.Connecting.{with_path, connect, moved, IsFree}
use Rattle.rearrange_chain.specs.Chain.{moves_for}
use Rattle.control_memory.specs.Paths.{Fabric}
use Rattle.fabric_map.specs.Rearranging.{AreTaken, taken_by}
use Rattle.path_memory.proofs.Added.{pairs_after}
use Rattle.path_memory.proofs.Kept.{can_of, IsPathMemory-with_path}
use Rattle.fabric_map.proofs.Connected.{has_row_room, has_column_room, Made_connected, is_readied, can_lay_is}
use Rattle.fabric_map.proofs.fabric.connect_by_moves.Goals as goal

pub make_room-freed-requires-clause-row_room : goal.make_room-freed-requires-clause-row_room
make_room-freed-requires-clause-row_room g c =
    has_row_room c.memory.inside.matrix c.memory.inside.paths c.args.from c.args.to c.memory.invariant (ap (λ (x : Fabric). x.slots) c.memory.view_is ∙ c.requires.thirty) (can_of c.memory.inside.paths c.args.memory.now c.memory.view_is c.args.from c.args.to c.requires.from c.requires.to c.requires.inlet c.requires.outlet)

pub make_room-freed-requires-clause-column_room : goal.make_room-freed-requires-clause-column_room
make_room-freed-requires-clause-column_room g c =
    has_column_room c.memory.inside.matrix c.memory.inside.paths c.args.from c.args.to c.memory.invariant (ap (λ (x : Fabric). x.slots) c.memory.view_is ∙ c.requires.thirty) (can_of c.memory.inside.paths c.args.memory.now c.memory.view_is c.args.from c.args.to c.requires.from c.requires.to c.requires.inlet c.requires.outlet)

pub lift_all-requires-clause-taken : goal.lift_all-requires-clause-taken
lift_all-requires-clause-taken g c =
    let can = can_of c.memory.inside.paths c.args.memory.now c.memory.view_is c.args.from c.args.to c.requires.from c.requires.to c.requires.inlet c.requires.outlet in
    let made = Made_connected c.memory.inside.matrix c.memory.inside.paths c.args.from c.args.to c.memory.invariant (ap (λ (x : Fabric). x.slots) c.memory.view_is ∙ c.requires.thirty) can in
    let moves = c.deref.ensures.0 ∙ c.make_room-freed.ensures.moves in
    subst (λ v. AreTaken c.memory.inside.paths.layout v (taken_by c.memory.inside.paths.layout v)) (sym moves) made.taken

pub lay_all-requires-clause-same : goal.lay_all-requires-clause-same
lay_all-requires-clause-same g c =
    let can = can_of c.memory.inside.paths c.args.memory.now c.memory.view_is c.args.from c.args.to c.requires.from c.requires.to c.requires.inlet c.requires.outlet in
    let made = Made_connected c.memory.inside.matrix c.memory.inside.paths c.args.from c.args.to c.memory.invariant (ap (λ (x : Fabric). x.slots) c.memory.view_is ∙ c.requires.thirty) can in
    let first = c.deref.ensures.0 ∙ c.make_room-freed.ensures.moves in
    let second = c.deref-2.ensures.0 ∙ c.make_room-freed.ensures.moves in
    ap length (c.deref-3.ensures.0 ∙ c.lift_all.ensures.lifted ∙ ap (taken_by c.memory.inside.paths.layout) first) ∙ made.same ∙ sym (ap length second)

pub lay_all-requires-clause-room : goal.lay_all-requires-clause-room
lay_all-requires-clause-room g c =
    let can = can_of c.memory.inside.paths c.args.memory.now c.memory.view_is c.args.from c.args.to c.requires.from c.requires.to c.requires.inlet c.requires.outlet in
    let made = Made_connected c.memory.inside.matrix c.memory.inside.paths c.args.from c.args.to c.memory.invariant (ap (λ (x : Fabric). x.slots) c.memory.view_is ∙ c.requires.thirty) can in
    let first = c.deref.ensures.0 ∙ c.make_room-freed.ensures.moves in
    let second = c.deref-2.ensures.0 ∙ c.make_room-freed.ensures.moves in
    can_lay_is _ _ _ _ c.memory.inside.paths.layout _ (moves_for c.memory.inside.matrix c.args.from.line c.args.to.line) c.deref.result.now c.deref-2.result.now c.deref-3.result.now
    c.lift_all.ensures.lines c.lift_all.ensures.slots first second (c.deref-3.ensures.0 ∙ c.lift_all.ensures.lifted) c.lift_all.ensures.layout made.room

pub insert-requires-clause-free : goal.insert-requires-clause-free
insert-requires-clause-free g c =
    let ready = is_readied _ _ _ c.args.from c.args.to _ _ _ _ _ _ _ _ c.memory.view_is c.memory.invariant c.requires.thirty c.requires.from c.requires.to c.requires.inlet c.requires.outlet
    c.make_room-freed.ensures.exchanged c.make_room-freed.ensures.moves c.deref.ensures.0 c.deref-2.ensures.0 (c.deref-3.ensures.0 ∙ c.lift_all.ensures.lifted) c.lift_all.ensures.layout c.lay_all.ensures.layout
    c.make_room-freed.ensures.row_free c.make_room-freed.ensures.column_free in
    let lines : c.lay_all.new.paths.lines ≡ c.memory.inside.paths.lines = c.lay_all.ensures.lines ∙ c.lift_all.ensures.lines in
    subst (λ n. IsFree n c.lay_all.new.paths.layout c.args.from c.args.to c.make_room-freed.result) (sym lines)
    (subst (λ l. IsFree c.memory.inside.paths.lines l c.args.from c.args.to c.make_room-freed.result) (sym ready.layout_is) ready.free)

pub invariant_of-memory : goal.invariant_of-memory
invariant_of-memory g c =
    let f = c.memory.inside.paths in
    let from = c.args.from in
    let to = c.args.to in
    let slot = c.make_room-freed.result in
    let ready = is_readied _ _ _ c.args.from c.args.to _ _ _ _ _ _ _ _ c.memory.view_is c.memory.invariant c.requires.thirty c.requires.from c.requires.to c.requires.inlet c.requires.outlet
    c.make_room-freed.ensures.exchanged c.make_room-freed.ensures.moves c.deref.ensures.0 c.deref-2.ensures.0 (c.deref-3.ensures.0 ∙ c.lift_all.ensures.lifted) c.lift_all.ensures.layout c.lay_all.ensures.layout
    c.make_room-freed.ensures.row_free c.make_room-freed.ensures.column_free in
    let lines : c.lay_all.new.paths.lines ≡ f.lines = c.lay_all.ensures.lines ∙ c.lift_all.ensures.lines in
    let slots : c.lay_all.new.paths.slots ≡ f.slots = c.lay_all.ensures.slots ∙ c.lift_all.ensures.slots in
    IsPathMemory-with_path f.lines f.slots c.make_room-freed.new.matrix _ from to slot c.place.new.self c.insert.new.self (c.make_room-freed.ensures.sizes.0 ∙ c.memory.invariant.lines) (c.make_room-freed.ensures.sizes.1 ∙ c.memory.invariant.slots)
    ready.beside ready.can.from_inside ready.can.to_inside c.make_room-freed.ensures.within ready.free c.place.ensures.placed c.place.ensures.legal
    (c.insert.ensures.layout ∙ ap (λ l. with_path l from to slot) ready.layout_is) (c.insert.ensures.lines ∙ lines) (c.insert.ensures.slots ∙ slots)

pub returns-clause-layout : goal.returns-clause-layout
returns-clause-layout g c =
    let from = c.args.from in
    let to = c.args.to in
    let ready = is_readied _ _ _ c.args.from c.args.to _ _ _ _ _ _ _ _ c.memory.view_is c.memory.invariant c.requires.thirty c.requires.from c.requires.to c.requires.inlet c.requires.outlet
    c.make_room-freed.ensures.exchanged c.make_room-freed.ensures.moves c.deref.ensures.0 c.deref-2.ensures.0 (c.deref-3.ensures.0 ∙ c.lift_all.ensures.lifted) c.lift_all.ensures.layout c.lay_all.ensures.layout
    c.make_room-freed.ensures.row_free c.make_room-freed.ensures.column_free in
    c.insert.ensures.layout ∙ ap (λ l. with_path l from to c.make_room-freed.result) ready.layout_is ∙ ap (with_path _ from to) c.make_room-freed.ensures.slot ∙ ready.made.joined
    ∙ ap (λ (x : Fabric). connect x.lines x.slots x.layout from to) c.memory.view_is

pub returns-clause-pairs : goal.returns-clause-pairs
returns-clause-pairs g c =
    let f = c.memory.inside.paths in
    let from = c.args.from in
    let to = c.args.to in
    let slot = c.make_room-freed.result in
    let ready = is_readied _ _ _ c.args.from c.args.to _ _ _ _ _ _ _ _ c.memory.view_is c.memory.invariant c.requires.thirty c.requires.from c.requires.to c.requires.inlet c.requires.outlet
    c.make_room-freed.ensures.exchanged c.make_room-freed.ensures.moves c.deref.ensures.0 c.deref-2.ensures.0 (c.deref-3.ensures.0 ∙ c.lift_all.ensures.lifted) c.lift_all.ensures.layout c.lay_all.ensures.layout
    c.make_room-freed.ensures.row_free c.make_room-freed.ensures.column_free in
    let new = c.insert.ensures.layout ∙ ap (λ l. with_path l from to slot) ready.layout_is in
    let all : (x y : Slot) → IsSlot f.lines x → (Joins c.insert.new.self.layout x y → Joins f.layout x y ⊎ ((x ≡ from) × (y ≡ to))) × (Joins f.layout x y ⊎ ((x ≡ from) × (y ≡ to)) → Joins c.insert.new.self.layout x y) =
    λ x y in_x. subst (λ l. (Joins l x y → Joins f.layout x y ⊎ ((x ≡ from) × (y ≡ to))) × (Joins f.layout x y ⊎ ((x ≡ from) × (y ≡ to)) → Joins l x y)) (sym new)
    (pairs_after f.lines f.layout _ from to slot ready.beside.legal.inlets ready.can.from_inside ready.free.inlet ready.made.joins x y in_x) in
    subst (λ (now : Fabric). (x y : Slot) → IsSlot now.lines x → (Joins c.insert.new.self.layout x y → Joins now.layout x y ⊎ ((x ≡ from) × (y ≡ to))) × (Joins now.layout x y ⊎ ((x ≡ from) × (y ≡ to)) → Joins c.insert.new.self.layout x y)) c.memory.view_is all

pub returns-clause-moves : goal.returns-clause-moves
returns-clause-moves g c =
    let from = c.args.from in
    let to = c.args.to in
    let ready = is_readied _ _ _ c.args.from c.args.to _ _ _ _ _ _ _ _ c.memory.view_is c.memory.invariant c.requires.thirty c.requires.from c.requires.to c.requires.inlet c.requires.outlet
    c.make_room-freed.ensures.exchanged c.make_room-freed.ensures.moves c.deref.ensures.0 c.deref-2.ensures.0 (c.deref-3.ensures.0 ∙ c.lift_all.ensures.lifted) c.lift_all.ensures.layout c.lay_all.ensures.layout
    c.make_room-freed.ensures.row_free c.make_room-freed.ensures.column_free in
    c.len.ensures.value ∙ ap length c.make_room-freed.ensures.moves ∙ sym ready.made.count
    ∙ ap (moved c.memory.inside.paths.layout) (sym (c.insert.ensures.layout ∙ ap (λ l. with_path l from to c.make_room-freed.result) ready.layout_is ∙ ap (with_path _ from to) c.make_room-freed.ensures.slot))
    ∙ ap (λ (x : Fabric). moved x.layout c.insert.new.self.layout) c.memory.view_is
