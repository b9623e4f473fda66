use Rattle.std.proofs.Common.{refl, sym, subst}
use Rattle.control_memory.specs.Layout.{Legal}
use Rattle.control_memory.specs.Paths.{Fabric}
use Rattle.path_memory.proofs.Added.{added_by}
use Rattle.path_memory.proofs.Kept.{can_of}
use Rattle.strict_map.proofs.NonBlocking.{never_full}
use Rattle.strict_map.proofs.strict.StrictMapPathMap.connect.Goals as goal

pub unreachable-requires : goal.unreachable-requires
unreachable-requires c =
    never_full c.self.inside.memory c.args.from c.args.to
    (record { slots = c.self.invariant; legal = subst (λ (m : Fabric). Legal m.lines m.slots m.layout) (c.in-None.ensures.unchanged refl) c.in-None.ensures.legal })
    (can_of c.self.inside.memory c.args.self.now c.self.view_is c.args.from c.args.to c.requires.from c.requires.to c.requires.inlet c.requires.outlet) (sym c.in-None.ensures.slot)

pub returns-clause-pairs : goal.returns-clause-pairs
returns-clause-pairs c =
    (added_by c.self.inside.memory c.args.self.now c.connect_in_common_slot.new.self c.self.view_is c.args.from c.args.to c.in-Some.field-0 c.requires.from c.requires.inlet
    c.in-Some.ensures.slot c.in-Some.ensures.connected c.in-Some.ensures.lines c.in-Some.ensures.legal.inlets).pairs

pub returns-clause-moves : goal.returns-clause-moves
returns-clause-moves c =
    sym (added_by c.self.inside.memory c.args.self.now c.connect_in_common_slot.new.self c.self.view_is c.args.from c.args.to c.in-Some.field-0 c.requires.from c.requires.inlet
    c.in-Some.ensures.slot c.in-Some.ensures.connected c.in-Some.ensures.lines c.in-Some.ensures.legal.inlets).none_moved
