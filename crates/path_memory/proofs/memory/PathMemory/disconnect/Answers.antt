use Rattle.std.proofs.Common.{◌≡◌, ◌∙◌, sym, subst, Some}
use Rattle.control_memory.specs.Layout.{IsSlot, Joins, hop_of}
use Rattle.control_memory.specs.Paths.{Fabric}
use Rattle.path_memory.proofs.Kept.{lifts_entry, IsPathMemory-without_path}
use Rattle.path_memory.proofs.memory.PathMemory.disconnect.Goals as goal

pub lift-requires : goal.lift-requires
lift-requires c =
    let inside = subst (λ (x : Fabric). IsSlot x.lines c.args.from) (sym c.self.view_is) c.requires.from in
    let joined = subst (λ (x : Fabric). Joins x.layout c.args.from c.args.to) (sym c.self.view_is) c.requires.stands in
    let at : hop_of c.self.inside.paths.layout c.args.from ≡ Some c.in-Some.hop = sym c.get.ensures.hop ∙ c.in-Some.is in
    record { stands = (lifts_entry c.self.inside.matrix c.self.inside.paths c.args.from c.args.to c.in-Some.hop c.self.invariant inside joined at).1 }

pub invariant_of-self : goal.invariant_of-self
invariant_of-self c =
    let inside = subst (λ (x : Fabric). IsSlot x.lines c.args.from) (sym c.self.view_is) c.requires.from in
    let at : hop_of c.self.inside.paths.layout c.args.from ≡ Some c.in-Some.hop = sym c.get.ensures.hop ∙ c.in-Some.is in
    IsPathMemory-without_path c.self.inside.matrix c.self.inside.paths c.args.from c.in-Some.hop c.lift.new.self c.remove.new.self c.self.invariant inside at c.lift.ensures.lifted c.remove.ensures.layout c.remove.ensures.lines c.remove.ensures.slots
