use Rattle.std.proofs.Common.{ap, sym, subst}
use Rattle.control_memory.specs.Layout.{IsSlot, HasPath}
use Rattle.control_memory.specs.Paths.{Fabric}
use Rattle.control_memory.proofs.TablesAfter.{tabled_without}
use Rattle.control_memory.proofs.path_table.PathTable.remove.Goals as goal

pub invariant_of-self : goal.invariant_of-self
invariant_of-self c =
    let from = c.args.from in
    let hop = c.args.route in
    let lines = ap (λ (f : Fabric). f.lines) (sym c.self.view_is) in
    let layout = ap (λ (f : Fabric). f.layout) (sym c.self.view_is) in
    rw c.to_index.ensures
    (tabled_without _ _ _ from hop.to hop.slot _ _ _ c.unset.new.self c.unset-2.new.self c.unset-3.new.self c.self.invariant (subst (λ n. IsSlot n from) lines c.requires.from) (subst (λ l. HasPath l from hop.to hop.slot) layout c.requires.stands)
    c.unset.ensures.size c.unset-2.ensures.size c.unset-3.ensures.size c.unset.ensures.entries c.unset-2.ensures.entries c.unset-3.ensures.entries)

pub returns-clause-legal : goal.returns-clause-legal
returns-clause-legal c = (invariant_of-self c).legal
