use Rattle.std.proofs.Common.{◌<◌, ap, sym, subst}
use Rattle.control_memory.specs.Layout.{IsSlot}
use Rattle.control_memory.specs.Connecting.{IsFree}
use Rattle.control_memory.specs.Paths.{Fabric}
use Rattle.control_memory.proofs.TablesAfter.{tabled_with}
use Rattle.control_memory.proofs.path_table.PathTable.insert.Goals as goal

pub invariant_of-self : goal.invariant_of-self
invariant_of-self c =
    let from = c.args.from in
    let to = c.args.to in
    let lines = ap (λ (f : Fabric). f.lines) (sym c.self.view_is) in
    let slots = ap (λ (f : Fabric). f.slots) (sym c.self.view_is) in
    let layout = ap (λ (f : Fabric). f.layout) (sym c.self.view_is) in
    let inside = subst (λ n. IsSlot n from) lines c.requires.from in
    let free = subst (λ l. IsFree c.self.inside.lines l from to c.args.slot) layout (subst (λ n. IsFree n c.args.self.now.layout from to c.args.slot) lines c.requires.free) in
    rw c.to_index.ensures
    (tabled_with _ _ _ from to c.args.slot _ _ _ c.set.new.self c.set-2.new.self c.set-3.new.self c.self.invariant inside (subst (λ n. IsSlot n to) lines c.requires.to) (subst (λ n. c.args.slot < n) slots c.requires.slot) free
    c.set.ensures.size c.set-2.ensures.size c.set-3.ensures.size c.set.ensures.entries c.set-2.ensures.entries c.set-3.ensures.entries)

pub returns-clause-legal : goal.returns-clause-legal
returns-clause-legal c = (invariant_of-self c).legal
