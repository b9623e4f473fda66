use Rattle.std.proofs.Common.{rules, ◌≡◌, true, Some, sym, ap, ◌∙◌}
use Rattle.std.specs.Arc.{arc_value}
use Rattle.std.proofs.lemmas.Bool.{cond-true}
use Rattle.control_memory.specs.Image.{Control}
use Rattle.control_memory.specs.FrameTables.{Recent, control_of}
use Rattle.control_memory.proofs.recent_tables.RecentTables.show_into.Goals as goal

pub returns-clause-shown : goal.returns-clause-shown
returns-clause-shown c = λ _.
    let in_it = c.self.inside in
    let shown : Control = control_of 0 in_it.external in_it.bridges in_it.slots (arc_value in_it.latest) in
    let apply : in_it.apply ≡ true = search rules in
    let latest : c.args.self.now.latest ≡ Some shown = sym (ap (λ (r : Recent). r.latest) c.self.view_is) ∙ cond-true in_it.apply (Some shown) _ apply in
    (shown, latest, search rules)
