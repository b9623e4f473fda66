use Rattle.std.proofs.Common.{rules, ◌≡◌, ◌*◌, replicate, None, sym, subst}
use Rattle.control_memory.specs.Layout.{Layout}
use Rattle.control_memory.specs.Paths.{IsTabled}
use Rattle.control_memory.proofs.TablesAfter.{tabled_bare}
use Rattle.control_memory.proofs.path_table.PathTable.new.Goals as goal

pub invariant_of-result : goal.invariant_of-result
invariant_of-result c =
    let hops : c.in_ok-hops.hops.items ≡ replicate (30 * c.args.lines) None = search rules in
    subst (λ (l : Layout). IsTabled c.args.lines c.args.slots l c.in_ok-incoming.incoming c.in_ok-incoming.space c.in_ok-incoming.outgoing) (sym hops)
    (tabled_bare c.args.lines c.args.slots _ _ _ c.requires.lines c.in_ok-incoming.ensures)

pub returns-clause-legal : goal.returns-clause-legal
returns-clause-legal c = (invariant_of-result c).legal
