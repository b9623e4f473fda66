use Rattle.link_table.proofs.TableLemmas.{new_is_table}
use Rattle.link_table.proofs.table.LinkTable.new.Goals as goal

pub invariant_of-result : goal.invariant_of-result
invariant_of-result c = new_is_table c.args.linked.now c.args.at _ _ _ c.in_ok-new_links.ensures c.new.ensures c.new-2.ensures
