use Rattle.std.proofs.Common.{◌≡◌, map, take}
use Rattle.link_table.specs.Tables as spec
use Rattle.link_table.proofs.table.new_links.Given as goal

abbrev pub invariant-loop-has_one : goal.invariant-loop-has_one
invariant-loop-has_one l = l.links.items ≡ map (spec.new_link l.at) (take l.has_one-index l.linked)
