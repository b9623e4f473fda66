use Rattle.std.proofs.Common.{◌≡◌, map}
use Rattle.std.specs.List.{range_with_len}
use Rattle.number_plan.specs.Plan.{is_listed}
use Rattle.linked_text.proofs.heading.LinkHeading.link_row.Given as goal

abbrev pub invariant-loop-line : goal.invariant-loop-line
invariant-loop-line l = l.row.items ≡ map (λ line. is_listed line l.self.linked) (range_with_len 0 l.line)
