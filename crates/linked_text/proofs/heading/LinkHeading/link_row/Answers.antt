use Rattle.std.proofs.Common.{rules, ◌≡◌, ◌++◌, ◌∷◌, [], ap, sym, ◌∙◌, arith}
use Rattle.std.proofs.lemmas.List.FromFn.{map-range_with_len_more}
use Rattle.number_plan.specs.Plan.{is_listed}
use Rattle.linked_text.specs.LinkLines.{LinkSoFar}
use Rattle.linked_text.proofs.heading.LinkHeading.link_row.Goals as goal

pub loop-line-preserved : goal.loop-line-preserved
loop-line-preserved c =
    let line = c.loop-line.line in
    let pushed : c.push.new.self.items ≡ c.loop-line.row.items ++ c.contains.result ∷ [] = search rules in
    let here = c.contains.ensures ∙ ap (λ (k : LinkSoFar). is_listed line k.linked) c.self.view_is in
    pushed ∙ ((λ i. c.loop-line.invariant i ++ here i ∷ []) ∙ sym (map-range_with_len_more (λ n. is_listed n c.args.self.now.linked) 0 line line (omega arith)))
