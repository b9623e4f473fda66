use Rattle.std.proofs.Common.{◌+◌, ◌-◌, [], ◌∷◌, ◌++◌, map, refl, arith, ap, sym, ◌∙◌}
use Rattle.std.specs.List.{range_with_len}
use Rattle.traffic_gen.specs.Lines.{text}
use Rattle.traffic_gen.specs.Traffic.{nail_line, nails_at}
use Rattle.traffic_gen.proofs.Texts.{range_more, range_none, text_end, text_step}
use Rattle.traffic_gen.proofs.traffic.put_nails_at.Goals as goal

pub loop-line-init : goal.loop-line-init
unfolding nails_at
loop-line-init c = refl

pub loop-line-preserved : goal.loop-line-preserved
loop-line-preserved c =
    let line = c.loop-line.line in
    let nail = nail_line c.args.place in
    text_step _ _ (nail line ∷ []) (map nail (range_with_len (line + 1) (4 - (line + 1)))) c.in_ok-put_nail.ensures
    ∙ ap (λ lines. c.loop-line.out.items ++ text (map nail lines)) (sym (range_more line (4 - line) (4 - (line + 1)) (omega (arith, c.loop-line-test.true))))
    ∙ c.loop-line.invariant

pub returns : goal.returns
returns c =
    let line = c.loop-line.line in
    sym (text_end _)
    ∙ sym (ap (λ lines. c.loop-line.out.items ++ text (map (nail_line c.args.place) lines)) (range_none line (4 - line) (omega (arith, c.loop-line-test.false))))
    ∙ c.loop-line.invariant
