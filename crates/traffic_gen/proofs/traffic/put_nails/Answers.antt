use Rattle.std.proofs.Common.{◌+◌, ◌-◌, ◌++◌, refl, arith, ap, sym, ◌∙◌}
use Rattle.std.specs.List.{flat_map, range_with_len}
use Rattle.traffic_gen.specs.Lines.{text}
use Rattle.traffic_gen.specs.Traffic.{nails, nails_at}
use Rattle.traffic_gen.proofs.Texts.{range_more, range_none, text_end, text_step}
use Rattle.traffic_gen.proofs.traffic.put_nails.Goals as goal

pub loop-place-init : goal.loop-place-init
unfolding nails
loop-place-init c = refl

pub loop-place-preserved : goal.loop-place-preserved
loop-place-preserved c =
    let place = c.loop-place.place in
    text_step _ _ (nails_at place) (flat_map nails_at (range_with_len (place + 1) (30 - (place + 1)))) c.in_ok-put_nails_at.ensures
    ∙ ap (λ places. c.loop-place.out.items ++ text (flat_map nails_at places)) (sym (range_more place (30 - place) (30 - (place + 1)) (omega (arith, c.loop-place-test.true))))
    ∙ c.loop-place.invariant

pub returns : goal.returns
returns c =
    let place = c.loop-place.place in
    sym (text_end _)
    ∙ sym (ap (λ places. c.loop-place.out.items ++ text (flat_map nails_at places)) (range_none place (30 - place) (omega (arith, c.loop-place-test.false))))
    ∙ c.loop-place.invariant
