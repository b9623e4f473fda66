use Rattle.std.proofs.Common.{◌+◌, ◌-◌, [], ◌∷◌, ◌++◌, map, arith, ap, sym, ◌∙◌}
use Rattle.std.specs.List.{range_with_len}
use Rattle.traffic_gen.specs.Lines.{Header, text}
use Rattle.traffic_gen.specs.Traffic.{header, number_line, room_line}
use Rattle.traffic_gen.proofs.Texts.{range_more, range_none, text_last, text_step}
use Rattle.traffic_gen.proofs.traffic.put_header.Goals as goal

pub loop-line-init : goal.loop-line-init
unfolding header
loop-line-init c = text_step _ _ (Header 8 1 4 ∷ []) (map number_line (range_with_len 0 8) ++ room_line ∷ []) c.in_ok-put_sizes.ensures

pub loop-line-preserved : goal.loop-line-preserved
loop-line-preserved c =
    let line = c.loop-line.line in
    let rest = map number_line (range_with_len (line + 1) (8 - (line + 1))) ++ room_line ∷ [] in
    text_step _ _ (number_line line ∷ []) rest c.in_ok-put_number_line.ensures
    ∙ ap (λ numbers. c.loop-line.out.items ++ text (map number_line numbers ++ room_line ∷ [])) (sym (range_more line (8 - line) (8 - (line + 1)) (omega (arith, c.loop-line-test.true))))
    ∙ c.loop-line.invariant

pub returns : goal.returns
returns c =
    let line = c.loop-line.line in
    text_last _ _ _ _ (room_line ∷ []) c.put_room_line.ensures
    (sym (ap (λ numbers. c.loop-line.out.items ++ text (map number_line numbers ++ room_line ∷ [])) (range_none line (8 - line) (omega (arith, c.loop-line-test.false)))) ∙ c.loop-line.invariant)
