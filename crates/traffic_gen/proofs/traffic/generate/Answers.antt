use Rattle.std.proofs.Common.{[], ◌∷◌, ◌++◌, ap, ◌∙◌}
use Rattle.traffic_gen.specs.Calls.{calls_drawn, segment}
use Rattle.traffic_gen.specs.Lines.{Sync, text}
use Rattle.traffic_gen.specs.Traffic.{header, nails, traffic, traffic_lines}
use Rattle.traffic_gen.proofs.Texts.{text_on}
use Rattle.traffic_gen.proofs.traffic.generate.Goals as goal

pub returns : goal.returns
unfolding traffic traffic_lines
returns c =
    let headed = c.in_ok-put_header.ensures ∙ ap (λ out. out ++ text header) c.in_ok-out.ensures.items in
    let nailed = text_on _ _ _ nails (Sync ∷ []) c.in_ok-put_nails.ensures c.in_ok-put_sync.ensures in
    text_on [] _ _ (header ++ segment nails) (calls_drawn c.args.calls c.args.seed) (text_on [] _ _ header (segment nails) headed nailed) c.in_ok-put_calls.ensures
