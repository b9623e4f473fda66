use Rattle.std.proofs.Common.{◌≡◌, sym, ◌∙◌, rules, tests, Some, None, ◌+◌}
use Rattle.std.specs.Prelude.{position}
use Rattle.std.proofs.lemmas.List.{take_rest}
use Rattle.std.proofs.lemmas.Iterator.{YieldsList-from_slice}
use Rattle.std.proofs.lemmas.Iterator.Search.{position_from_yields_List}
use Rattle.trace_text.specs.TraceWords.{is_octet}
use Rattle.trace_text.proofs.TraceCuts.{cut_from}
use Rattle.trace_text.proofs.cut.halves_at.Goals as goal

pub returns-in_err-at : goal.returns-in_err-at
returns-in_err-at c =
    let found : c.position.result ≡ position (is_octet c.args.mark) c.args.word.now =
    position_from_yields_List (is_octet c.args.mark) _ _ c.position.result c.position.ensures.ran (YieldsList-from_slice c.args.word.now cc) (λ x b q k. search (rules, tests)) in
    rw c.from_residual.ensures (cut_from c.args.mark c.args.word.now None (sym c.in_err-at.was ∙ found))

pub returns : goal.returns
returns c =
    let found : c.position.result ≡ position (is_octet c.args.mark) c.args.word.now =
    position_from_yields_List (is_octet c.args.mark) _ _ c.position.result c.position.ensures.ran (YieldsList-from_slice c.args.word.now cc) (λ x b q k. search (rules, tests)) in
    rw (take_rest c.args.word.now (c.in_ok-at.at + 1)) (cut_from c.args.mark c.args.word.now (Some c.in_ok-at.at) (sym c.in_ok-at.was ∙ found))
