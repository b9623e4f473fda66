use Rattle.std.proofs.Common.{◌≡◌, ◌-◌, ◌∙◌, List, ℕ, true, Some, length, get_or, take, drop, ap, sym, arith}
use Rattle.std.proofs.lemmas.Result.{IfOk-weaker}
use Rattle.trace_text.specs.TraceLines.{SoFar, reads}
use Rattle.trace_text.specs.TracePlain.{ends_word}
use Rattle.trace_text.proofs.PlainLemmas.{first_is, frame_reads, some_weaker}
use Rattle.trace_text.proofs.heading.Heading.other_event.Goals as goal

pub returns-in-70 : goal.returns-in-70
returns-in-70 c =
    let line : List ℕ = c.args.line.now in
    let rest : List ℕ = take (length line - 1) (drop 1 line) in
    let letter : get_or line 0 0 ≡ 70 = grind arith in
    let ends : ends_word rest ≡ true = grind arith in
    let so_far = c.args.self.now in
    let known : so_far.sizes ≡ Some c.in-Some.sizes = ap (λ (s : SoFar). s.sizes) (sym c.self.view_is) ∙ c.in-Some.is in
    IfOk-weaker c.plain_frame.result _ _ (λ found given. some_weaker found _ _ (λ event plain.
    ap (reads so_far) (first_is line 70 c.in-70.len_at_least letter) ∙ frame_reads so_far c.in-Some.sizes rest event known ends plain) given) c.plain_frame.ensures
