use Rattle.std.proofs.Common.{◌≡◌, ◌∙◌, List, ℕ, Some, Ok, length, get_or, ap, sym, arith}
use Rattle.trace_text.specs.declared.said.Said.TheVariants as Said
use Rattle.exchange_events.specs.declared.trace.Event.TheVariants as event
use Rattle.circuit_model.specs.FrameInput.{Input}
use Rattle.trace_text.specs.TraceLines.{SoFar}
use Rattle.trace_text.proofs.PlainLemmas.{only_is}
use Rattle.trace_text.proofs.TraceParts.{reads_idle}
use Rattle.trace_text.proofs.heading.Heading.common_event.Goals as goal

pub returns-in-70 : goal.returns-in-70
returns-in-70 c =
    let line : List ℕ = c.args.line.now in
    let one : length line ≡ 1 = grind arith in
    let letter : get_or line 0 0 ≡ 70 = grind arith in
    let so_far = c.args.self.now in
    let known : so_far.sizes ≡ Some c.in-Some.sizes = ap (λ (s : SoFar). s.sizes) (sym c.self.view_is) ∙ c.in-Some.is in
    reads_idle so_far c.in-Some.sizes line known (only_is line 70 one letter) ∙ ap (λ (i : Input). Ok (Said.Happens (event.Frame i))) (sym c.idle.ensures)
