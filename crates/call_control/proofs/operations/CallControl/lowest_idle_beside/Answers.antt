use Rattle.std.proofs.Common.{◌≡◌, ◌<◌, sym, ◌∙◌, arith}
use Rattle.call_control.specs.Choices.{idle_beside}
use Rattle.call_control.proofs.ChosenSlotLemmas.{first_all, first_end, first_here, first_other}
use Rattle.call_control.proofs.operations.CallControl.lowest_idle_beside.Goals as goal

pub loop-place-init : goal.loop-place-init
loop-place-init g c d w holds = first_all (idle_beside w c.args.beside) c.args.line

pub returns-then-idle_beside-clause-slot : goal.returns-then-idle_beside-clause-slot
returns-then-idle_beside-clause-slot g c d w holds =
    let within : c.loop-place.place < 30 = omega (arith, c.loop-place-test.true) in
    sym (c.loop-place.invariant d w holds ∙ first_here (idle_beside w c.args.beside) c.args.line c.loop-place.place within (sym (c.idle_beside.ensures d w holds) ∙ c.if-idle_beside.true))

pub loop-place-preserved : goal.loop-place-preserved
loop-place-preserved g c d w holds =
    let within : c.loop-place.place < 30 = omega (arith, c.loop-place-test.true) in
    c.loop-place.invariant d w holds ∙ first_other (idle_beside w c.args.beside) c.args.line c.loop-place.place within (sym (c.idle_beside.ensures d w holds) ∙ c.if-idle_beside.false)

pub returns-clause-slot : goal.returns-clause-slot
returns-clause-slot g c d w holds =
    let end : c.loop-place.place ≡ 30 = omega (arith, c.loop-place-test.false, c.loop-place.auto.place-end) in
    let before = c.loop-place.invariant d w holds in
    sym (rw end at before ∙ first_end (idle_beside w c.args.beside) c.args.line)
