use Rattle.std.proofs.Common.{sym, ◌∙◌}
use Rattle.call_control.proofs.ChosenSlotLemmas.{hunted_here, hunted_later}
use Rattle.call_control.proofs.operations.CallControl.hunted.Goals as goal

pub returns-then-is_some-clause-slot : goal.returns-then-is_some-clause-slot
returns-then-is_some-clause-slot g c d w holds =
    let here = hunted_here w c.args.beside c.args.lines.now c.loop-line.line-index c.loop-line-test.true _ (c.lowest_called-slot.ensures.slot d w holds) (sym c.is_some.ensures ∙ c.if-is_some.true) in
    here ∙ sym (c.loop-line.invariant d w holds)

pub loop-line-preserved : goal.loop-line-preserved
loop-line-preserved g c d w holds =
    c.loop-line.invariant d w holds
    ∙ hunted_later w c.args.beside c.args.lines.now c.loop-line.line-index c.loop-line-test.true _ (c.lowest_called-slot.ensures.slot d w holds) (sym c.is_some.ensures ∙ c.if-is_some.false)
