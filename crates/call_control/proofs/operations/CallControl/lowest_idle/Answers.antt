use Rattle.std.proofs.Common.{◌≡◌, ◌<◌, sym, ◌∙◌, arith}
use Rattle.call_profile.specs.IdleSlots.{idle}
use Rattle.call_control.proofs.ChosenSlotLemmas.{first_all, first_end, first_here, first_other}
use Rattle.call_control.proofs.operations.CallControl.lowest_idle.Goals as goal

pub loop-place-init : goal.loop-place-init
loop-place-init g c d w holds = first_all (idle w) c.args.line

pub returns-then-is_idle-clause-slot : goal.returns-then-is_idle-clause-slot
returns-then-is_idle-clause-slot g c d w holds =
    let within : c.loop-place.place < 30 = omega (arith, c.loop-place-test.true) in
    sym (c.loop-place.invariant d w holds ∙ first_here (idle w) c.args.line c.loop-place.place within (sym (c.is_idle.ensures.idle d w holds) ∙ c.if-is_idle.true))

pub loop-place-preserved : goal.loop-place-preserved
loop-place-preserved g c d w holds =
    let within : c.loop-place.place < 30 = omega (arith, c.loop-place-test.true) in
    c.loop-place.invariant d w holds ∙ first_other (idle w) c.args.line c.loop-place.place within (sym (c.is_idle.ensures.idle d w holds) ∙ c.if-is_idle.false)

pub returns-clause-slot : goal.returns-clause-slot
returns-clause-slot g c d w holds =
    let end : c.loop-place.place ≡ 30 = omega (arith, c.loop-place-test.false, c.loop-place.auto.place-end) in
    let before = c.loop-place.invariant d w holds in
    sym (rw end at before ∙ first_end (idle w) c.args.line)
