use Rattle.std.proofs.Common.{◌≡◌, ◌+◌, ◌-◌, arith, ◌∙◌}
use Rattle.traffic_gen.proofs.Texts.{calls_end, calls_step}
use Rattle.traffic_gen.proofs.traffic.put_calls.Goals as goal

pub loop-preserved : goal.loop-preserved
loop-preserved c =
    let one : c.args.calls - (c.loop.counter + 1) + 1 ≡ c.args.calls - c.loop.counter = omega (arith, c.loop-test.true) in
    calls_step _ _ _ _ _ _ _ _ one c.drawn-call.ensures.call c.drawn-call.ensures.state c.in_ok-put.ensures.state c.in_ok-put.ensures.lines
    ∙ c.loop.invariant

pub returns : goal.returns
returns c =
    let none : c.args.calls - c.loop.counter ≡ 0 = omega (arith, c.loop-test.false) in
    calls_end _ _ _ none ∙ c.loop.invariant
