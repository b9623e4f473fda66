use Rattle.std.proofs.Common.{◌≡◌, ◌+◌, ◌-◌, ◌∙◌, arith}
use Rattle.link_procedures.specs.Links.{step}
use Rattle.link_procedures.proofs.FlushLemmas.{sends_waiting_one_sent, all_sent}
use Rattle.link_procedures.proofs.link.Link.flush.Goals as goal

pub loop-preserved : goal.loop-preserved
loop-preserved c =
    let sent = c.send_next.ensures in
    record {
      flow = sends_waiting_one_sent (7 - c.loop.counter) (7 - (c.loop.counter + 1)) c.args.at (step c.loop.self c.loop.out) c.send_next.new.self c.send_next.new.out (omega (arith, c.loop-test.true)) sent.link sent.out ∙ c.loop.invariant.flow;
      few = omega (arith, sent.few, c.loop.invariant.few);
    }

pub returns-clause-link : goal.returns-clause-link
returns-clause-link c =
    let none : 7 - c.loop.counter ≡ 0 = omega (arith, c.loop-test.false) in
    (all_sent (7 - c.loop.counter) c.args.at (step c.args.self.now c.args.out.now) c.loop.self c.loop.out none c.loop.invariant.flow).0

pub returns-clause-out : goal.returns-clause-out
returns-clause-out c =
    let none : 7 - c.loop.counter ≡ 0 = omega (arith, c.loop-test.false) in
    (all_sent (7 - c.loop.counter) c.args.at (step c.args.self.now c.args.out.now) c.loop.self c.loop.out none c.loop.invariant.flow).1
