use Rattle.std.proofs.Common.{subst}
use Rattle.run_verifier.specs.Checking.{Said}
use Rattle.run_verifier.specs.Refusals.{Says}
use Rattle.ex_io.specs.Streams.{stream}
use Rattle.run_verifier.proofs.checking.check.Goals as goal

pub returns-in-Ok-found-clause-ends : goal.returns-in-Ok-found-clause-ends
returns-in-Ok-found-clause-ends g c =
    let r = c.in-Ok.ensures in
    let found = rw c.as_slice.ensures.value at c.in-Ok-found.ensures in
    let said = rw c.as_slice-in-Ok-found.ensures.value at c.say.ensures.answer in
    Said c.in-Ok.bytes.items (record { front = r.front; whole = r.whole; few = r.most }) c.in-Ok-found.ending found.0
    (subst (λ line. Says c.in-Ok-found.ending line c.say.result (stream g.K.Sink.written g.K.Sink.faults c.args.sink.now c.say.new.sink)) found.1 said)
