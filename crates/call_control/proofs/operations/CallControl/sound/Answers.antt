use Rattle.call_control.proofs.ObeyLemmas.{tone_holds}
use Rattle.call_control.proofs.operations.CallControl.sound.Goals as goal

pub returns-in-Some-clause-holds : goal.returns-in-Some-clause-holds
returns-in-Some-clause-holds g c d w h =
    let e = c.tone.ensures in
    rw c.in-Some.is (tone_holds d _ _ w h _ c.args.x c.in-Some.kind e.holds e.layout e.sizes)
