use Rattle.std.proofs.Common.{◌∙◌, ◌++◌, ap}
use Rattle.linked_text.specs.declared.said.LinkHappening.TheVariants as effect
use Rattle.exchange_follow.proofs.Handled.{interrupted_here}
use Rattle.exchange_follow.proofs.HandledSteps.{err_each, handled_change, handled_quiet, of_err, of_ok, ok_each}
use Rattle.exchange_follow.proofs.follower.TraceFollower.take.Goals as goal

pub process-requires-clause-read : goal.process-requires-clause-read
process-requires-clause-read g c κs within =
    let (old, old_spare, ls, line, said, r) = c.requires.read in
    (old, old_spare, ls, line, said, rw (c.in-Plain-Event.is, c.in-Plain-Event.field-0-is) at r)

pub process-requires-in-Received-clause-read : goal.process-requires-in-Received-clause-read
process-requires-in-Received-clause-read g c κs within =
    let (old, old_spare, ls, line, said, r) = c.requires.read in
    (old, old_spare, ls, line, said, rw c.in-Received.is at r)

pub returns-in-Plain-Nothing-clause-done : goal.returns-in-Plain-Nothing-clause-done
returns-in-Plain-Nothing-clause-done g c old old_spare ls line front r =
    handled_quiet (λ m. (goal.Meter-dyn g (m.vtable, m.value)).stands m.value) (λ m. (goal.Meter-dyn g (m.vtable, m.value)).text m.value) g.C.Carrier.carries g.C.Carrier.next g.C.Carrier.sizes g.C.Carrier.plays g.P.Fabric.slots g.P.Fabric.moves old old_spare c.args.self.now.on.items c.args.self.now.spare.items r.before c.args.self.now.heading c.args.self.now.lines c.args.self.now.exchange c.args.self.now.linked ls front c.args.out.now.items line r.handled r.short r.few c.args.happening r.read (rw (c.in-Plain-Nothing.is, c.in-Plain-Nothing.field-0-is) tt)

pub returns-in-Plain-SegmentEnd-clause-done : goal.returns-in-Plain-SegmentEnd-clause-done
returns-in-Plain-SegmentEnd-clause-done g c old old_spare ls line front r =
    handled_quiet (λ m. (goal.Meter-dyn g (m.vtable, m.value)).stands m.value) (λ m. (goal.Meter-dyn g (m.vtable, m.value)).text m.value) g.C.Carrier.carries g.C.Carrier.next g.C.Carrier.sizes g.C.Carrier.plays g.P.Fabric.slots g.P.Fabric.moves old old_spare c.args.self.now.on.items c.args.self.now.spare.items r.before c.args.self.now.heading c.args.self.now.lines c.args.self.now.exchange c.args.self.now.linked ls front c.args.out.now.items line r.handled r.short r.few c.args.happening r.read (rw (c.in-Plain-SegmentEnd.is, c.in-Plain-SegmentEnd.field-0-is) tt)

pub returns-in-Plain-Event-clause-done : goal.returns-in-Plain-Event-clause-done
returns-in-Plain-Event-clause-done g c = rw (c.in-Plain-Event.is, c.in-Plain-Event.field-0-is) c.process.ensures.done

pub returns-in-Plain-Event-clause-stranded : goal.returns-in-Plain-Event-clause-stranded
returns-in-Plain-Event-clause-stranded g c = rw (c.in-Plain-Event.is, c.in-Plain-Event.field-0-is) c.process.ensures.stranded

pub returns-in-Plain-Change-clause-done : goal.returns-in-Plain-Change-clause-done
returns-in-Plain-Change-clause-done g c =
    ok_each c.change_once.result (λ t ok old old_spare ls line front r.
    handled_change (λ m. (goal.Meter-dyn g (m.vtable, m.value)).stands m.value) (λ m. (goal.Meter-dyn g (m.vtable, m.value)).text m.value) g.C.Carrier.carries g.C.Carrier.next g.C.Carrier.sizes g.C.Carrier.plays g.P.Fabric.slots g.P.Fabric.moves old old_spare c.args.self.now.on.items c.args.self.now.spare.items r.before c.args.self.now.heading c.args.self.now.lines c.args.self.now.exchange c.args.self.now.linked ls front c.args.out.now.items line r.handled r.short r.few c.args.happening r.read (c.in-Plain-Change.is ∙ ap effect.Plain c.in-Plain-Change.field-0-is) c.change_once.new.meters.items c.change_once.new.spare.items c.change_once.new.out.items
    (of_ok c.change_once.result t ok c.change_once.ensures.done))

pub returns-in-Plain-Change-clause-stranded : goal.returns-in-Plain-Change-clause-stranded
returns-in-Plain-Change-clause-stranded g c =
    err_each c.change_once.result (λ e failed old old_spare ls line front r.
    let kept = of_err c.change_once.result e failed c.change_once.ensures.kept in
    rw (kept.0, kept.1, kept.2) (interrupted_here (λ m. (goal.Meter-dyn g (m.vtable, m.value)).stands m.value) (λ m. (goal.Meter-dyn g (m.vtable, m.value)).text m.value) g.C.Carrier.carries g.C.Carrier.next g.C.Carrier.sizes g.C.Carrier.plays g.P.Fabric.slots g.P.Fabric.moves old old_spare c.args.self.now.on.items c.args.self.now.spare.items r.before c.args.self.now.lines c.args.self.now.exchange c.args.self.now.linked ls (front ++ c.args.out.now.items) line r.handled))

pub returns-in-Received-clause-done : goal.returns-in-Received-clause-done
returns-in-Received-clause-done g c = rw c.in-Received.is c.process-in-Received.ensures.done

pub returns-in-Received-clause-stranded : goal.returns-in-Received-clause-stranded
returns-in-Received-clause-stranded g c = rw c.in-Received.is c.process-in-Received.ensures.stranded
