use Rattle.std.proofs.Common.{refl}
use Rattle.linked_text.specs.declared.said.LinkHappening.TheVariants as effect
use Rattle.trace_text.specs.declared.heading.Happening.TheVariants as happening
use Rattle.line_wire.proofs.Steps.{owes_more}
use Rattle.exchange_follow.proofs.HandledSteps.{handled_quiet}
use Rattle.exchange_follow.proofs.follow_loop.handle_line.Goals as goal

pub returns-then-only_counts-clause-done : goal.returns-then-only_counts-clause-done
returns-then-only_counts-clause-done g c old old_spare heard done a =
    let counts = c.only_counts.ensures c.if-only_counts.true in
    let h = c.args.handler.now in
    owes_more _ _ _ heard done c.args.line.now _ _ _ _ a
    (λ front now. handled_quiet (λ m. (goal.Meter-dyn g (m.vtable, m.value)).stands m.value) (λ m. (goal.Meter-dyn g (m.vtable, m.value)).text m.value) g.C.Carrier.carries g.C.Carrier.next g.C.Carrier.sizes g.C.Carrier.plays g.P.Fabric.slots g.P.Fabric.moves old old_spare h.on.items h.spare.items h.heading h.heading h.lines h.exchange h.linked done front c.args.text.now.items c.args.line.now now counts.short counts.few (effect.Plain happening.SegmentEnd) counts.read tt)
    refl
