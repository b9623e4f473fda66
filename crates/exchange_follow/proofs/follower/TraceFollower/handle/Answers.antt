use Rattle.std.proofs.Common.{◌++◌, ◌<◌, ◌≤◌, ◌⊎◌, [], length, arith, inl, inr}
use Rattle.exchange_follow.proofs.Handled.{interrupted_here}
use Rattle.exchange_follow.proofs.HandledSteps.{count_few, is_read, refused_at, refused_by}
use Rattle.linked_exchange.proofs.SteppingLemmas.{err_is}
use Rattle.exchange_follow.proofs.follower.TraceFollower.handle.Goals as goal
use Rattle.exchange_follow.proofs.follower.TraceFollower.handle.Goals.{then-line-gt-MAX_LINE-via-then-line-gt-MAX_LINE, then-line-gt-MAX_LINE-via-else-line-gt-MAX_LINE+then-self-ge-MAX_LINES}

pub overflow_add-self : goal.overflow_add-self
overflow_add-self g c =
    let (old, old_spare, ls, said, h) = c.requires.at in
    let few = count_few (λ m. (goal.Meter-dyn g (m.vtable, m.value)).stands m.value) (λ m. (goal.Meter-dyn g (m.vtable, m.value)).text m.value) g.C.Carrier.carries g.C.Carrier.next g.C.Carrier.sizes g.C.Carrier.plays g.P.Fabric.slots g.P.Fabric.moves old old_spare c.args.self.now.on.items c.args.self.now.spare.items c.args.self.now.heading c.args.self.now.lines c.args.self.now.exchange c.args.self.now.linked ls [] said h in
    omega (arith, few)

pub returns-then-line-gt-MAX_LINE-clause-refused : goal.returns-then-line-gt-MAX_LINE-clause-refused
returns-then-line-gt-MAX_LINE-clause-refused g c failed old old_spare ls front h =
    let why : (65535 < length c.args.line.now) ⊎ (4294967294 ≤ c.args.self.now.lines) =
    elim c.then-line-gt-MAX_LINE.branch [
      | then-line-gt-MAX_LINE-via-then-line-gt-MAX_LINE w ↦ inl (let long = w.if-line-gt-MAX_LINE.true in omega (arith, long))
      | then-line-gt-MAX_LINE-via-else-line-gt-MAX_LINE+then-self-ge-MAX_LINES w ↦ inr (let many = w.if-self-ge-MAX_LINES.true in omega (arith, many))
    ] in
    refused_at (λ m. (goal.Meter-dyn g (m.vtable, m.value)).stands m.value) (λ m. (goal.Meter-dyn g (m.vtable, m.value)).text m.value) g.C.Carrier.carries g.C.Carrier.next g.C.Carrier.sizes g.C.Carrier.plays g.P.Fabric.slots g.P.Fabric.moves old old_spare c.args.self.now.on.items c.args.self.now.spare.items c.args.self.now.heading c.args.self.now.lines c.args.self.now.exchange c.args.self.now.linked ls front c.args.out.now.items h c.args.line.now c.refuse.new.text.items why (c.refuse.ensures.refused (err_is _ _ failed))

pub returns-then-line-gt-MAX_LINE-clause-stranded : goal.returns-then-line-gt-MAX_LINE-clause-stranded
returns-then-line-gt-MAX_LINE-clause-stranded g c failed old old_spare ls front h =
    rw (c.refuse.ensures.kept (err_is _ _ failed)) (interrupted_here (λ m. (goal.Meter-dyn g (m.vtable, m.value)).stands m.value) (λ m. (goal.Meter-dyn g (m.vtable, m.value)).text m.value) g.C.Carrier.carries g.C.Carrier.next g.C.Carrier.sizes g.C.Carrier.plays g.P.Fabric.slots g.P.Fabric.moves old old_spare c.args.self.now.on.items c.args.self.now.spare.items c.args.self.now.heading c.args.self.now.lines c.args.self.now.exchange c.args.self.now.linked ls (front ++ c.args.out.now.items) c.args.line.now h)

pub take-requires-clause-read : goal.take-requires-clause-read
take-requires-clause-read g c lifetimes outlive =
    let (old, old_spare, ls, said, h) = c.requires.at in
    (old, old_spare, ls, c.args.line.now, said, is_read (λ m. (goal.Meter-dyn g (m.vtable, m.value)).stands m.value) (λ m. (goal.Meter-dyn g (m.vtable, m.value)).text m.value) g.C.Carrier.carries g.C.Carrier.next g.C.Carrier.sizes g.C.Carrier.plays g.P.Fabric.slots g.P.Fabric.moves old old_spare c.args.self.now.on.items c.args.self.now.spare.items c.args.self.now.heading c.args.self.now.lines c.args.self.now.exchange c.args.self.now.linked ls [] said h c.args.line.now (let short = c.if-line-gt-MAX_LINE.false in omega (arith, short)) (let few = c.if-self-ge-MAX_LINES.false in omega (arith, few)) c.for_lines.result c.for_lines.ensures c.in-Ok.happening c.read_line.new.self c.in-Ok.ensures.read)

pub returns-in-Ok-take-clause-done : goal.returns-in-Ok-take-clause-done
returns-in-Ok-take-clause-done g c old old_spare ls front h =
    c.in-Ok-take.ensures.done old old_spare ls c.args.line.now front
    (is_read (λ m. (goal.Meter-dyn g (m.vtable, m.value)).stands m.value) (λ m. (goal.Meter-dyn g (m.vtable, m.value)).text m.value) g.C.Carrier.carries g.C.Carrier.next g.C.Carrier.sizes g.C.Carrier.plays g.P.Fabric.slots g.P.Fabric.moves old old_spare c.args.self.now.on.items c.args.self.now.spare.items c.args.self.now.heading c.args.self.now.lines c.args.self.now.exchange c.args.self.now.linked ls front c.args.out.now.items h c.args.line.now (let short = c.if-line-gt-MAX_LINE.false in omega (arith, short)) (let few = c.if-self-ge-MAX_LINES.false in omega (arith, few)) c.for_lines.result c.for_lines.ensures c.in-Ok.happening c.read_line.new.self c.in-Ok.ensures.read)

pub returns-in-Err-clause-stranded : goal.returns-in-Err-clause-stranded
returns-in-Err-clause-stranded g c failed old old_spare ls front h =
    c.in-Err.ensures.stranded old old_spare ls c.args.line.now front
    (is_read (λ m. (goal.Meter-dyn g (m.vtable, m.value)).stands m.value) (λ m. (goal.Meter-dyn g (m.vtable, m.value)).text m.value) g.C.Carrier.carries g.C.Carrier.next g.C.Carrier.sizes g.C.Carrier.plays g.P.Fabric.slots g.P.Fabric.moves old old_spare c.args.self.now.on.items c.args.self.now.spare.items c.args.self.now.heading c.args.self.now.lines c.args.self.now.exchange c.args.self.now.linked ls front c.args.out.now.items h c.args.line.now (let short = c.if-line-gt-MAX_LINE.false in omega (arith, short)) (let few = c.if-self-ge-MAX_LINES.false in omega (arith, few)) c.for_lines.result c.for_lines.ensures c.in-Ok.happening c.read_line.new.self c.in-Ok.ensures.read)

pub returns-in-Err-Memory-clause-stranded : goal.returns-in-Err-Memory-clause-stranded
returns-in-Err-Memory-clause-stranded g c failed old old_spare ls front h =
    interrupted_here (λ m. (goal.Meter-dyn g (m.vtable, m.value)).stands m.value) (λ m. (goal.Meter-dyn g (m.vtable, m.value)).text m.value) g.C.Carrier.carries g.C.Carrier.next g.C.Carrier.sizes g.C.Carrier.plays g.P.Fabric.slots g.P.Fabric.moves old old_spare c.args.self.now.on.items c.args.self.now.spare.items c.args.self.now.heading c.args.self.now.lines c.args.self.now.exchange c.args.self.now.linked ls (front ++ c.args.out.now.items) c.args.line.now h

pub returns-in-Err-Refused-clause-refused : goal.returns-in-Err-Refused-clause-refused
returns-in-Err-Refused-clause-refused g c failed old old_spare ls front h =
    refused_by (λ m. (goal.Meter-dyn g (m.vtable, m.value)).stands m.value) (λ m. (goal.Meter-dyn g (m.vtable, m.value)).text m.value) g.C.Carrier.carries g.C.Carrier.next g.C.Carrier.sizes g.C.Carrier.plays g.P.Fabric.slots g.P.Fabric.moves old old_spare c.args.self.now.on.items c.args.self.now.spare.items c.args.self.now.heading c.args.self.now.lines c.args.self.now.exchange c.args.self.now.linked ls front c.args.out.now.items h c.args.line.now (let short = c.if-line-gt-MAX_LINE.false in omega (arith, short)) (let few = c.if-self-ge-MAX_LINES.false in omega (arith, few)) c.for_lines.result c.for_lines.ensures c.in-Err-Refused.reason c.refuse-in-Err-Refused.new.text.items
    (let fails = c.in-Err-Refused.ensures.refused in rw c.in-Err-Refused.field-0-is at fails) (c.refuse-in-Err-Refused.ensures.refused (err_is _ _ failed))

pub returns-in-Err-Refused-clause-stranded : goal.returns-in-Err-Refused-clause-stranded
returns-in-Err-Refused-clause-stranded g c failed old old_spare ls front h =
    rw (c.refuse-in-Err-Refused.ensures.kept (err_is _ _ failed)) (interrupted_here (λ m. (goal.Meter-dyn g (m.vtable, m.value)).stands m.value) (λ m. (goal.Meter-dyn g (m.vtable, m.value)).text m.value) g.C.Carrier.carries g.C.Carrier.next g.C.Carrier.sizes g.C.Carrier.plays g.P.Fabric.slots g.P.Fabric.moves old old_spare c.args.self.now.on.items c.args.self.now.spare.items c.args.self.now.heading c.args.self.now.lines c.args.self.now.exchange c.args.self.now.linked ls (front ++ c.args.out.now.items) c.args.line.now h)
