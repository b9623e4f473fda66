use Rattle.std.proofs.Common.{◌∙◌, ◌≤◌, [], List, ℕ, length, ap, refl, sym, subst}
use Rattle.linked_exchange.specs.LinkedStepping.{effect_in}
use Rattle.linked_text.specs.LinkEffects.{plain_told}
use Rattle.exchange_follow.proofs.HandledSteps.{err_each, event_due, handled_event, handled_linked, interrupted_event, interrupted_linked, linked_is_due, none_listed, of_err, of_ok, ok_each, plain_header, received_linked, some_listed}
use Rattle.exchange_follow.proofs.follower.TraceFollower.process.Goals as goal
use Rattle.exchange_follow.proofs.follower.TraceFollower.process.Goals.{in_default-via-in-Event+else-unlinked, in_default-via-in_default}

pub advance-requires-clause-due : goal.advance-requires-clause-due
advance-requires-clause-due g c κs within =
    let (old, old_spare, ls, line, said, r) = c.requires.read in
    let is = ap effect_in c.in-Event.is in
    let none = sym c.linked.ensures ∙ (sym c.as_slice.ensures ∙ none_listed c.as_slice.result.now (sym c.is_empty-unlinked.ensures ∙ c.if-unlinked.true)) in
    (plain_told r.handled.told, plain_header (λ m. (goal.Meter-dyn g (m.vtable, m.value)).stands m.value) (λ m. (goal.Meter-dyn g (m.vtable, m.value)).text m.value) g.C.Carrier.carries g.C.Carrier.next g.C.Carrier.sizes g.C.Carrier.plays g.P.Fabric.slots g.P.Fabric.moves old old_spare c.args.self.now.on.items c.args.self.now.spare.items r.before c.args.self.now.heading c.args.self.now.lines c.args.self.now.exchange c.args.self.now.linked ls [] said line r.handled r.short r.few (effect_in c.args.event.now) r.read c.in-Event.event.now is none, rw c.plain.ensures (event_due (λ m. (goal.Meter-dyn g (m.vtable, m.value)).stands m.value) (λ m. (goal.Meter-dyn g (m.vtable, m.value)).text m.value) g.C.Carrier.carries g.C.Carrier.next g.C.Carrier.sizes g.C.Carrier.plays g.P.Fabric.slots g.P.Fabric.moves old old_spare c.args.self.now.on.items c.args.self.now.spare.items r.before c.args.self.now.heading c.args.self.now.lines c.args.self.now.exchange c.args.self.now.linked ls [] said line r.handled r.short r.few (effect_in c.args.event.now) r.read c.in-Event.event.now is none))

pub advance_linked-requires-clause-due : goal.advance_linked-requires-clause-due
advance_linked-requires-clause-due g c κs within =
    let (old, old_spare, ls, line, said, r) = c.requires.read in
    let some : 1 ≤ length c.args.self.now.heading.linked =
    elim c.in_default.branch [
      | in_default-via-in-Event+else-unlinked w ↦ subst (λ (l : List ℕ). 1 ≤ length l) (c.as_slice.ensures ∙ c.linked.ensures) (some_listed c.as_slice.result.now (sym c.is_empty-unlinked.ensures ∙ w.if-unlinked.false))
      | in_default-via-in_default w ↦ received_linked (λ m. (goal.Meter-dyn g (m.vtable, m.value)).stands m.value) (λ m. (goal.Meter-dyn g (m.vtable, m.value)).text m.value) g.C.Carrier.carries g.C.Carrier.next g.C.Carrier.sizes g.C.Carrier.plays g.P.Fabric.slots g.P.Fabric.moves old old_spare c.args.self.now.on.items c.args.self.now.spare.items r.before c.args.self.now.heading c.args.self.now.lines c.args.self.now.exchange c.args.self.now.linked ls [] said line r.handled r.short r.few (effect_in c.args.event.now) r.read c.args.event.now refl (rw w.in_default.is tt)
    ] in
    (r.handled.told, _, linked_is_due (λ m. (goal.Meter-dyn g (m.vtable, m.value)).stands m.value) (λ m. (goal.Meter-dyn g (m.vtable, m.value)).text m.value) g.C.Carrier.carries g.C.Carrier.next g.C.Carrier.sizes g.C.Carrier.plays g.P.Fabric.slots g.P.Fabric.moves old old_spare c.args.self.now.on.items c.args.self.now.spare.items r.before c.args.self.now.heading c.args.self.now.lines c.args.self.now.exchange c.args.self.now.linked ls [] said line r.handled r.short r.few (effect_in c.args.event.now) r.read c.args.event.now refl some)

pub returns-in-Event-clause-done : goal.returns-in-Event-clause-done
returns-in-Event-clause-done g c =
    ok_each c.advance.result (λ t ok old old_spare ls line front r.
    let is = ap effect_in c.in-Event.is in
    let none = sym c.linked.ensures ∙ (sym c.as_slice.ensures ∙ none_listed c.as_slice.result.now (sym c.is_empty-unlinked.ensures ∙ c.if-unlinked.true)) in
    handled_event (λ m. (goal.Meter-dyn g (m.vtable, m.value)).stands m.value) (λ m. (goal.Meter-dyn g (m.vtable, m.value)).text m.value) g.C.Carrier.carries g.C.Carrier.next g.C.Carrier.sizes g.C.Carrier.plays g.P.Fabric.slots g.P.Fabric.moves old old_spare c.args.self.now.on.items c.args.self.now.spare.items r.before c.args.self.now.heading c.args.self.now.lines c.args.self.now.exchange c.args.self.now.linked ls front c.args.out.now.items line r.handled r.short r.few (effect_in c.args.event.now) r.read c.in-Event.event.now is none c.advance.new.meters.items c.advance.new.out.items c.advance.new.exchange
    (of_ok c.advance.result t ok (rw c.plain.ensures at c.advance.ensures.happened (plain_told r.handled.told) _ (event_due (λ m. (goal.Meter-dyn g (m.vtable, m.value)).stands m.value) (λ m. (goal.Meter-dyn g (m.vtable, m.value)).text m.value) g.C.Carrier.carries g.C.Carrier.next g.C.Carrier.sizes g.C.Carrier.plays g.P.Fabric.slots g.P.Fabric.moves old old_spare c.args.self.now.on.items c.args.self.now.spare.items r.before c.args.self.now.heading c.args.self.now.lines c.args.self.now.exchange c.args.self.now.linked ls front c.args.out.now.items line r.handled r.short r.few (effect_in c.args.event.now) r.read c.in-Event.event.now is none))))

pub returns-in-Event-clause-stranded : goal.returns-in-Event-clause-stranded
returns-in-Event-clause-stranded g c =
    err_each c.advance.result (λ e failed old old_spare ls line front r.
    let is = ap effect_in c.in-Event.is in
    let none = sym c.linked.ensures ∙ (sym c.as_slice.ensures ∙ none_listed c.as_slice.result.now (sym c.is_empty-unlinked.ensures ∙ c.if-unlinked.true)) in
    rw (of_err c.advance.result e failed c.advance.ensures.kept) (interrupted_event (λ m. (goal.Meter-dyn g (m.vtable, m.value)).stands m.value) (λ m. (goal.Meter-dyn g (m.vtable, m.value)).text m.value) g.C.Carrier.carries g.C.Carrier.next g.C.Carrier.sizes g.C.Carrier.plays g.P.Fabric.slots g.P.Fabric.moves old old_spare c.args.self.now.on.items c.args.self.now.spare.items r.before c.args.self.now.heading c.args.self.now.lines c.args.self.now.exchange c.args.self.now.linked ls front c.args.out.now.items line r.handled r.short r.few (effect_in c.args.event.now) r.read c.in-Event.event.now is none c.advance.new.meters.items
    (of_err c.advance.result e failed (rw c.plain.ensures at c.advance.ensures.front (plain_told r.handled.told) _ (event_due (λ m. (goal.Meter-dyn g (m.vtable, m.value)).stands m.value) (λ m. (goal.Meter-dyn g (m.vtable, m.value)).text m.value) g.C.Carrier.carries g.C.Carrier.next g.C.Carrier.sizes g.C.Carrier.plays g.P.Fabric.slots g.P.Fabric.moves old old_spare c.args.self.now.on.items c.args.self.now.spare.items r.before c.args.self.now.heading c.args.self.now.lines c.args.self.now.exchange c.args.self.now.linked ls front c.args.out.now.items line r.handled r.short r.few (effect_in c.args.event.now) r.read c.in-Event.event.now is none)))))

pub returns-in_default-clause-done : goal.returns-in_default-clause-done
returns-in_default-clause-done g c =
    ok_each c.advance_linked.result (λ t ok old old_spare ls line front r.
    let some : 1 ≤ length c.args.self.now.heading.linked =
    elim c.in_default.branch [
      | in_default-via-in-Event+else-unlinked w ↦ subst (λ (l : List ℕ). 1 ≤ length l) (c.as_slice.ensures ∙ c.linked.ensures) (some_listed c.as_slice.result.now (sym c.is_empty-unlinked.ensures ∙ w.if-unlinked.false))
      | in_default-via-in_default w ↦ received_linked (λ m. (goal.Meter-dyn g (m.vtable, m.value)).stands m.value) (λ m. (goal.Meter-dyn g (m.vtable, m.value)).text m.value) g.C.Carrier.carries g.C.Carrier.next g.C.Carrier.sizes g.C.Carrier.plays g.P.Fabric.slots g.P.Fabric.moves old old_spare c.args.self.now.on.items c.args.self.now.spare.items r.before c.args.self.now.heading c.args.self.now.lines c.args.self.now.exchange c.args.self.now.linked ls front c.args.out.now.items line r.handled r.short r.few (effect_in c.args.event.now) r.read c.args.event.now refl (rw w.in_default.is tt)
    ] in
    handled_linked (λ m. (goal.Meter-dyn g (m.vtable, m.value)).stands m.value) (λ m. (goal.Meter-dyn g (m.vtable, m.value)).text m.value) g.C.Carrier.carries g.C.Carrier.next g.C.Carrier.sizes g.C.Carrier.plays g.P.Fabric.slots g.P.Fabric.moves old old_spare c.args.self.now.on.items c.args.self.now.spare.items r.before c.args.self.now.heading c.args.self.now.lines c.args.self.now.exchange c.args.self.now.linked ls front c.args.out.now.items line r.handled r.short r.few (effect_in c.args.event.now) r.read c.args.event.now refl some c.advance_linked.new.meters.items c.advance_linked.new.out.items c.advance_linked.new.exchange
    (of_ok c.advance_linked.result t ok (c.advance_linked.ensures.happened r.handled.told _ (linked_is_due (λ m. (goal.Meter-dyn g (m.vtable, m.value)).stands m.value) (λ m. (goal.Meter-dyn g (m.vtable, m.value)).text m.value) g.C.Carrier.carries g.C.Carrier.next g.C.Carrier.sizes g.C.Carrier.plays g.P.Fabric.slots g.P.Fabric.moves old old_spare c.args.self.now.on.items c.args.self.now.spare.items r.before c.args.self.now.heading c.args.self.now.lines c.args.self.now.exchange c.args.self.now.linked ls front c.args.out.now.items line r.handled r.short r.few (effect_in c.args.event.now) r.read c.args.event.now refl some))))

pub returns-in_default-clause-stranded : goal.returns-in_default-clause-stranded
returns-in_default-clause-stranded g c =
    err_each c.advance_linked.result (λ e failed old old_spare ls line front r.
    let some : 1 ≤ length c.args.self.now.heading.linked =
    elim c.in_default.branch [
      | in_default-via-in-Event+else-unlinked w ↦ subst (λ (l : List ℕ). 1 ≤ length l) (c.as_slice.ensures ∙ c.linked.ensures) (some_listed c.as_slice.result.now (sym c.is_empty-unlinked.ensures ∙ w.if-unlinked.false))
      | in_default-via-in_default w ↦ received_linked (λ m. (goal.Meter-dyn g (m.vtable, m.value)).stands m.value) (λ m. (goal.Meter-dyn g (m.vtable, m.value)).text m.value) g.C.Carrier.carries g.C.Carrier.next g.C.Carrier.sizes g.C.Carrier.plays g.P.Fabric.slots g.P.Fabric.moves old old_spare c.args.self.now.on.items c.args.self.now.spare.items r.before c.args.self.now.heading c.args.self.now.lines c.args.self.now.exchange c.args.self.now.linked ls front c.args.out.now.items line r.handled r.short r.few (effect_in c.args.event.now) r.read c.args.event.now refl (rw w.in_default.is tt)
    ] in
    rw (of_err c.advance_linked.result e failed c.advance_linked.ensures.kept) (interrupted_linked (λ m. (goal.Meter-dyn g (m.vtable, m.value)).stands m.value) (λ m. (goal.Meter-dyn g (m.vtable, m.value)).text m.value) g.C.Carrier.carries g.C.Carrier.next g.C.Carrier.sizes g.C.Carrier.plays g.P.Fabric.slots g.P.Fabric.moves old old_spare c.args.self.now.on.items c.args.self.now.spare.items r.before c.args.self.now.heading c.args.self.now.lines c.args.self.now.exchange c.args.self.now.linked ls front c.args.out.now.items line r.handled r.short r.few (effect_in c.args.event.now) r.read c.args.event.now refl some c.advance_linked.new.meters.items
    (of_err c.advance_linked.result e failed (c.advance_linked.ensures.front r.handled.told _ (linked_is_due (λ m. (goal.Meter-dyn g (m.vtable, m.value)).stands m.value) (λ m. (goal.Meter-dyn g (m.vtable, m.value)).text m.value) g.C.Carrier.carries g.C.Carrier.next g.C.Carrier.sizes g.C.Carrier.plays g.P.Fabric.slots g.P.Fabric.moves old old_spare c.args.self.now.on.items c.args.self.now.spare.items r.before c.args.self.now.heading c.args.self.now.lines c.args.self.now.exchange c.args.self.now.linked ls front c.args.out.now.items line r.handled r.short r.few (effect_in c.args.event.now) r.read c.args.event.now refl some)))))
