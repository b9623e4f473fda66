use Rattle.std.proofs.Common.{◌++◌, ◌≤◌, ◌∙◌, [], List, ℕ, ap, arith, length, not, subst, sym}
use Rattle.linked_text.specs.LinkEffects.{plain_told}
use Rattle.exchange_follow.proofs.Handled.{interrupted_last}
use Rattle.exchange_follow.proofs.HandledSteps.{count_few, finish_heard, finish_linked, finished, finished_linked, known_there, none_listed, of_ok, some_listed}
use Rattle.linked_exchange.proofs.SteppingLemmas.{err_is}
use Rattle.exchange_follow.proofs.follower.TraceFollower.finish.Goals as goal
use Rattle.exchange_follow.proofs.follower.TraceFollower.finish.Goals.{then-is_empty, else-is_empty}

pub overflow_add-self : goal.overflow_add-self
overflow_add-self g c =
    let (old, old_spare, ls, said, h) = c.requires.at in
    let few = count_few (λ m. (goal.Meter-dyn g (m.vtable, m.value)).stands m.value) (λ m. (goal.Meter-dyn g (m.vtable, m.value)).text m.value) g.C.Carrier.carries g.C.Carrier.next g.C.Carrier.sizes g.C.Carrier.plays g.P.Fabric.slots g.P.Fabric.moves old old_spare c.args.self.now.on.items c.args.self.now.spare.items c.args.self.now.heading c.args.self.now.lines c.args.self.now.exchange c.args.self.now.linked ls [] said h in
    omega (arith, few)

pub returns-then-is_none-clause-stranded : goal.returns-then-is_none-clause-stranded
returns-then-is_none-clause-stranded g c failed old old_spare ls front h =
    rw (c.refuse.ensures.kept (err_is _ _ failed)) (interrupted_last (λ m. (goal.Meter-dyn g (m.vtable, m.value)).stands m.value) (λ m. (goal.Meter-dyn g (m.vtable, m.value)).text m.value) g.C.Carrier.carries g.C.Carrier.next g.C.Carrier.sizes g.C.Carrier.plays g.P.Fabric.slots g.P.Fabric.moves old old_spare c.args.self.now.on.items c.args.self.now.spare.items c.args.self.now.heading c.args.self.now.lines c.args.self.now.exchange c.args.self.now.linked ls (front ++ c.args.out.now.items) [] h)

pub returns-in-Ok-clause-done : goal.returns-in-Ok-clause-done
returns-in-Ok-clause-done g c old old_spare ls front h =
    let known = known_there c.sizes.result (c.is_none.ensures ∙ ap not c.if-is_none.false) in
    let is = ap (λ k. k.sizes) (sym c.plain.ensures) ∙ (sym c.sizes.ensures ∙ known.1) in
    elim c.if-is_empty.branch [
      | then-is_empty w ↦
          let none = sym c.linked.ensures ∙ (sym c.as_slice.ensures ∙ none_listed c.as_slice.result.now (sym c.is_empty.ensures ∙ w.if-is_empty.true)) in
          let heard = finish_heard (λ m. (goal.Meter-dyn g (m.vtable, m.value)).stands m.value) (λ m. (goal.Meter-dyn g (m.vtable, m.value)).text m.value) g.C.Carrier.carries g.C.Carrier.next g.C.Carrier.sizes g.C.Carrier.plays g.P.Fabric.slots g.P.Fabric.moves old old_spare c.args.self.now.on.items c.args.self.now.spare.items c.args.self.now.heading c.args.self.now.lines c.args.self.now.exchange c.args.self.now.linked ls front c.args.out.now.items h known.0 is none in
          rw w.self-is (finished (λ m. (goal.Meter-dyn g (m.vtable, m.value)).stands m.value) (λ m. (goal.Meter-dyn g (m.vtable, m.value)).text m.value) g.C.Carrier.carries g.C.Carrier.next g.C.Carrier.sizes g.C.Carrier.plays g.P.Fabric.slots g.P.Fabric.moves old old_spare c.args.self.now.on.items c.args.self.now.spare.items c.args.self.now.heading c.args.self.now.lines c.args.self.now.exchange c.args.self.now.linked ls front c.args.out.now.items h known.0 is none w.ready-made.new.exchange (of_ok w.ready-made.result c.in-Ok.field-0 (sym w.made-is ∙ c.in-Ok.is) (rw w.plain-then-is_empty.ensures at w.ready-made.ensures.running (plain_told h.told) known.0 heard)))
      | else-is_empty w ↦
          let some = subst (λ (l : List ℕ). 1 ≤ length l) (c.as_slice.ensures ∙ c.linked.ensures) (some_listed c.as_slice.result.now (sym c.is_empty.ensures ∙ w.if-is_empty.false)) in
          let heard = finish_linked (λ m. (goal.Meter-dyn g (m.vtable, m.value)).stands m.value) (λ m. (goal.Meter-dyn g (m.vtable, m.value)).text m.value) g.C.Carrier.carries g.C.Carrier.next g.C.Carrier.sizes g.C.Carrier.plays g.P.Fabric.slots g.P.Fabric.moves old old_spare c.args.self.now.on.items c.args.self.now.spare.items c.args.self.now.heading c.args.self.now.lines c.args.self.now.exchange c.args.self.now.linked ls front c.args.out.now.items h known.0 is some in
          rw w.self-is (finished_linked (λ m. (goal.Meter-dyn g (m.vtable, m.value)).stands m.value) (λ m. (goal.Meter-dyn g (m.vtable, m.value)).text m.value) g.C.Carrier.carries g.C.Carrier.next g.C.Carrier.sizes g.C.Carrier.plays g.P.Fabric.slots g.P.Fabric.moves old old_spare c.args.self.now.on.items c.args.self.now.spare.items c.args.self.now.heading c.args.self.now.lines c.args.self.now.exchange c.args.self.now.linked ls front c.args.out.now.items h known.0 is some w.ready_linked-made.new.exchange (of_ok w.ready_linked-made.result c.in-Ok.field-0 (sym w.made-is ∙ c.in-Ok.is) (w.ready_linked-made.ensures.running h.told known.0 heard)))
    ]

pub returns-in-Err-clause-stranded : goal.returns-in-Err-clause-stranded
returns-in-Err-clause-stranded g c failed old old_spare ls front h =
    elim c.if-is_empty.branch [
      | then-is_empty w ↦ rw w.self-is (interrupted_last (λ m. (goal.Meter-dyn g (m.vtable, m.value)).stands m.value) (λ m. (goal.Meter-dyn g (m.vtable, m.value)).text m.value) g.C.Carrier.carries g.C.Carrier.next g.C.Carrier.sizes g.C.Carrier.plays g.P.Fabric.slots g.P.Fabric.moves old old_spare c.args.self.now.on.items c.args.self.now.spare.items c.args.self.now.heading c.args.self.now.lines c.args.self.now.exchange c.args.self.now.linked ls (front ++ c.args.out.now.items) [] h)
      | else-is_empty w ↦ rw w.self-is (interrupted_last (λ m. (goal.Meter-dyn g (m.vtable, m.value)).stands m.value) (λ m. (goal.Meter-dyn g (m.vtable, m.value)).text m.value) g.C.Carrier.carries g.C.Carrier.next g.C.Carrier.sizes g.C.Carrier.plays g.P.Fabric.slots g.P.Fabric.moves old old_spare c.args.self.now.on.items c.args.self.now.spare.items c.args.self.now.heading c.args.self.now.lines c.args.self.now.exchange c.args.self.now.linked ls (front ++ c.args.out.now.items) [] h)
    ]
