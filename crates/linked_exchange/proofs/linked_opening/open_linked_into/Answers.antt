use Rattle.std.proofs.Common.{ap, arith, length, subst, sym, ◌∙◌}
use Rattle.std.proofs.lemmas.List.FromFn.{length-map-range_with_len}
use Rattle.number_plan.specs.Plan.{is_listed}
use Rattle.linked_exchange.specs.LinkedStepping.{IsLinkedRunning}
use Rattle.linked_exchange.proofs.LinkedSteppingLemmas.{linked_new, settings_are, settings_of}
use Rattle.linked_exchange.proofs.linked_opening.open_linked_into.Goals as goal

pub new-requires-clause-linked : goal.new-requires-clause-linked
new-requires-clause-linked g c κs within =
    let long = length-map-range_with_len (λ line. is_listed line c.args.heading.now.linked) 0 c.in-Some.sizes.external in
    let same = ap length (c.as_slice.ensures.value ∙ c.in_ok-row.ensures) in
    omega (arith, same, long)

pub returns : goal.returns
returns g c = record {
  running = λ told z heard.
      let is = settings_are c.args.heading.now c.plain-plain.result.now c.plan.result.now c.tones.result.now c.timers-timers.result c.link_timers-link_timers.result c.plain-plain.ensures c.plan.ensures c.tones.ensures c.timers-timers.ensures c.link_timers-link_timers.ensures in
      subst (λ x. IsLinkedRunning g.C.Carrier.carries g.C.Carrier.next g.C.Carrier.sizes g.P.Fabric.slots g.P.Fabric.moves told z x) (sym c.replace.ensures.after)
      (linked_new g.C.Carrier.carries g.C.Carrier.next g.C.Carrier.sizes g.P.Fabric.slots g.P.Fabric.moves told z c.args.heading.now c.args.exchange.now c.in_ok-opened.opened c.in-Some.sizes
      (settings_of c.plan.result.now c.tones.result.now c.timers-timers.result c.link_timers-link_timers.result) c.as_slice.result.now _
      c.requires.none (c.in-Some.ensures ∙ ap (λ k. k.sizes) c.plain-plain.ensures) is
      (c.as_slice.ensures.value ∙ c.in_ok-row.ensures) c.in_ok-paths.ensures.depth c.in_ok-opened.ensures.start (c.in_ok-opened.ensures.bound ∙ c.in_ok-paths.ensures.bound) heard);
}
