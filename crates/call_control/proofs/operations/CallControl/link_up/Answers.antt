use Rattle.std.proofs.Common.{◌≡◌, ◌<◌, ◌≤◌, [], false, List, length, refl, sym, ◌∙◌, ap, subst, arith}
use Rattle.circuit_model.specs.declared.channel.Slot.{Slot}
use Rattle.tone_rules.specs.declared.tones.Tones.{Tones}
use Rattle.exchange_events.specs.declared.signal.Signal.{Signal}
use Rattle.exchange_events.specs.Sizes.{Dimensions}
use Rattle.call_profile.specs.LegStanding.{LegsStand}
use Rattle.call_profile.specs.Legs.{Legs}
use Rattle.call_profile.specs.LinkChanges.{resume_slot, restarts_interface, rule_of, with_line}
use Rattle.call_profile.specs.Operations.{making_after_all}
use Rattle.call_profile.specs.Restarts.{MessageOutcome, outcome_below}
use Rattle.call_profile.proofs.LinkLemmas.{resume_slot_told}
use Rattle.call_control.specs.Standing.{Holds, Makes}
use Rattle.call_control.proofs.LinkMakingLemmas.{established_made, linked_holds, none_ruled, ruled_kept, step_ruled}
use Rattle.call_control.proofs.RestartMakingLemmas.{same_sizes, sizes_then}
use Rattle.call_control.proofs.operations.CallControl.link_up.Goals as goal

pub loop-place-init : goal.loop-place-init
loop-place-init g c = (
  λ s w tones work. none_ruled s.dimensions (rule_of s.tones c.restarts_interface-whole.result false) c.args.line (with_line w c.args.line false) _ _ _ _ _
      (subst (λ (ls : Legs). Holds s.dimensions c.args.self.now.map ls (with_line w c.args.line false)) (sym c.set_link.ensures) (linked_holds s.dimensions c.args.self.now.map c.args.self.now.legs w c.args.line false work.holds))
      c.requires.fresh.0 c.requires.fresh.1 refl,
  subst (λ (list : List Signal). length list ≤ 0) (sym c.requires.fresh.0) (omega arith),
  c.requires.fresh.1,
  same_sizes c.args.self.now.map,
)

pub resume_slot-requires-clause-work : goal.resume_slot-requires-clause-work
resume_slot-requires-clause-work g c =
    let s = c.requires.work.0 in
    let w = c.requires.work.1 in
    let tones = c.requires.work.2 in
    let work = c.requires.work.3 in
    let small : c.loop-place.place ≤ 30 = omega (arith, c.loop-place-test.true) in
    let below : c.args.line < s.dimensions.external = subst (λ (d : Dimensions). c.args.line < d.external) work.holds.sizes c.requires.line in
    let a = outcome_below s.dimensions (rule_of s.tones c.restarts_interface-whole.result false) c.args.line (with_line w c.args.line false) c.loop-place.place in (
      s.dimensions,
      a.making.world,
      (c.loop-place.invariant.0 s w tones work).0.holds,
      subst (λ (t : Tones). LegsStand s.dimensions.external t a.making.world) tones
          (ruled_kept s.dimensions s.tones c.restarts_interface-whole.result false c.args.line w below (work.circuits, work.stand) c.loop-place.place small).1,
    )

pub loop-place-preserved : goal.loop-place-preserved
loop-place-preserved g c =
    let done = c.resume_slot.ensures in
    let so_far = c.loop-place.invariant in (
      λ s w tones work.
          let small : c.loop-place.place < 30 = omega (arith, c.loop-place-test.true) in
          let below : c.args.line < s.dimensions.external = subst (λ (d : Dimensions). c.args.line < d.external) work.holds.sizes c.requires.line in
          let first = so_far.0 s w tones work in
          let a = outcome_below s.dimensions (rule_of s.tones c.restarts_interface-whole.result false) c.args.line (with_line w c.args.line false) c.loop-place.place in
          let kept = ruled_kept s.dimensions s.tones c.restarts_interface-whole.result false c.args.line w below (work.circuits, work.stand) c.loop-place.place (omega (arith, small)) in
          let after = c.resume_slot.new in
          let at : Slot = record { line = c.args.line; place = c.loop-place.place } in
          let makes = subst (λ (t : Tones). Makes s.dimensions after.self.map after.self.legs after.out.sends after.out.moved
          (making_after_all s.dimensions a.making (resume_slot t c.restarts_interface-whole.result a.making.world.legs at))) (sym tones) (done.makes s.dimensions a.making first.0) in
          step_ruled s.dimensions (rule_of s.tones c.restarts_interface-whole.result false) c.args.line (with_line w c.args.line false) c.loop-place.place _ _ _ _ [] [] [] first.1
          makes
          (resume_slot_told s.dimensions s.tones a.making at kept (below, small) c.restarts_interface-whole.result)
          refl,
      (let a = done.few in let b = so_far.1 in omega (arith, a, b)),
      done.moved ∙ so_far.2,
      sizes_then _ _ _ so_far.3 done.sizes,
    )

pub returns-clause-makes : goal.returns-clause-makes
returns-clause-makes g c s w tones work =
    let end : c.loop-place.place ≡ 30 = omega (arith, c.loop-place-test.false, c.loop-place.auto.place-end) in
    let d = s.dimensions in
    let line = c.args.line in
    let whole = c.restarts_interface-whole.result in
    let map = c.loop-place.self.map in
    let legs = c.loop-place.self.legs in
    let base = subst (λ n. Makes d map legs c.loop-place.out.sends c.loop-place.out.moved (outcome_below d (rule_of s.tones whole false) line (with_line w line false) n).making) end (c.loop-place.invariant.0 s w tones work).0 in
    let a : MessageOutcome = outcome_below d (rule_of s.tones whole false) line (with_line w line false) 30 in
    let is = c.restarts_interface-whole.ensures ∙ ap (λ (ls : Legs). restarts_interface ls line) work.holds.legs_are in
    established_made d s.tones map legs c.request_restart.new.out.sends c.request_restart.new.out.moved line w whole is (c.request_restart.ensures.makes d map legs a base)
