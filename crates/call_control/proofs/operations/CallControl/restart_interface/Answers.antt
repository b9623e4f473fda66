use Rattle.std.proofs.Common.{◌≡◌, ◌<◌, ◌≤◌, List, length, sym, ◌∙◌, ap, subst, arith}
use Rattle.circuit_model.specs.declared.channel.Slot.{Slot}
use Rattle.tone_rules.specs.declared.tones.Tones.{Tones}
use Rattle.exchange_events.specs.declared.record.CallRecord.{CallRecord}
use Rattle.exchange_events.specs.declared.signal.Signal.{Signal}
use Rattle.exchange_events.specs.Sizes.{Dimensions}
use Rattle.call_profile.specs.EndedCalls.{slot_records}
use Rattle.call_profile.specs.LegStanding.{LegsStand}
use Rattle.call_states.specs.Conditions.{unanswered}
use Rattle.call_profile.specs.Legs.{Legs, is_down}
use Rattle.call_profile.specs.LinkChanges.{give_up_rule, give_up_slot, whole_line}
use Rattle.call_profile.specs.Operations.{making_after_all}
use Rattle.call_profile.specs.Restarts.{MessageOutcome, outcome_below}
use Rattle.call_profile.proofs.GivenUpSlotLemmas.{give_up_told}
use Rattle.call_profile.proofs.RestartedSlotLemmas.{line_restart_recorded}
use Rattle.call_control.specs.Standing.{Makes}
use Rattle.call_control.proofs.LineRestartMakingLemmas.{given_up_kept, line_restart_made}
use Rattle.call_control.proofs.LinkMakingLemmas.{none_ruled, step_ruled}
use Rattle.call_control.proofs.RestartMakingLemmas.{same_sizes, sizes_then}
use Rattle.call_control.proofs.operations.CallControl.restart_interface.Goals as goal

pub loop-place-init : goal.loop-place-init
loop-place-init g c = (
  λ s w tones work. none_ruled s.dimensions (give_up_rule s.tones c.unanswered-condition.result) c.args.line w _ _ _ _ _ work.holds c.requires.fresh.0 c.requires.fresh.1 c.new-records.ensures,
  subst (λ (list : List Signal). length list ≤ 0) (sym c.requires.fresh.0) (omega arith),
  subst (λ (list : List CallRecord). length list ≤ 0) (sym c.new-records.ensures) (omega arith),
  c.requires.fresh.1,
  same_sizes c.args.self.now.map,
)

pub give_up_slot-requires-clause-work : goal.give_up_slot-requires-clause-work
give_up_slot-requires-clause-work g c =
    let s = c.requires.work.0 in
    let w = c.requires.work.1 in
    let tones = c.requires.work.2 in
    let work = c.requires.work.3 in
    let small : c.loop-place.place ≤ 30 = omega (arith, c.loop-place-test.true) in
    let below : c.args.line < s.dimensions.external = subst (λ (d : Dimensions). c.args.line < d.external) work.holds.sizes c.requires.line in
    let a = outcome_below s.dimensions (give_up_rule s.tones c.unanswered-condition.result) c.args.line w c.loop-place.place in (
      s.dimensions,
      a.making.world,
      (c.loop-place.invariant.0 s w tones work).0.holds,
      subst (λ (t : Tones). LegsStand s.dimensions.external t a.making.world) tones
          (given_up_kept s.dimensions s.tones c.unanswered-condition.result c.args.line w below (work.circuits, work.stand) c.loop-place.place small).1,
    )

pub loop-place-preserved : goal.loop-place-preserved
loop-place-preserved g c =
    let done = c.give_up_slot.ensures in
    let so_far = c.loop-place.invariant in (
      λ s w tones work.
          let small : c.loop-place.place < 30 = omega (arith, c.loop-place-test.true) in
          let below : c.args.line < s.dimensions.external = subst (λ (d : Dimensions). c.args.line < d.external) work.holds.sizes c.requires.line in
          let condition = c.unanswered-condition.result in
          let first = so_far.0 s w tones work in
          let a = outcome_below s.dimensions (give_up_rule s.tones condition) c.args.line w c.loop-place.place in
          let kept = given_up_kept s.dimensions s.tones condition c.args.line w below (work.circuits, work.stand) c.loop-place.place (omega (arith, small)) in
          let after = c.give_up_slot.new in
          let at : Slot = record { line = c.args.line; place = c.loop-place.place } in
          let makes = subst (λ (t : Tones). Makes s.dimensions after.self.map after.self.legs after.out.sends after.out.moved
          (making_after_all s.dimensions a.making (give_up_slot t condition a.making.world.legs at))) (sym tones) (done.makes s.dimensions a.making first.0) in
          step_ruled s.dimensions (give_up_rule s.tones condition) c.args.line w c.loop-place.place _ _ _ _ c.loop-place.records _ (slot_records whole_line a.making.world at) first.1
          makes
          (give_up_told s.dimensions s.tones condition a.making at kept (below, small))
          (done.records s.dimensions a.making.world first.0.holds),
      (let a = done.few.0 in let b = so_far.1 in omega (arith, a, b)),
      (let a = done.few.1 in let b = so_far.2 in omega (arith, a, b)),
      done.moved ∙ so_far.3,
      sizes_then _ _ _ so_far.4 done.sizes,
    )

pub returns-clause-makes : goal.returns-clause-makes
returns-clause-makes g c s w tones work =
    let end : c.loop-place.place ≡ 30 = omega (arith, c.loop-place-test.false, c.loop-place.auto.place-end) in
    let d = s.dimensions in
    let line = c.args.line in
    let condition = c.unanswered-condition.result in
    let map = c.loop-place.self.map in
    let legs = c.loop-place.self.legs in
    let base = subst (λ n. Makes d map legs c.loop-place.out.sends c.loop-place.out.moved (outcome_below d (give_up_rule s.tones condition) line w n).making) end (c.loop-place.invariant.0 s w tones work).0 in
    let a : MessageOutcome = outcome_below d (give_up_rule s.tones condition) line w 30 in
    let is = c.is_down-down.ensures ∙ ap (λ (ls : Legs). is_down ls line) work.holds.legs_are in
    line_restart_made d s.tones line w c.is_down-down.result condition is c.unanswered-condition.ensures map legs c.request_restart.new.out.sends c.request_restart.new.out.moved (c.request_restart.ensures.makes d map legs a base)

pub returns-clause-records : goal.returns-clause-records
returns-clause-records g c s w tones work =
    let end : c.loop-place.place ≡ 30 = omega (arith, c.loop-place-test.false, c.loop-place.auto.place-end) in
    let d = s.dimensions in
    let line = c.args.line in
    let is = c.is_down-down.ensures ∙ ap (λ (ls : Legs). is_down ls line) work.holds.legs_are in
    let told = subst (λ n. c.loop-place.records ≡ (outcome_below d (give_up_rule s.tones c.unanswered-condition.result) line w n).recorded) end (c.loop-place.invariant.0 s w tones work).1 in
    told ∙ ap (λ condition. (outcome_below d (give_up_rule s.tones condition) line w 30).recorded) (c.unanswered-condition.ensures ∙ ap unanswered is) ∙ sym (line_restart_recorded d s.tones line w)
