use Rattle.std.proofs.Common.{◌≡◌, ◌<◌, ◌≤◌, List, length, sym, ◌∙◌, subst, arith}
use Rattle.q931_codec.specs.Outgoing.{IsWritable, outgoing_of}
use Rattle.clearing_rules.specs.Restarting.{acknowledgement}
use Rattle.circuit_model.specs.declared.channel.Slot.{Slot}
use Rattle.tone_rules.specs.declared.tones.Tones.{Tones}
use Rattle.exchange_events.specs.declared.record.CallRecord.{CallRecord}
use Rattle.exchange_events.specs.declared.signal.Signal.{Signal}
use Rattle.call_profile.specs.LegStanding.{LegsStand}
use Rattle.call_profile.specs.Operations.{making_after_all}
use Rattle.call_profile.specs.Restarts.{restart_slot, outcome_below, restart_rule}
use Rattle.call_control.specs.Standing.{Makes}
use Rattle.exchange_events.specs.Sizes.{Dimensions}
use Rattle.call_control.proofs.MakingLemmas.{makes_send}
use Rattle.call_profile.proofs.RestartLemmas.{acknowledgement_writable, below_kept}
use Rattle.call_control.proofs.RestartMakingLemmas.{outcome_below_none, same_sizes, sizes_then, outcome_below_step}
use Rattle.call_control.proofs.operations.CallControl.restart_line.Goals as goal

pub loop-place-init : goal.loop-place-init
loop-place-init g c = (
  λ s w tones work. outcome_below_none s.dimensions s.tones c.args.asked c.args.line w _ _ _ _ _ work.holds c.requires.fresh.0 c.requires.fresh.1 c.new-records.ensures,
  subst (λ (list : List Signal). length list ≤ 0) (sym c.requires.fresh.0) (omega arith),
  subst (λ (list : List CallRecord). length list ≤ 0) (sym c.new-records.ensures) (omega arith),
  c.requires.fresh.1,
  same_sizes c.args.self.now.map,
)

pub restart_slot-requires-clause-work : goal.restart_slot-requires-clause-work
restart_slot-requires-clause-work g c =
    let s = c.requires.work.0 in
    let w = c.requires.work.1 in
    let tones = c.requires.work.2 in
    let work = c.requires.work.3 in
    let small : c.loop-place.place ≤ 30 = omega (arith, c.loop-place-test.true) in
    let below : c.args.line < s.dimensions.external = subst (λ (d : Dimensions). c.args.line < d.external) work.holds.sizes c.requires.line in (
      s.dimensions,
      (outcome_below s.dimensions (restart_rule s.tones c.args.asked) c.args.line w c.loop-place.place).making.world,
      (c.loop-place.invariant.0 s w tones work).0.holds,
      subst (λ (t : Tones). LegsStand s.dimensions.external t (outcome_below s.dimensions (restart_rule s.tones c.args.asked) c.args.line w c.loop-place.place).making.world) tones
          (below_kept s.dimensions s.tones c.args.asked c.args.line w below (work.stands.circuits, work.stands.legs) c.loop-place.place small).1,
    )

pub loop-place-preserved : goal.loop-place-preserved
loop-place-preserved g c =
    let done = c.restart_slot.ensures in
    let so_far = c.loop-place.invariant in (
      λ s w tones work.
          let small : c.loop-place.place < 30 = omega (arith, c.loop-place-test.true) in
          let below : c.args.line < s.dimensions.external = subst (λ (d : Dimensions). c.args.line < d.external) work.holds.sizes c.requires.line in
          let first = so_far.0 s w tones work in
          let so_far_made = (outcome_below s.dimensions (restart_rule s.tones c.args.asked) c.args.line w c.loop-place.place).making in
          let after = c.restart_slot.new in
          let at : Slot = record { line = c.args.line; place = c.loop-place.place } in
          let makes = subst (λ (t : Tones). Makes s.dimensions after.self.map after.self.legs after.out.sends after.out.moved
          (making_after_all s.dimensions so_far_made (restart_slot t c.args.asked so_far_made.world.legs at))) (sym tones) (done.makes s.dimensions so_far_made first.0) in
          outcome_below_step s.dimensions s.tones c.args.asked c.args.line w c.loop-place.place _ _ _ _ c.loop-place.records _ below (work.stands.circuits, work.stands.legs) small first.1
          makes
          (done.records s.dimensions (outcome_below s.dimensions (restart_rule s.tones c.args.asked) c.args.line w c.loop-place.place).making.world first.0.holds),
      (let a = done.few.0 in let b = so_far.1 in omega (arith, a, b)),
      (let a = done.few.1 in let b = so_far.2 in omega (arith, a, b)),
      done.moved ∙ so_far.3,
      sizes_then _ _ _ so_far.4 done.sizes,
    )

pub send-requires-clause-writable : goal.send-requires-clause-writable
send-requires-clause-writable g c = subst IsWritable (sym c.restart_acknowledge.ensures) (acknowledgement_writable c.args.asked c.requires.on_line)

pub returns-clause-makes : goal.returns-clause-makes
returns-clause-makes g c s w tones work =
    let end : c.loop-place.place ≡ 30 = omega (arith, c.loop-place-test.false, c.loop-place.auto.place-end) in
    let made = subst (λ n. Makes s.dimensions c.loop-place.self.map c.loop-place.self.legs c.loop-place.out.sends c.loop-place.out.moved
    (outcome_below s.dimensions (restart_rule s.tones c.args.asked) c.args.line w n).making) end (c.loop-place.invariant.0 s w tones work).0 in
    makes_send s.dimensions c.loop-place.self.map c.loop-place.self.map c.loop-place.self.legs c.loop-place.self.legs c.loop-place.out.sends c.send.new.out.sends
    c.loop-place.out.moved c.send.new.out.moved (outcome_below s.dimensions (restart_rule s.tones c.args.asked) c.args.line w 30).making made c.args.line (outgoing_of c.restart_acknowledge.result) (acknowledgement c.args.asked)
    c.restart_acknowledge.ensures c.send.ensures.sends c.send.ensures.moved
