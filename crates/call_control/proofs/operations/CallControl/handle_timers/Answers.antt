use Rattle.std.proofs.Common.{◌≡◌, ℕ, ◌<◌, ◌≤◌, ◌%◌, ◌++◌, List, length, sym, ◌∙◌, ap, subst, arith}
use Rattle.circuit_model.specs.declared.channel.Slot.{Slot}
use Rattle.exchange_events.specs.declared.record.CallRecord.{CallRecord}
use Rattle.exchange_events.specs.declared.signal.Signal.{Signal}
use Rattle.exchange_events.specs.Sizes.{Dimensions}
use Rattle.call_profile.specs.EndedCalls.{expired_records}
use Rattle.call_profile.specs.Expiring.{slot_looked_at, expire_slot, outcome_of_lines}
use Rattle.call_profile.specs.Legs.{Legs}
use Rattle.call_profile.specs.Operations.{making_after_all}
use Rattle.call_control.specs.Standing.{Makes}
use Rattle.call_control.proofs.ExpireMakingLemmas.{no_line_done, line_done, nothing_due}
use Rattle.call_control.proofs.RestartMakingLemmas.{same_sizes, sizes_then}
use Rattle.call_profile.proofs.ExpiringLemmas.{lines_kept}
use Rattle.call_control.proofs.operations.CallControl.handle_timers.Goals as goal

pub returns-then-not-may_be_due-clause-makes : goal.returns-then-not-may_be_due-clause-makes
returns-then-not-may_be_due-clause-makes g c s w tones timers work =
    let place = ap (λ (n : ℕ). c.args.frame % n) c.from.ensures in
    (nothing_due s c.args.frame _ c.args.timers.now w _ _ _ _ _ work.holds c.requires.fresh.0 c.requires.fresh.1 c.requires.fresh.2 timers place (c.may_be_due.ensures c.if-not-may_be_due.true)).0

pub returns-then-not-may_be_due-clause-records : goal.returns-then-not-may_be_due-clause-records
returns-then-not-may_be_due-clause-records g c s w tones timers work =
    let place = ap (λ (n : ℕ). c.args.frame % n) c.from.ensures in
    (nothing_due s c.args.frame _ c.args.timers.now w _ _ _ _ _ work.holds c.requires.fresh.0 c.requires.fresh.1 c.requires.fresh.2 timers place (c.may_be_due.ensures c.if-not-may_be_due.true)).1

pub loop-line-init : goal.loop-line-init
loop-line-init g c = (
  λ s w tones timers work. no_line_done s c.args.frame w _ _ _ _ _ work.holds c.requires.fresh.0 c.requires.fresh.1 c.requires.fresh.2,
  subst (λ (list : List Signal). length list ≤ 0) (sym c.requires.fresh.0) (omega arith),
  subst (λ (list : List CallRecord). length list ≤ 0) (sym c.requires.fresh.2) (omega arith),
  c.requires.fresh.1,
  same_sizes c.args.self.now.map,
)

pub expire_slot-requires-clause-work : goal.expire_slot-requires-clause-work
expire_slot-requires-clause-work g c =
    let s = c.requires.work.0 in
    let w = c.requires.work.1 in
    let tones = c.requires.work.2 in
    let timers = c.requires.work.3 in
    let work = c.requires.work.4 in
    let few : c.args.external ≡ s.dimensions.external = subst (λ (d : Dimensions). c.args.external ≡ d.external) work.holds.sizes c.requires.lines.0 in
    let small : c.loop-line.line ≤ s.dimensions.external = omega (arith, few, c.loop-line-test.true) in
    let kept = lines_kept s c.args.frame w (work.circuits, work.stand) c.loop-line.line small in (
      s,
      (outcome_of_lines s c.args.frame w c.loop-line.line).making.world,
      tones,
      timers,
      record { holds = (c.loop-line.invariant.0 s w tones timers work).0.holds; circuits = kept.0; stand = kept.1 },
    )

pub loop-line-preserved : goal.loop-line-preserved
loop-line-preserved g c =
    let done = c.expire_slot.ensures in
    let so_far = c.loop-line.invariant in (
      λ s w tones timers work.
          let few : c.args.external ≡ s.dimensions.external = subst (λ (d : Dimensions). c.args.external ≡ d.external) work.holds.sizes c.requires.lines.0 in
          let small : c.loop-line.line < s.dimensions.external = omega (arith, few, c.loop-line-test.true) in
          let first = so_far.0 s w tones timers work in
          let made = (outcome_of_lines s c.args.frame w c.loop-line.line).making in
          let after = c.expire_slot.new in
          let at : Slot = record { line = c.loop-line.line; place = c.args.frame % c.from.result } in
          let place : at ≡ slot_looked_at c.args.frame c.loop-line.line = ap (λ (n : ℕ). let x : Slot = record { line = c.loop-line.line; place = c.args.frame % n } in x) c.from.ensures in
          let makes = subst (λ (x : Slot). Makes s.dimensions after.self.map after.self.legs after.out.sends after.out.moved
          (making_after_all s.dimensions made (expire_slot s c.args.frame made.world.legs x))) place (done.makes s made tones timers first.0) in
          let recorded = subst (λ (x : Slot). after.out.records ≡ c.loop-line.out.records ++ expired_records s c.args.frame made.world x) place (done.records s made.world timers first.0.holds) in
          line_done s c.args.frame w c.loop-line.line _ _ _ _ c.loop-line.out.records _ (work.circuits, work.stand) small first.1 makes recorded,
      (let a = done.few.0 in let b = so_far.1 in omega (arith, a, b)),
      (let a = done.few.1 in let b = so_far.2 in omega (arith, a, b)),
      done.moved ∙ so_far.3,
      sizes_then _ _ _ so_far.4 done.sizes,
    )

pub returns-clause-makes : goal.returns-clause-makes
returns-clause-makes g c s w tones timers work =
    let few : c.args.external ≡ s.dimensions.external = subst (λ (d : Dimensions). c.args.external ≡ d.external) work.holds.sizes c.requires.lines.0 in
    let end : c.loop-line.line ≡ s.dimensions.external = omega (arith, few, c.loop-line-test.false, c.loop-line.auto.line-end) in
    let legs : Legs → Type 0 = λ (ls : Legs). Makes s.dimensions c.loop-line.self.map ls c.loop-line.out.sends c.loop-line.out.moved (outcome_of_lines s c.args.frame w s.dimensions.external).making in
    subst legs (sym c.update_due_frame.ensures)
    (subst (λ n. Makes s.dimensions c.loop-line.self.map c.loop-line.self.legs c.loop-line.out.sends c.loop-line.out.moved (outcome_of_lines s c.args.frame w n).making) end
    (c.loop-line.invariant.0 s w tones timers work).0)
