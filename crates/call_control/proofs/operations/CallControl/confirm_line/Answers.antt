use Rattle.std.proofs.Common.{◌≡◌, ◌*◌, ◌<◌, length, refl, sym, ◌∙◌, ap, subst, arith}
use Rattle.circuit_model.specs.declared.channel.Slot.{Slot}
use Rattle.circuit_map.specs.Connections.{Connections}
use Rattle.exchange_events.specs.Sizes.{Dimensions}
use Rattle.call_profile.specs.Legs.{Legs}
use Rattle.call_profile.specs.Operations.{making_after_all}
use Rattle.call_profile.specs.Restarts.{confirm_rule, confirm_slot, outcome_below}
use Rattle.call_control.specs.Standing.{Makes}
use Rattle.call_control.proofs.ConfirmMakingLemmas.{confirm_step}
use Rattle.call_control.proofs.LinkMakingLemmas.{none_ruled}
use Rattle.call_control.proofs.operations.CallControl.confirm_line.Goals as goal

pub loop-place-init : goal.loop-place-init
loop-place-init g c =
    let work = c.requires.work.2 in (
      λ s w at. none_ruled s.dimensions (confirm_rule c.args.acknowledged) c.args.line w _ _ _ _ _ at.holds c.requires.fresh.0 c.requires.fresh.1 refl,
      refl,
      ap (λ (ls : Legs). length ls.held) work.holds.legs_are ∙ work.stands.legs.count ∙ ap (λ (d : Dimensions). 30 * d.external) (sym work.holds.sizes),
    )

pub loop-place-preserved : goal.loop-place-preserved
loop-place-preserved g c =
    let done = c.confirm_slot.ensures in
    let so_far = c.loop-place.invariant in (
      λ s w work.
          let small : c.loop-place.place < 30 = omega (arith, c.loop-place-test.true) in
          let below : c.args.line < s.dimensions.external = subst (λ (d : Dimensions). c.args.line < d.external) work.holds.sizes c.requires.line in
          let first = so_far.0 s w work in
          let m = (outcome_below s.dimensions (confirm_rule c.args.acknowledged) c.args.line w c.loop-place.place).making in
          let at : Slot = record { line = c.args.line; place = c.loop-place.place } in
          let after = c.confirm_slot.new.self in
          let one = done.makes s.dimensions m (record { holds = first.0.holds; sent = refl; moves = refl }) in
          let by = subst (λ (ls : Legs). Makes s.dimensions after.map after.legs m.sends m.moves (making_after_all s.dimensions m (confirm_slot c.args.acknowledged ls at)))
          first.0.holds.legs_are one in
          confirm_step s.dimensions s.tones c.args.acknowledged c.args.line w c.loop-place.place _ _ _ _ below (work.stands.circuits, work.stands.legs) small first.1
          (record { holds = by.holds; sent = first.0.sent ∙ by.sent; moves = first.0.moves ∙ by.moves }),
      done.map ∙ so_far.1,
      done.count ∙ so_far.2 ∙ ap (λ (map : Connections). 30 * map.external) (sym done.map),
    )

pub returns-clause-makes : goal.returns-clause-makes
returns-clause-makes g c s w work =
    let end : c.loop-place.place ≡ 30 = omega (arith, c.loop-place-test.false, c.loop-place.auto.place-end) in
    subst (λ n. Makes s.dimensions c.loop-place.self.map c.loop-place.self.legs c.args.out.now.sends c.args.out.now.moved (outcome_below s.dimensions (confirm_rule c.args.acknowledged) c.args.line w n).making)
    end (c.loop-place.invariant.0 s w work).0
