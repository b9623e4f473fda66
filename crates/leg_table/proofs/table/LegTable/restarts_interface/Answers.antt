use Rattle.std.proofs.Common.{◌≡◌, ◌<◌, ap, sym, ◌∙◌, arith}
use Rattle.std.specs.Prelude.{◌&&◌, not, is_some}
use Rattle.std.specs.List.{list_any}
use Rattle.call_profile.specs.Legs.{awaits_restart, slots_of}
use Rattle.call_profile.specs.LinkChanges.{is_held}
use Rattle.leg_table.proofs.LineScanLemmas.{so_far_all, so_far_more, so_far_none}
use Rattle.leg_table.proofs.table.LegTable.restarts_interface.Goals as goal

pub loop-place-init : goal.loop-place-init
loop-place-init c = (so_far_none (awaits_restart c.args.self.now) c.args.line, so_far_none (is_held c.args.self.now) c.args.line)

pub loop-place-preserved : goal.loop-place-preserved
loop-place-preserved c =
    let within : c.loop-place.place < 30 = c.loop-place-test.true in (
      so_far_more (awaits_restart c.args.self.now) c.args.line c.loop-place.place c.loop-place.awaited within c.loop-place.invariant.0 c.awaits_restart-awaited.result c.awaits_restart-awaited.ensures,
      so_far_more (is_held c.args.self.now) c.args.line c.loop-place.place c.loop-place.held within c.loop-place.invariant.1 c.is_some-held.result (c.is_some-held.ensures ∙ ap is_some c.get.ensures.found),
    )

pub returns-then-awaited : goal.returns-then-awaited
returns-then-awaited c =
    let end : c.loop-place.place ≡ 30 = omega (arith, c.loop-place-test.false, c.loop-place.auto.place-end) in
    let awaited = so_far_all (awaits_restart c.args.self.now) c.args.line c.loop-place.place c.loop-place.awaited end c.loop-place.invariant.0 ∙ c.if-awaited.true in
    let held = so_far_all (is_held c.args.self.now) c.args.line c.loop-place.place c.loop-place.held end c.loop-place.invariant.1 in
    sym ((λ i. awaited i && not (list_any (is_held c.args.self.now) (slots_of c.args.line))) ∙ ap not held)

pub returns-else-awaited : goal.returns-else-awaited
returns-else-awaited c =
    let end : c.loop-place.place ≡ 30 = omega (arith, c.loop-place-test.false, c.loop-place.auto.place-end) in
    let awaited = so_far_all (awaits_restart c.args.self.now) c.args.line c.loop-place.place c.loop-place.awaited end c.loop-place.invariant.0 in
    c.if-awaited.false ∙ sym (λ i. (awaited ∙ c.if-awaited.false) i && not (list_any (is_held c.args.self.now) (slots_of c.args.line)))
