use Rattle.std.proofs.Common.{length, ap, ◌∙◌, arith}
use Rattle.std.specs.Prelude.{vec_capacity}
use Rattle.exchange_core.proofs.StepLemmas.{IsWorking_begins}
use Rattle.exchange_core.proofs.step.Core.new.Goals as goal

pub invariant_of-result : goal.invariant_of-result
invariant_of-result g c =
    let e = c.in_ok-new-2.ensures in
    let room = c.in_ok-journal.ensures.capacity in
    let events = ap length c.as_slice.ensures in
    IsWorking_begins c.args.trace.now c.in_ok-new-2.field-0 c.in_ok-new.field-0 c.in_ok-journal.journal.items (vec_capacity c.in_ok-journal.journal) c.requires.sound
    e.holds e.external e.bridges (e.paths.0 ∙ c.requires.bare) c.in_ok-new.ensures c.in_ok-journal.ensures.items (omega (arith, room, events))
