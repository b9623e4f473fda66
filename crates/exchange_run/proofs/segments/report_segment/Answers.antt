use Rattle.std.proofs.Common.{length, ap, ◌∙◌, arith, subst}
use Rattle.segment_run.proofs.LoadLemmas.{length-events_of_segment-le}
use Rattle.segment_run.proofs.OrderLemmas.{numbers_left, seen_done}
use Rattle.linked_exchange.specs.Telling.{AreTold, AreToldFront}
use Rattle.exchange_run.proofs.Kept.{added, told_behind, told_within}
use Rattle.linked_exchange.proofs.SteppingLemmas.{on_err, on_err_then, on_ok, on_ok_then}
use Rattle.linked_exchange.proofs.Tellings.{none_front}
use Rattle.exchange_run.proofs.segments.report_segment.Goals as goal

pub run_one-requires-clause-may : goal.run_one-requires-clause-may
run_one-requires-clause-may g c lifetimes outlive =
    let within = c.requires.segment in
    let v = g.B.Switchboard.known c.args.seat.now in
    record {
      trace_is = c.requires.trace;
      within = within;
      chief = c.requires.chief;
      numbers = numbers_left c.args.cx.now.trace.now c.args.segment _ c.requires.sound within c.requires.numbers;
      turns = length-events_of_segment-le (g.B.Switchboard.board c.args.cx.now.board.now) c.args.cx.now.trace.now c.args.segment v c.requires.trace c.requires.sound within c.requires.chief
          (seen_done c.args.cx.now.trace.now c.args.segment v c.requires.sound (omega (arith, within)) c.requires.done);
    }

pub returns-in_err-run_one-clause-told_front : goal.returns-in_err-run_one-clause-told_front
returns-in_err-run_one-clause-told_front g c = on_err c.from_residual.result (none_front _ _ _ _)

pub records_after-requires : goal.records_after-requires
records_after-requires g c =
    let a = added _ _ _ _ _ _ _ _ _ c.requires.trace c.run_one.ensures.ran c.requires.kept c.in_ok-run_one.ensures.answered in
    told_within _ _ _ _ _ _ _ a _ (ap length c.records-told.ensures)

pub returns-clause-whole : goal.returns-clause-whole
returns-clause-whole g c = on_ok c.tell.result c.in_ok-run_one.ensures.whole

pub returns-clause-ready : goal.returns-clause-ready
returns-clause-ready g c = on_ok c.tell.result c.in_ok-run_one.ensures.ready

pub returns-clause-added : goal.returns-clause-added
returns-clause-added g c = on_ok c.tell.result (added _ _ _ _ _ _ _ _ _ c.requires.trace c.run_one.ensures.ran c.requires.kept c.in_ok-run_one.ensures.answered)

pub returns-clause-told : goal.returns-clause-told
returns-clause-told g c =
    let a = added _ _ _ _ _ _ _ _ _ c.requires.trace c.run_one.ensures.ran c.requires.kept c.in_ok-run_one.ensures.answered in
    on_ok_then c.tell.result c.tell.ensures.told (subst (AreTold _ _ c.args.meters.now.items c.tell.new.meters.items) (c.records_after.ensures ∙ told_behind _ _ _ _ _ _ _ a _ (ap length c.records-told.ensures)))

pub returns-clause-told_front : goal.returns-clause-told_front
returns-clause-told_front g c =
    let a = added _ _ _ _ _ _ _ _ _ c.requires.trace c.run_one.ensures.ran c.requires.kept c.in_ok-run_one.ensures.answered in
    on_err_then c.tell.result c.tell.ensures.front (subst (AreToldFront _ _ c.args.meters.now.items c.tell.new.meters.items) (c.records_after.ensures ∙ told_behind _ _ _ _ _ _ _ a _ (ap length c.records-told.ensures)))
