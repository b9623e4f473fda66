use Rattle.std.proofs.Common.{◌++◌, length, refl, ap, ◌∙◌}
use Rattle.exchange_core.specs.Boards.{Board}
use Rattle.exchange_core.specs.Working.{order_of}
use Rattle.run_verifier.specs.declared.ending.Ending.TheVariants as ended
use Rattle.exchange_run.specs.Outcomes.{Runs, parties}
use Rattle.exchange_run.specs.Running.{ending_of, engine_of, fabric_at}
use Rattle.ex_io.specs.Streams.{stream}
use Rattle.linked_exchange.specs.Parties.{meter_story}
use Rattle.exchange_run.proofs.Endings.{runs_so}
use Rattle.exchange_run.proofs.Sums.{fits_order, moved}
use Rattle.linked_exchange.proofs.Tellings.{none_beyond}
use Rattle.exchange_run.proofs.Underway.{IsRunInterrupted_none, ending_memory, no_engine_of}
use Rattle.exchange_run.proofs.run.run.Goals as goal

pub returns-in_err-board-clause-runs : goal.returns-in_err-board-clause-runs
returns-in_err-board-clause-runs g c = runs_so _ _ _ _ ended.OutOfMemory _ (ending_memory _ c.from_residual.ensures.1)
    (IsRunInterrupted_none _ _ _ _ _ _ _ _ _ _ _ c.requires.empty refl (none_beyond _ _ _ _) (no_engine_of _ _ c.from_residual.ensures.1))

pub note_order-requires : goal.note_order-requires
note_order-requires g c = record {
  room = fits_order _ _ _ _ _ _ c.requires.empty (c.journal-2.ensures ∙ c.close.ensures.journal) c.report_segments-done.ensures.chief
      (ap (λ (b : Board). length b.trace.events) c.in_ok-board.ensures.board) c.requires.room;
}

pub returns-clause-runs : goal.returns-clause-runs
returns-clause-runs g c =
    let journal = c.journal-2.ensures ∙ c.close.ensures.journal in
    let order = c.note_order.ensures ∙ (λ i. c.requires.empty i ++ order_of (journal i)) in
    let done = c.report_segments-done in
    let meters = meter_story (λ m. (goal.Meter-dyn g (m.vtable, m.value)).stands m.value) (λ m. (goal.Meter-dyn g (m.vtable, m.value)).text m.value) c.args.metering.now.on.items c.args.metering.now.spare.items done.new.metering.on.items done.new.metering.spare.items in
    moved (λ b o. Runs (parties g.C.Carrier (engine_of done.result) o meters (stream g.K.Sink.written g.K.Sink.faults c.args.sink.now done.new.sink))
    (fabric_at b) g.L.ListingKind.listing b.trace (ending_of done.result))
    _ _ _ _ c.in_ok-board.ensures.board order done.ensures.runs
