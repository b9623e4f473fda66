use Rattle.std.proofs.Common.{ℕ, ◌≡◌, ◌≤◌, List, [], length, ap, sym, ◌∙◌, arith, subst, refl, inl, inr}
use Rattle.std.specs.Prelude.{AllPairs}
use Rattle.ex_io.specs.Ends.{Rose}
use Rattle.exchange_events.specs.declared.trace.Trace.{Trace}
use Rattle.exchange_events.specs.Sound.{IsSound}
use Rattle.call_processor.specs.Frames.{IsReady, IsReadyAt}
use Rattle.segment_run.proofs.OrderLemmas.{few_segments}
use Rattle.run_verifier.specs.declared.ending.Ending.TheVariants as ended
use Rattle.exchange_run.specs.Running.{AreOfAnswers}
use Rattle.exchange_run.proofs.Endings.{runs_so}
use Rattle.exchange_run.proofs.Pending.{at_some}
use Rattle.exchange_run.proofs.Steps.{AreOn_first, first_underway, interrupted_behind, interrupted_first, interrupted_here, next_at, AreOn_then, then_underway, unwritten_here}
use Rattle.exchange_run.proofs.Underway.{ending_memory, ending_write, no_engine_of, run_whole, underway_written}
use Rattle.exchange_run.proofs.segments.report_segments.Goals as goal

pub returns-in_err-made-clause-runs : goal.returns-in_err-made-clause-runs
returns-in_err-made-clause-runs g c = runs_so _ _ _ _ ended.OutOfMemory _ (ending_memory _ c.from_residual.ensures.1)
    (interrupted_first _ _ _ _ g.C.Carrier.plays g.L.ListingKind.listing (g.B.Switchboard.board c.args.cx.now.board.now) c.requires.fresh c.in_err-made.ensures.kept (no_engine_of _ _ c.from_residual.ensures.1))

pub returns-in_err-made-clause-writes : goal.returns-in_err-made-clause-writes
returns-in_err-made-clause-writes g c = inr refl

pub returns-in_err-flush_full-clause-runs : goal.returns-in_err-flush_full-clause-runs
returns-in_err-flush_full-clause-runs g c =
    let from = c.from_residual-in_err-flush_full.ensures.1 in
    runs_so _ _ _ _ ended.WriteFailed _ (ending_write _ from) (
      c.in_err-flush_full.ensures.cause,
      unwritten_here (first_underway _ _ _ _ g.C.Carrier.plays g.L.ListingKind.listing (g.B.Switchboard.board c.args.cx.now.board.now) _ _ c.requires.trace c.as_slice-changes.ensures _ c.requires.fresh _ c.requires.silent _ _ _ _ c.in_ok-made.ensures.done c.requires.blank)
          (AreOn_first _ _ _ _ g.C.Carrier.plays g.L.ListingKind.listing (g.B.Switchboard.board c.args.cx.now.board.now) _ _ c.requires.trace c.as_slice-changes.ensures _ c.requires.fresh _ c.requires.silent _ _ _ _ c.in_ok-made.ensures.done) c.in_err-flush_full.ensures.front (no_engine_of _ _ from),
    )

pub returns-in_err-flush_full-clause-writes : goal.returns-in_err-flush_full-clause-writes
returns-in_err-flush_full-clause-writes g c = inl (ending_write _ c.from_residual-in_err-flush_full.ensures.1)

pub overflow_cast-segment-end : goal.overflow_cast-segment-end
overflow_cast-segment-end g c =
    let few = few_segments c.args.cx.now.trace.now c.requires.sound in
    let most = c.requires.sound.count in
    let same = ap (λ (l : List ℕ). length l) c.as_slice-ends.ensures in
    omega (arith, few, most, same)

pub loop-segment-init : goal.loop-segment-init
loop-segment-init g c = record {
  kept = elim c.in_ok-flush_full.ensures.kept [
    | inl same ↦ ([], same ∙ c.requires.blank)
    | inr none ↦ ([], none)
  ];
  seated = c.requires.seated;
  underway = underway_written _ _ _ _ _ _ _ _ _ _ (first_underway _ _ _ _ g.C.Carrier.plays g.L.ListingKind.listing (g.B.Switchboard.board c.args.cx.now.board.now) _ _ c.requires.trace c.as_slice-changes.ensures _ c.requires.fresh _ c.requires.silent _ _ _ _ c.in_ok-made.ensures.done c.requires.blank) _ _ c.in_ok-flush_full.ensures.flushed _ c.in_ok-flush_full.ensures.silent;
  silent = c.in_ok-flush_full.ensures.silent;
  ready = rw c.requires.fresh c.requires.ready;
  steady = c.in_ok-flush_full.ensures.steady;
  on = AreOn_first _ _ _ _ g.C.Carrier.plays g.L.ListingKind.listing (g.B.Switchboard.board c.args.cx.now.board.now) _ _ c.requires.trace c.as_slice-changes.ensures _ c.requires.fresh _ c.requires.silent _ _ _ _ c.in_ok-made.ensures.done;
}

pub returns-in_err-report_segment-clause-runs : goal.returns-in_err-report_segment-clause-runs
returns-in_err-report_segment-clause-runs g c =
    let from = c.from_residual-in_err-report_segment.ensures.1 in
    runs_so _ _ _ _ ended.OutOfMemory _ (ending_memory _ from)
    (interrupted_here _ _ _ _ g.C.Carrier.plays g.L.ListingKind.listing (g.B.Switchboard.board c.args.cx.now.board.now) _ _ c.requires.trace c.as_slice-changes.ensures _ c.as_slice-ends.ensures c.requires.sound _ _ _ _ _ _ _ _ _ c.loop-segment-test.true c.loop-segment.invariant.underway c.loop-segment.invariant.on c.loop-segment.invariant.silent
    _ c.report_segment.ensures.ran c.in_err-report_segment.ensures.told_front (no_engine_of _ _ from))

pub returns-in_err-report_segment-clause-writes : goal.returns-in_err-report_segment-clause-writes
returns-in_err-report_segment-clause-writes g c = inr c.loop-segment.invariant.steady

pub change_at-requires-in-loop-segment-clause-at : goal.change_at-requires-in-loop-segment-clause-at
change_at-requires-in-loop-segment-clause-at g c =
    next_at _ _ _ _ g.C.Carrier.plays g.L.ListingKind.listing (g.B.Switchboard.board c.args.cx.now.board.now) _ _ c.requires.trace c.as_slice-changes.ensures _ c.as_slice-ends.ensures c.requires.sound _ _ _ _ _ _ _ _ _ c.loop-segment-test.true c.loop-segment.invariant.underway c.loop-segment.invariant.on c.loop-segment.invariant.silent

pub change_at-requires-in-loop-segment-clause-rising : goal.change_at-requires-in-loop-segment-clause-rising
change_at-requires-in-loop-segment-clause-rising g c = subst (λ (cs : List ℕ). AllPairs (λ m n. m ≤ n) cs) (sym c.as_slice-changes.ensures) c.requires.sound.changes.rising

pub returns-in_err-made-2-clause-runs : goal.returns-in_err-made-2-clause-runs
returns-in_err-made-2-clause-runs g c =
    let from = c.from_residual-in_err-made-2.ensures.1 in
    runs_so _ _ _ _ ended.OutOfMemory _ (ending_memory _ from)
    (interrupted_behind _ _ _ _ g.C.Carrier.plays g.L.ListingKind.listing (g.B.Switchboard.board c.args.cx.now.board.now) _ _ c.requires.trace c.as_slice-changes.ensures _ c.as_slice-ends.ensures c.requires.sound _ _ _ _ _ _ _ _ _ c.loop-segment-test.true c.loop-segment.invariant.underway c.loop-segment.invariant.on c.loop-segment.invariant.silent
    _ c.report_segment.ensures.ran c.in_ok-report_segment.ensures.whole _ c.in_ok-report_segment.ensures.told c.in_err-made-2.ensures.kept (no_engine_of _ _ from))

pub returns-in_err-made-2-clause-writes : goal.returns-in_err-made-2-clause-writes
returns-in_err-made-2-clause-writes g c = inr c.loop-segment.invariant.steady

pub returns-in_err-flush_full-2-clause-runs : goal.returns-in_err-flush_full-2-clause-runs
returns-in_err-flush_full-2-clause-runs g c =
    let from = c.from_residual-in_err-flush_full-2.ensures.1 in
    runs_so _ _ _ _ ended.WriteFailed _ (ending_write _ from) (
      subst (λ (n : ℕ). Rose n (g.K.Sink.faults c.flush_full-in-loop-segment.new.sink)) c.loop-segment.invariant.steady c.in_err-flush_full-2.ensures.cause,
      unwritten_here
          (then_underway _ _ _ _ g.C.Carrier.plays g.L.ListingKind.listing (g.B.Switchboard.board c.args.cx.now.board.now) _ _ c.requires.trace c.as_slice-changes.ensures _ c.as_slice-ends.ensures c.requires.sound _ _ _ _ _ _ _ _ _ c.loop-segment-test.true c.loop-segment.invariant.underway c.loop-segment.invariant.on c.loop-segment.invariant.silent
          _ c.report_segment.ensures.ran c.in_ok-report_segment.ensures.whole _ c.in_ok-report_segment.ensures.told _ _ _ _ c.in_ok-made-2.ensures.done
          refl c.report_segment.ensures.chief c.in_ok-report_segment.ensures.added)
          (AreOn_then _ _ _ _ g.C.Carrier.plays g.L.ListingKind.listing (g.B.Switchboard.board c.args.cx.now.board.now) _ _ c.requires.trace c.as_slice-changes.ensures _ c.as_slice-ends.ensures c.requires.sound _ _ _ _ _ _ _ _ _ c.loop-segment-test.true c.loop-segment.invariant.underway c.loop-segment.invariant.on c.loop-segment.invariant.silent
          _ c.report_segment.ensures.ran c.in_ok-report_segment.ensures.whole _ c.in_ok-report_segment.ensures.told _ _ _ _ c.in_ok-made-2.ensures.done) c.in_err-flush_full-2.ensures.front (no_engine_of _ _ from),
    )

pub returns-in_err-flush_full-2-clause-writes : goal.returns-in_err-flush_full-2-clause-writes
returns-in_err-flush_full-2-clause-writes g c = inl (ending_write _ c.from_residual-in_err-flush_full-2.ensures.1)

pub loop-segment-preserved : goal.loop-segment-preserved
loop-segment-preserved g c = record {
  kept = elim c.in_ok-flush_full-2.ensures.kept [
    | inl same ↦ subst (AreOfAnswers g.L.ListingKind.listing) (sym same) c.in_ok-report_segment.ensures.added.kept
    | inr none ↦ ([], none)
  ];
  seated = c.report_segment.ensures.seated;
  underway = underway_written _ _ _ _ _ _ _ _ _ _
      (then_underway _ _ _ _ g.C.Carrier.plays g.L.ListingKind.listing (g.B.Switchboard.board c.args.cx.now.board.now) _ _ c.requires.trace c.as_slice-changes.ensures _ c.as_slice-ends.ensures c.requires.sound _ _ _ _ _ _ _ _ _ c.loop-segment-test.true c.loop-segment.invariant.underway c.loop-segment.invariant.on c.loop-segment.invariant.silent
      _ c.report_segment.ensures.ran c.in_ok-report_segment.ensures.whole _ c.in_ok-report_segment.ensures.told _ _ _ _ c.in_ok-made-2.ensures.done
      refl c.report_segment.ensures.chief c.in_ok-report_segment.ensures.added) _ _ c.in_ok-flush_full-2.ensures.flushed _ c.in_ok-flush_full-2.ensures.silent;
  silent = c.in_ok-flush_full-2.ensures.silent;
  ready = c.in_ok-report_segment.ensures.ready;
  steady = c.in_ok-flush_full-2.ensures.steady ∙ c.loop-segment.invariant.steady;
  on = AreOn_then _ _ _ _ g.C.Carrier.plays g.L.ListingKind.listing (g.B.Switchboard.board c.args.cx.now.board.now) _ _ c.requires.trace c.as_slice-changes.ensures _ c.as_slice-ends.ensures c.requires.sound _ _ _ _ _ _ _ _ _ c.loop-segment-test.true c.loop-segment.invariant.underway c.loop-segment.invariant.on c.loop-segment.invariant.silent
      _ c.report_segment.ensures.ran c.in_ok-report_segment.ensures.whole _ c.in_ok-report_segment.ensures.told _ _ _ _ c.in_ok-made-2.ensures.done;
}

pub returns-in_err-flush-clause-runs : goal.returns-in_err-flush-clause-runs
returns-in_err-flush-clause-runs g c =
    let from = c.from_residual-in_err-flush.ensures.1 in
    runs_so _ _ _ _ ended.WriteFailed _ (ending_write _ from) (
      subst (λ (n : ℕ). Rose n (g.K.Sink.faults c.flush.new.sink)) c.loop-segment.invariant.steady c.in_err-flush.ensures.cause,
      unwritten_here c.loop-segment.invariant.underway c.loop-segment.invariant.on c.in_err-flush.ensures.front (no_engine_of _ _ from),
    )

pub returns-in_err-flush-clause-writes : goal.returns-in_err-flush-clause-writes
returns-in_err-flush-clause-writes g c = inl (ending_write _ c.from_residual-in_err-flush.ensures.1)

pub returns-clause-runs : goal.returns-clause-runs
returns-clause-runs g c =
    let board = g.B.Switchboard.board c.args.cx.now.board.now in
    let same = ap (λ (l : List ℕ). length l) (c.as_slice-ends.ensures ∙ ap (λ (t : Trace). t.segments) c.requires.trace) in
    let over = c.loop-segment-test.false in
    let within = c.loop-segment.auto.segment-end in
    let all : c.loop-segment.segment ≡ length board.trace.segments = omega (arith, same, over, within) in
    let inv = c.loop-segment.invariant in
    let before = at_some (λ carried. IsReady g.C.Carrier.carries g.C.Carrier.next g.C.Carrier.sizes board (g.B.Switchboard.known c.loop-segment.seat).seen carried.machine.value.engine carried.machine.value.context.tool) _ c.taken.result (sym c.taken.ensures) inv.ready in
    let ready = subst (IsReadyAt g.C.Carrier.carries g.C.Carrier.next g.C.Carrier.sizes board (g.B.Switchboard.known c.loop-segment.seat)) (sym c.into_inner-machine.ensures) before in
    run_whole _ _ _ _ _ _ _ _ _ _ _ _ _ _ inv.underway (subst IsSound c.requires.trace c.requires.sound) all inv.on.left _ c.in_ok-flush.ensures.whole (ready.sized, ready.carried)
