use Rattle.std.proofs.Common.{◌≡◌, ◌-◌, Result, Ok, Err, OnErr, length, subst, sym, ap, arith, ◌∙◌}
use Rattle.exchange_events.specs.Sound.{IsSound}
use Rattle.call_processor.specs.Parts.{events_of_segment}
use Rattle.segment_run.proofs.LoadLemmas.{length-range_with_len}
use Rattle.segment_run.proofs.apart.run_apart.Goals as goal

on_err : {A E P : Type 0} (r : Result A E) → P → OnErr r P
on_err (Ok a) p = tt
on_err (Err e) p = p

pub event_range-first-requires-clause-sound : goal.event_range-first-requires-clause-sound
event_range-first-requires-clause-sound g c = subst IsSound (sym c.requires.may.trace_is) ((g.met.B.Switchboard g.world.𝓛 g.world.𝓜 g.world.𝓡 ((λ s x. x), (λ x. x), (λ x. x), λ x. x)).sound_trace c.args.cx.now.board.now c.args.seat.now c.requires.seated)

pub returns-in_err-merge_or_truncate-clause-kept : goal.returns-in_err-merge_or_truncate-clause-kept
returns-in_err-merge_or_truncate-clause-kept g c =
    on_err c.from_residual.result (λ kept held. c.in_err-merge_or_truncate.ensures.kept kept held (λ whole.
    let all = c.work_all-done.ensures.works.done whole in
    record { parts = all.parts; kept = all.kept; apart = all.apart }))

pub returns-clause-whole : goal.returns-clause-whole
returns-clause-whole g c =
    let whole = c.in_ok-merge_or_truncate.ensures.whole in
    let all = c.work_all-done.ensures.works.done whole in
    record { whole = all.whole; long = all.long; ready = all.ready }

pub returns-clause-answered : goal.returns-clause-answered
returns-clause-answered g c = λ kept held.
    let whole = c.in_ok-merge_or_truncate.ensures.whole in
    let all = c.work_all-done.ensures.works.done whole in
    let first = c.event_range-first.result.0 in
    let end = c.event_range-first.result.1 in
    let size : length (events_of_segment c.args.cx.now.trace.now c.args.segment) ≡ end - first = ap length c.event_range-first.ensures.all ∙ length-range_with_len first (end - first) in
    let many = all.many in
    let merged = c.in_ok-merge_or_truncate.ensures.merged kept all.parts held all.kept all.apart (omega (arith, many, size)) in
    record { answers = merged.answers; answered = all.answered merged.answers merged.merged; held = merged.held }
