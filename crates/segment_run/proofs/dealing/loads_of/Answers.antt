use Rattle.std.proofs.Common.{rules, ◌≡◌, ◌<◌, ◌+◌, ◌-◌, length, List, slice_index_or, subst, ◌∙◌, arith}
use Rattle.std.proofs.lemmas.List.{length-set}
use Rattle.exchange_events.specs.declared.trace.Event.{Event}
use Rattle.exchange_events.proofs.EventNumbers.{event_at-is}
use Rattle.segment_run.specs.Workers.{worker_numbered}
use Rattle.segment_run.proofs.ListLemmas.{got_read}
use Rattle.segment_run.proofs.CountLemmas.{length-up_to-le, number_is, counted_more}
use Rattle.segment_run.proofs.dealing.loads_of.Goals as goal

pub overflow_add-loads : goal.overflow_add-loads
overflow_add-loads c =
    let trace = c.args.trace.now in
    let n = c.unwrap_or-worker.result in
    let some_one = c.requires.sound.processors.0 in
    let o = number_is trace (omega (arith, some_one)) c.index-events-event.result c.processor_of.result n c.processor_of.ensures (λ m e. search rules) (λ e. search rules) in
    let each = c.loop-event.invariant.each n o.0 in
    let few = length-up_to-le trace (worker_numbered trace.processors n) c.event_range-first.result.0 c.loop-event.event in
    search (rules, each, few)

pub loop-event-preserved : goal.loop-event-preserved
loop-event-preserved c =
    let trace = c.args.trace.now in
    let n = c.unwrap_or-worker.result in
    let first = c.event_range-first.result.0 in
    let event = c.loop-event.event in
    let some_one = c.requires.sound.processors.0 in
    let o = number_is trace (omega (arith, some_one)) c.index-events-event.result c.processor_of.result n c.processor_of.ensures (λ m e. search rules) (λ e. search rules) in
    let known = c.event_range-first.ensures.events event c.loop-event.invariant.from c.loop-event-test.true in
    let low = known.0 in
    let high = known.1 in
    let same = c.as_slice-events.ensures in
    let read = subst (λ (l : List Event). c.index-events-event.result ≡ slice_index_or l (event - 1) c.index-events-event.result) same c.index-events-event.is in
    let at = event_at-is trace.events event low ∙ got_read trace.events (event - 1) c.index-events-event.result (omega (arith, low, high)) read in
    let size = c.loop-event.invariant.size in
    let most = c.requires.sound.processors.1 in
    let long : trace.processors < length c.loop-event.loads = omega (arith, size, most) in
    record {
      from = search rules;
      size = length-set c.loop-event.loads n (slice_index_or c.loop-event.loads n 0 + 1) ∙ size;
      each = counted_more trace first event n c.index-events-event.result c.loop-event.loads c.loop-event.invariant.from o.0 long at o.1 c.loop-event.invariant.each;
    }
