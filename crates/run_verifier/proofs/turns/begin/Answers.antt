use Rattle.std.proofs.Common.{rules}
use Rattle.run_verifier.proofs.TurnLemmas.{begins_own, begins_untouched, ends_at, none_ends}
use Rattle.run_verifier.proofs.turns.begin.Goals as goal

pub returns-then-segment-as_slice-clause-ends : goal.returns-then-segment-as_slice-clause-ends
returns-then-segment-as_slice-clause-ends c = none_ends c.args.trace.now c.args.segment 0 c.requires.sound (search rules)

pub returns-clause-ends : goal.returns-clause-ends
returns-clause-ends c = ends_at c.args.trace.now c.args.segment c.event_range-first.result.0 c.event_range-first.result.1 c.event_range-first.ensures.all c.event_range-first.ensures.events

pub returns-clause-own : goal.returns-clause-own
returns-clause-own c = begins_own c.args.trace.now c.args.segment c.event_range-first.result.0 c.event_range-first.result.1 c.event_range-first.ensures.all c.event_range-first.ensures.events
    c.first_events-next.result c.first_events-next.ensures.low c.first_events-next.ensures.own

pub returns-clause-untouched : goal.returns-clause-untouched
returns-clause-untouched c = begins_untouched c.args.trace.now c.args.segment c.event_range-first.result.0 c.event_range-first.result.1 c.event_range-first.ensures.all c.event_range-first.ensures.events
    c.first_events-next.result c.first_events-next.ensures.low c.requires.sound c.first_events-next.ensures.passed
