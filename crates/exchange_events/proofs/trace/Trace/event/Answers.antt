use Rattle.std.proofs.Common.{◌-◌, get_or, ap, ◌∙◌}
use Rattle.exchange_events.proofs.EventNumbers.{event_at_number}
use Rattle.exchange_events.proofs.trace.Trace.event.Goals as goal

pub returns : goal.returns
returns c =
    let trace = c.args.self.now in
    let n = c.args.number in
    let e = c.index-as_slice-number.result in
    event_at_number trace.events n e c.requires (c.index-as_slice-number.is ∙ ap (λ es. get_or es (n - 1) e) c.as_slice.ensures)
