use Rattle.std.proofs.Common.{◌≡◌, Some, Ok, codes, refl, ap, sym, ◌∙◌}
use Rattle.circuit_model.specs.FrameInput.{Input}
use Rattle.exchange_events.specs.declared.trace.Event.TheVariants as event
use Rattle.trace_text.specs.declared.said.Said.TheVariants as Said
use Rattle.trace_text.specs.TraceLines.{reads}
use Rattle.trace_text.proofs.TraceHolds.{event_first, sync_first}
use Rattle.trace_text.proofs.TraceParts.{reads_idle}
use Rattle.trace_text.proofs.draft.Draft.read_first.Goals as goal

pub returns-in-Some-behind_sync-clause-read : goal.returns-in-Some-behind_sync-clause-read
returns-in-Some-behind_sync-clause-read c =
    sync_first c.args.self.now c.end_segment.new.self c.args.bytes.now c.in-Some-behind_sync.others.now c.in-Some.sizes (sym c.sizes.ensures ∙ c.in-Some.is)
    c.in-Some-behind_sync.ensures.first c.in-Some-behind_sync.ensures.shorter c.in_ok-end_segment.ensures

pub returns-in-Some-behind_idle_frame-clause-read : goal.returns-in-Some-behind_idle_frame-clause-read
returns-in-Some-behind_idle_frame-clause-read c =
    let idle = reads_idle c.args.self.now.heading c.in-Some.sizes (codes "F") (sym c.sizes.ensures ∙ c.in-Some.is) refl in
    let read = idle ∙ ap (λ (i : Input). Ok (Said.Happens (event.Frame i))) (sym c.idle.ensures) in
    event_first c.args.self.now c.push_event.new.self c.args.bytes.now c.in-Some-behind_idle_frame.others.now (codes "F")
    c.in-Some-behind_idle_frame.ensures.first c.in-Some-behind_idle_frame.ensures.shorter (c.in_ok-push_event.ensures.read (codes "F") read)
