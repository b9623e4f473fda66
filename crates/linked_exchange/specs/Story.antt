-- The story of a run: its events, and the changes of its meters between them. Source: this project.
use Rattle.std.specs.Prelude.{ℕ, List, [], ◌∷◌, ◌++◌}
use Rattle.tone_rules.specs.Tables.{table_of}
use Rattle.exchange_events.specs.declared.trace.Event.{Event}
use Rattle.exchange_events.specs.declared.trace.Trace.{Trace}
use Rattle.exchange_events.specs.Kept.{kept_of}
use Rattle.exchange_events.specs.Sizes.{Setting}
use Rattle.exchange_events.specs.Sound.{setting_of}
use Rattle.call_profile.specs.CallsTold.{calls_kept}
use Rattle.call_profile.specs.Step.{next, reply, events_of}
use Rattle.call_profile.specs.World.{World, start}
use Rattle.circuit_model.specs.Hears.{Plays}
use Rattle.report_text.specs.RunReport.{Played, event_line}
use Rattle.report_lines.specs.declared.listing.Listing.{Listing}
use Rattle.report_lines.specs.Lines.{listed}
use Rattle.meters.specs.Changing.{Step, Event_done, changes_at, with_changes}

-- events in sequence from an exchange state on: for each its line, if lines are listed, and the records of the calls
-- that ended with it
abbrev pub event_steps : Played → Listing → Setting → World → List ℕ → List Event → List Step
event_steps played l s w [] events = []
event_steps played l s w (n ∷ order) [] = []
event_steps played l s w (n ∷ order) (e ∷ events) =
    Event_done (listed l (event_line played s w n e)) (calls_kept (kept_of (reply s w e))) ∷ event_steps played l s (next s w e) order events

-- a run of a trace whose events happen in this order, with this listing: the changes before the first event, and each
-- event with the changes after it
abbrev pub story : Plays → Listing → ℕ → Trace → List ℕ → List Step
story plays l slots trace order =
    let s = setting_of slots trace in
    changes_at trace.changes 0 ++ with_changes trace.changes 0 (event_steps (plays (table_of trace.tones)) l s (start s.dimensions) order (events_of trace.events order))
