-- The report of a run. Source: this project.
use Rattle.std.specs.Prelude.{ℕ, List, [], ◌∷◌, ◌++◌}
use Rattle.circuit_model.specs.declared.channel.Slot.{Slot}
use Rattle.circuit_model.specs.declared.circuit.Circuit.{Circuit}
use Rattle.circuit_model.specs.FrameInput.{Input}
use Rattle.circuit_model.specs.Hears.{Plays}
use Rattle.tone_rules.specs.Tables.{table_of}
use Rattle.exchange_events.specs.declared.trace.Event.{Event}
use Rattle.exchange_events.specs.declared.trace.Trace.{Trace}
use Rattle.exchange_events.specs.Kept.{kept_of}
use Rattle.exchange_events.specs.Sizes.{Setting}
use Rattle.exchange_events.specs.Sound.{setting_of}
use Rattle.call_profile.specs.Step.{next, reply, events_of}
use Rattle.call_profile.specs.World.{World, start}
use Rattle.report_text.specs.Report.{lines_sent, report_line}

-- the octet that an engine outputs on a slot in a frame, with known tones, from each frame's input and circuits
abbrev pub Played : Type 0
Played = List Input → List (List Circuit) → ℕ → Slot → ℕ

-- the octet that the engine outputs on a slot in frame f
abbrev pub engine_octet : Played → World → ℕ → Slot → ℕ
engine_octet played w f y = played w.inputs w.held f y

-- the octets of each line in the frame of an event, if it is a frame
abbrev pub sent_at : Played → Setting → World → Event → List (List ℕ)
sent_at played s w e = lines_sent (engine_octet played (next s w e) w.holding.next) s.dimensions.external

-- the line of an event, and the lines of consecutive events
abbrev pub event_line : Played → Setting → World → ℕ → Event → List ℕ
event_line played s w n e = report_line (sent_at played s w e) n (kept_of (reply s w e))

abbrev pub event_lines : Played → Setting → World → List ℕ → List Event → List ℕ
event_lines played s w [] events = []
event_lines played s w (n ∷ order) [] = []
event_lines played s w (n ∷ order) (e ∷ events) = event_line played s w n e ++ event_lines played s (next s w e) order events

-- the lines of a trace's events in this order, starting from the first state
abbrev pub report_with : Played → ℕ → Trace → List ℕ → List ℕ
report_with played slots trace order = let s = setting_of slots trace in event_lines played s (start s.dimensions) order (events_of trace.events order)

-- the report of a trace whose events happen in this order: a line for each, in that order
abbrev pub report : Plays → ℕ → Trace → List ℕ → List ℕ
report plays slots trace order = report_with (plays (table_of trace.tones)) slots trace order
