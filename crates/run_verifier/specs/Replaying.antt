-- Processing a trace again, event by event, on one thread. Source: this project.
use Rattle.std.specs.Prelude.{ℕ, ◌<◌, List, length}
use Rattle.circuit_model.specs.Dimensions.{Dimensions}
use Rattle.circuit_model.specs.Hears.{hears}
use Rattle.tone_rules.specs.Tables.{table_of}
use Rattle.frame_engine.specs.Carries.{EngineCarries, Stages}
use Rattle.exchange_events.specs.declared.trace.Event.{Event}
use Rattle.exchange_events.specs.declared.trace.Trace.{Trace}
use Rattle.exchange_events.specs.Sound.{setting_of}
use Rattle.exchange_core.specs.Working.{world_after}
use Rattle.report_text.specs.RunReport.{event_line}
use Rattle.lone_exchange.specs.declared.exchange.LoneExchange.{LoneExchange}
use Rattle.lone_exchange.specs.At.{IsAt}

-- the sizes of an engine
abbrev pub engine_sizes : Stages → Dimensions
engine_sizes e = record { external = e.external; bridges = e.bridges; slots = e.slots }

-- the exchange has processed the events with these numbers, in this order, from its initial state
abbrev pub HasDone : {P : Type 0} → ℕ → Trace → List ℕ → LoneExchange P Stages → Type 0
HasDone slots trace order x = IsAt EngineCarries (λ (e : Stages). e.next) engine_sizes x (setting_of slots trace) (world_after slots trace order)

-- the exchange has processed some events of the trace, and not all
abbrev pub HasDoneSome : {P : Type 0} → Trace → LoneExchange P Stages → Type 0
HasDoneSome trace x = (slots : ℕ) × (order : List ℕ) × HasDone slots trace order x × (length order < length trace.events)

-- the report line of an event after these events
abbrev pub line_due : ℕ → Trace → List ℕ → ℕ → Event → List ℕ
line_due slots trace order n e = event_line (hears (table_of trace.tones)) (setting_of slots trace) (world_after slots trace order) n e
