-- The story of lines with data links: its events and changes of meters. Source: this project.
use Rattle.std.specs.Prelude.{ℕ, ◌+◌, List, [], ◌∷◌, ◌++◌}
use Rattle.exchange_events.specs.declared.trace.Event.{Event}
use Rattle.exchange_events.specs.declared.trace.Event.TheVariants.{Frame}
use Rattle.exchange_events.specs.Sizes.{Setting}
use Rattle.link_procedures.specs.declared.state.LinkTimers.{LinkTimers}
use Rattle.meters.specs.Changing.{Step, Event_done, Meters_changed}
use Rattle.report_text.specs.RunReport.{Played}
use Rattle.trace_text.specs.declared.said.Said.TheVariants.{Change, Happens as Said_happens}
use Rattle.linked_exchange.specs.Steps.{Joint, LinkedInput, Happens, Receives, Turns, next_joint}
use Rattle.linked_text.specs.declared.said.LinkSaid.TheVariants.{Received}
use Rattle.linked_text.specs.LinkLines.{Content, Plain, On_link}
use Rattle.linked_exchange.specs.LinkedLines.{after_happened, calls_of, happened_calls, happened_line, text_of}

-- the inputs of an event
abbrev pub inputs_of : Event → List LinkedInput
inputs_of (Frame input) = Happens (Frame input) ∷ Turns ∷ []
inputs_of e = Happens e ∷ []

-- the inputs of lines, in the order of the lines
abbrev pub inputs_in : List Content → List LinkedInput
inputs_in [] = []
inputs_in (Plain (Said_happens e) ∷ told) = inputs_of e ++ inputs_in told
inputs_in (On_link (Received line octets) ∷ told) = Receives line octets ∷ inputs_in told
inputs_in (content ∷ told) = inputs_in told

-- the events and the changes of meters of these lines, from an exchange state with links on and after n events: each event has its numbered line, and
-- the records of the calls that ended with it
abbrev pub linked_steps : Played → Setting → LinkTimers → Joint → ℕ → List Content → List Step
linked_steps played s timers j n [] = []
linked_steps played s timers j n (Plain (Said_happens e) ∷ told) =
    Event_done (happened_line played s timers j (n + 1) e) (happened_calls played s timers j e) ∷ linked_steps played s timers (after_happened played s timers j e) (n + 1) told
linked_steps played s timers j n (On_link (Received line octets) ∷ told) =
    Event_done (text_of s timers j (n + 1) (Receives line octets)) (calls_of s timers j (Receives line octets))
    ∷ linked_steps played s timers (next_joint s timers j (Receives line octets)) (n + 1) told
linked_steps played s timers j n (Plain Change ∷ told) = Meters_changed ∷ linked_steps played s timers j n told
linked_steps played s timers j n (content ∷ told) = linked_steps played s timers j n told
