-- The state of a core, as contracts see it. Source: this project.
use Rattle.std.specs.Prelude.{◌≡◌, ℕ, ◌≤◌, List, length, map, Some, All}
pub use Rattle.seat_history.specs.Histories.{Entry}
use Rattle.circuit_map.specs.Connections.{Connections}
pub use Rattle.control_memory.specs.Image.{IsOfSize}
use Rattle.control_memory.specs.Layout.{Legal}
use Rattle.control_memory.specs.Shown.{JoinsCircuits, Shows}
use Rattle.exchange_events.specs.declared.trace.Event.{Event}
use Rattle.exchange_events.specs.declared.trace.Event.TheVariants.{Frame}
use Rattle.exchange_events.specs.declared.trace.Trace.{Trace}
use Rattle.exchange_core.specs.declared.tool.Tool.{Tool}
use Rattle.exchange_core.specs.declared.tool.Tool.TheVariants as tool
use Rattle.call_profile.specs.Legs.{Legs}
use Rattle.call_timers.specs.declared.timers.Timers.{Timers}
use Rattle.number_plan.specs.declared.plan.Number.{Number}
use Rattle.tone_rules.specs.declared.tones.Tones.{Tones}
use Rattle.exchange_events.specs.Orders.{IsEvent, event_at}
use Rattle.exchange_events.specs.Sizes.{Setting, Dimensions}
use Rattle.exchange_events.specs.Sound.{IsSound, setting_of}
use Rattle.call_control.specs.AtWork.{IsAtWork}
use Rattle.call_control.specs.Standing.{Holds}
use Rattle.call_profile.specs.Step.{events_of, world_after_all}
use Rattle.call_profile.specs.World.{World, exchange_lines, start}

-- the numbers of the events of a journal, in the order in which they were processed
abbrev pub order_of : List Entry → List ℕ
order_of journal = map (λ (entry : Entry). entry.1) journal

-- the trace, the number of internal slots, the maximum number of live paths that a new path moves, and the journal
pub record Working : Type 0 where
  pub trace : Trace
  pub slots : ℕ
  pub bound : ℕ
  pub journal : List Entry

abbrev pub setting : Working → Setting
setting x = setting_of x.slots x.trace

-- the exchange state after the events with these numbers, starting from the first state
abbrev pub world_after : ℕ → Trace → List ℕ → World
world_after slots trace order = let s = setting_of slots trace in world_after_all s (start s.dimensions) (events_of trace.events order)

-- the exchange state after the events of the journal
abbrev pub world_of : Working → World
world_of x = world_after x.slots x.trace (order_of x.journal)

-- its paths are legal: no two share an internal slot of a line
abbrev pub IsLaid : Working → Type 0
IsLaid x = Legal (exchange_lines (setting x).dimensions) x.slots (world_of x).layout

-- its paths join exactly the existing circuits: both directions of each connection, and both directions between each
-- member and its port
abbrev pub JoinsItsCircuits : Working → Type 0
JoinsItsCircuits x = JoinsCircuits (exchange_lines (setting x).dimensions) x.trace.external (world_of x).layout (world_of x).holding.circuits (world_of x).ports

-- the trace's event with this number
abbrev pub IsNumbered : Trace → ℕ → Event → Type 0
IsNumbered trace n e = event_at trace.events n ≡ Some e

-- the core's map and legs hold the exchange state of its journal, whose entries are events of a sound trace, and the
-- journal has capacity for all events
pub record IsWorking (x : Working) (map : Connections) (legs : Legs) (room : ℕ) : Type 0 where
  pub sound : IsSound x.trace
  pub known : All (IsEvent x.trace) (order_of x.journal)
  pub holds : Holds (setting x).dimensions map legs (world_of x)
  pub bound : map.bound ≡ x.bound
  pub reserved : length x.trace.events ≤ room

-- ---- a step

-- a statement holds for each setting with this plan, these tones and these timers, and each exchange state that the map
-- and the legs hold
abbrev pub EachGiven : List Number → Tones → Timers → Connections → Legs → (Setting → World → Type 0) → Type 0
EachGiven plan tones timers map legs Says =
    (s : Setting) (w : World) → s.plan ≡ plan → s.tones ≡ tones → s.timers ≡ timers → IsAtWork s map legs w → Says s w

-- a statement holds for some such setting and exchange state
abbrev pub SomeGiven : List Number → Tones → Timers → Connections → Legs → (Setting → World → Type 0) → Type 0
SomeGiven plan tones timers map legs Says =
    (s : Setting) × (w : World) × (s.plan ≡ plan) × (s.tones ≡ tones) × (s.timers ≡ timers) × IsAtWork s map legs w × Says s w

-- a statement holds for each such setting with any plan, and each such exchange state
abbrev pub EachFrames : Tones → Timers → Connections → Legs → (Setting → World → Type 0) → Type 0
EachFrames tones timers map legs Says = (s : Setting) (w : World) → s.tones ≡ tones → s.timers ≡ timers → IsAtWork s map legs w → Says s w

abbrev pub SomeFrames : Tones → Timers → Connections → Legs → (Setting → World → Type 0) → Type 0
SomeFrames tones timers map legs Says = (s : Setting) × (w : World) × (s.tones ≡ tones) × (s.timers ≡ timers) × IsAtWork s map legs w × Says s w

-- ---- the tool of a step

-- the tool is a control memory of the exchange's size if and only if the event is a frame
abbrev pub IsToolFor : Dimensions → Event → Tool → Type 0
IsToolFor d (Frame input) (tool.Image image) = IsOfSize d image
IsToolFor d (Frame input) tool.Nothing = ⊥
IsToolFor d _ (tool.Image image) = ⊥
IsToolFor d _ tool.Nothing = Unit {0}

-- after a frame's step the tool shows the circuits, the ports and the frame number of the exchange state before it
abbrev pub ShowsWorld : World → Event → Tool → Type 0
ShowsWorld w (Frame input) (tool.Image image) = Shows image w.holding.circuits w.ports w.holding.next
ShowsWorld w _ _ = Unit {0}
