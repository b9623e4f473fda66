-- The paths after a list of events. Source: this project; legality is M. C. Paull's (control_memory, Layout).
use Rattle.std.specs.Prelude.{ℕ, ◌≤◌, List, All}
use Rattle.control_memory.specs.Layout.{Legal}
use Rattle.control_memory.specs.Shown.{JoinsCircuits}
use Rattle.exchange_events.specs.declared.trace.Event.{Event}
use Rattle.exchange_events.specs.declared.trace.Trace.{Trace}
use Rattle.exchange_events.specs.Sizes.{Dimensions, Setting}
use Rattle.exchange_events.specs.Sound.{Fits, IsPlanned, setting_of}
use Rattle.call_profile.specs.Step.{world_after_all}
use Rattle.call_profile.specs.World.{World, exchange_lines, start}
use Rattle.exchange_core.specs.Working.{world_after}

-- no two paths of a line share an internal slot
abbrev pub IsLegalIn : Dimensions → World → Type 0
IsLegalIn d w = Legal (exchange_lines d) d.slots w.layout

-- the paths are the ones that the circuits need: both directions of each connection, and both directions between each
-- member and its port
abbrev pub JoinsCircuitsIn : Dimensions → World → Type 0
JoinsCircuitsIn d w = JoinsCircuits (exchange_lines d) d.external w.layout w.holding.circuits w.ports

-- ---- after events of a trace

abbrev pub IsLegalAfter : ℕ → Trace → List ℕ → Type 0
IsLegalAfter slots trace order = IsLegalIn (setting_of slots trace).dimensions (world_after slots trace order)

abbrev pub JoinsCircuitsAfter : ℕ → Trace → List ℕ → Type 0
JoinsCircuitsAfter slots trace order = JoinsCircuitsIn (setting_of slots trace).dimensions (world_after slots trace order)

-- ---- after any list of events

-- an exchange of 1 to 32 external lines and at most 2 bridge lines, over 30 to 59 internal slots
pub record IsSized (d : Dimensions) : Type 0 where
  pub some : 1 ≤ d.external
  pub few : d.external ≤ 32
  pub bridges : d.bridges ≤ 2
  pub enough : 30 ≤ d.slots
  pub most : d.slots ≤ 59

-- the lines of the plan exist, and each event fits the exchange
pub record IsFitting (s : Setting) (events : List Event) : Type 0 where
  pub sized : IsSized s.dimensions
  pub planned : IsPlanned s
  pub fit : All (Fits s.dimensions.external) events

-- the exchange state after these events
abbrev pub world_of_all : Setting → List Event → World
world_of_all s events = world_after_all s (start s.dimensions) events
