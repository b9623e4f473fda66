-- The exchange state that a map of circuits and a table of legs hold. Source: this project.
use Rattle.std.specs.Prelude.{◌≡◌, ℕ, List, Option}
use Rattle.circuit_map.specs.Connections.{Connections, Represents}
use Rattle.circuit_model.specs.declared.channel.Slot.{Slot}
use Rattle.tone_rules.specs.declared.tones.Tones.{Tones}
use Rattle.call_timers.specs.declared.timers.Timers.{Timers}
use Rattle.exchange_events.specs.declared.signal.Signal.{Signal}
use Rattle.call_profile.specs.Expiring.{expire_slot}
use Rattle.call_profile.specs.Legs.{Legs}
use Rattle.call_profile.specs.Operations.{Operation, Making, making_after_all}
use Rattle.exchange_events.specs.declared.outbox.Outbox.{Outbox}
use Rattle.exchange_events.specs.Sizes.{Setting, Dimensions}
use Rattle.call_profile.specs.World.{World}

-- the dimensions of a map of circuits
abbrev pub dimensions_of : Connections → Dimensions
dimensions_of m = record { external = m.external; bridges = m.bridges; slots = m.slots }

-- the map holds the circuits and ports of the exchange state, and its paths have the same layout
pub record StandsFor (m : Connections) (w : World) : Type 0 where
  pub holds : Represents m w.holding w.ports
  pub layout : m.layout ≡ w.layout

-- a map and legs of an exchange of this size hold this state
pub record Holds (d : Dimensions) (map : Connections) (legs : Legs) (w : World) : Type 0 where
  pub sizes : dimensions_of map ≡ d
  pub circuits : StandsFor map w
  pub legs_are : legs ≡ w.legs

-- a statement holds for each exchange state that the map and the legs hold, and each setting with the dimensions of
-- that map
abbrev pub EachHeld : Connections → Legs → (Setting → World → Type 0) → Type 0
EachHeld map legs Says = (s : Setting) (w : World) → Holds s.dimensions map legs w → Says s w

-- map and legs hold an exchange state during an event, with these messages and moves so far
pub record Makes (d : Dimensions) (map : Connections) (legs : Legs) (sends : List Signal) (moved : Option (ℕ × ℕ)) (m : Making) : Type 0 where
  pub holds : Holds d map legs m.world
  pub sent : sends ≡ m.sends
  pub moves : moved ≡ m.moves

-- map and legs hold an exchange state during an event, with the messages and moves of the outbox
abbrev pub HasMade : Setting → Connections → Legs → Outbox → Making → Type 0
HasMade s map legs out m = Makes s.dimensions map legs out.sends out.moved m

-- these operations change map, legs and outbox to the later ones, for every exchange state during an event that they hold
abbrev pub Performs : List Operation → Connections → Legs → Outbox → Connections → Legs → Outbox → Type 0
Performs operations map legs out map' legs' out' =
    (d : Dimensions) (m : Making) → Makes d map legs out.sends out.moved m
    → Makes d map' legs' out'.sends out'.moved (making_after_all d m operations)

-- the operations that the legs of that state decide change map, legs and outbox to the later ones
abbrev pub PerformsBy : (Legs → List Operation) → Connections → Legs → Outbox → Connections → Legs → Outbox → Type 0
PerformsBy operations map legs out map' legs' out' =
    (d : Dimensions) (m : Making) → Makes d map legs out.sends out.moved m
    → Makes d map' legs' out'.sends out'.moved (making_after_all d m (operations m.world.legs))

-- the expiry of the timer of the leg at a slot, with these tones and timers, changes map, legs and outbox to the later ones
abbrev pub Expires : Tones → Timers → ℕ → Slot → Connections → Legs → Outbox → Connections → Legs → Outbox → Type 0
Expires tones timers frame x map legs out map' legs' out' =
    (s : Setting) (m : Making) → s.tones ≡ tones → s.timers ≡ timers → Makes s.dimensions map legs out.sends out.moved m
    → Makes s.dimensions map' legs' out'.sends out'.moved (making_after_all s.dimensions m (expire_slot s frame m.world.legs x))

-- these operations change map and legs to the later ones, without a message or a move
abbrev pub PerformsQuietly : List Operation → Connections → Legs → Connections → Legs → Type 0
PerformsQuietly operations map legs map' legs' =
    (d : Dimensions) (m : Making) → Makes d map legs m.sends m.moves m
    → Makes d map' legs' m.sends m.moves (making_after_all d m operations)
