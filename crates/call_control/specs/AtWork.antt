-- An exchange at work. Source: this project.
use Rattle.std.specs.Prelude.{◌≡◌, List}
use Rattle.number_plan.specs.declared.plan.Number.{Number}
use Rattle.tone_rules.specs.declared.tones.Tones.{Tones}
use Rattle.circuit_map.specs.Connections.{Connections}
use Rattle.circuit_model.specs.Holding.{Valid}
use Rattle.call_timers.specs.declared.timers.Timers.{Timers}
use Rattle.call_profile.specs.Legs.{Legs}
use Rattle.call_profile.specs.LegStanding.{CallsStand, LegsStand}
use Rattle.exchange_events.specs.Sizes.{Setting}
use Rattle.exchange_events.specs.Sound.{IsPlanned}
use Rattle.call_control.specs.Standing.{Holds}
use Rattle.call_profile.specs.World.{World}

-- map and legs hold this exchange state, in which circuits and legs are consistent, and the lines of the plan exist
pub record IsAtWork (s : Setting) (map : Connections) (legs : Legs) (w : World) : Type 0 where
  pub holds : Holds s.dimensions map legs w
  pub planned : IsPlanned s
  pub stands : CallsStand s w

-- a statement holds for each setting with this plan and these tones, and each exchange state, for which the map and the
-- legs are at work
abbrev pub EachAtWork : List Number → Tones → Connections → Legs → (Setting → World → Type 0) → Type 0
EachAtWork plan tones map legs Says = (s : Setting) (w : World) → s.plan ≡ plan → s.tones ≡ tones → IsAtWork s map legs w → Says s w

-- a statement holds for some such setting and exchange state
abbrev pub SomeAtWork : List Number → Tones → Connections → Legs → (Setting → World → Type 0) → Type 0
SomeAtWork plan tones map legs Says = (s : Setting) × (w : World) × (s.plan ≡ plan) × (s.tones ≡ tones) × IsAtWork s map legs w × Says s w

-- a statement holds for each setting with these tones and any plan, and each such exchange state
abbrev pub EachWithTones : Tones → Connections → Legs → (Setting → World → Type 0) → Type 0
EachWithTones tones map legs Says = (s : Setting) (w : World) → s.tones ≡ tones → IsAtWork s map legs w → Says s w

-- map and legs represent this exchange state, in which circuits and legs are consistent
pub record IsInOrder (s : Setting) (map : Connections) (legs : Legs) (w : World) : Type 0 where
  pub holds : Holds s.dimensions map legs w
  pub circuits : Valid s.dimensions.bridges w.holding
  pub stand : LegsStand s.dimensions.external s.tones w

-- a statement holds for each setting with these tones, and each such exchange state
abbrev pub EachLinked : Tones → Connections → Legs → (Setting → World → Type 0) → Type 0
EachLinked tones map legs Says = (s : Setting) (w : World) → s.tones ≡ tones → IsInOrder s map legs w → Says s w

-- a statement holds for each setting with these tones and timers, and each such exchange state
abbrev pub EachInOrder : Tones → Timers → Connections → Legs → (Setting → World → Type 0) → Type 0
EachInOrder tones timers map legs Says = (s : Setting) (w : World) → s.tones ≡ tones → s.timers ≡ timers → IsInOrder s map legs w → Says s w
