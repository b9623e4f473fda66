-- A property of all states of a part of a run. Source: this project.
use Rattle.std.specs.Prelude.{List, [], ◌∷◌}
use Rattle.exchange_events.specs.declared.trace.Event.{Event}
use Rattle.exchange_events.specs.Sizes.{Setting}
use Rattle.call_profile.specs.Step.{next}
use Rattle.call_profile.specs.World.{World}

-- a property of the state before a list of events, and after each of them
abbrev pub Throughout : Setting → (World → Type 0) → World → List Event → Type 0
Throughout s holds w [] = holds w
Throughout s holds w (e ∷ es) = holds w × Throughout s holds (next s w e) es
