-- The premises of the theorems. Source: this project.
use Rattle.std.specs.Prelude.{List, All}
use Rattle.exchange_events.specs.declared.trace.Event.{Event}
use Rattle.exchange_events.specs.Sizes.{Setting}
use Rattle.exchange_events.specs.Sound.{Fits, IsPlanned}
use Rattle.call_profile.specs.LegStanding.{CallsStand}
use Rattle.call_profile.specs.World.{World}

-- the plan routes numbers to lines of the exchange only, and the events fit the exchange
pub record IsRun (s : Setting) (es : List Event) : Type 0 where
  pub planned : IsPlanned s
  pub fits : All (Fits s.dimensions.external) es

-- the same for one event, in a state with consistent circuits and legs, as each state that a run reaches is
pub record IsStep (s : Setting) (w : World) (e : Event) : Type 0 where
  pub planned : IsPlanned s
  pub fits : Fits s.dimensions.external e
  pub stands : CallsStand s w
