-- The setting of an exchange. Source: this project.
use Rattle.std.specs.Prelude.{List}
use Rattle.number_plan.specs.declared.plan.Number.{Number}
use Rattle.tone_rules.specs.declared.tones.Tones.{Tones}
use Rattle.call_timers.specs.declared.timers.Timers.{Timers}
pub use Rattle.circuit_model.specs.Dimensions.{Dimensions}

-- the sizes of an exchange, its number plan, the octets of its tones, and the duration of its timers
pub record Setting : Type 0 where
  pub dimensions : Dimensions
  pub plan : List Number
  pub tones : Tones
  pub timers : Timers
