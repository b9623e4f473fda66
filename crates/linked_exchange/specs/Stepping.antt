-- One event of a trace that is followed. Source: this project.
use Rattle.std.specs.Prelude.{◌≡◌, ℕ, ◌+◌, ◌<◌, List, [], ◌∷◌, ◌++◌, length, Option, Some}
use Rattle.circuit_model.specs.Dimensions.{Dimensions}
use Rattle.circuit_model.specs.Hears.{Plays}
use Rattle.tone_rules.specs.Tables.{table_of}
use Rattle.exchange_events.specs.declared.record.CallRecord.{CallRecord}
use Rattle.exchange_events.specs.declared.trace.Event.{Event}
use Rattle.exchange_events.specs.Kept.{kept_of}
use Rattle.exchange_events.specs.Sound.{Fits}
use Rattle.call_profile.specs.CallsTold.{calls_kept}
use Rattle.call_profile.specs.Step.{next, reply}
use Rattle.report_text.specs.RunReport.{event_line}
use Rattle.lone_exchange.specs.declared.exchange.LoneExchange.{LoneExchange}
use Rattle.lone_exchange.specs.At.{Carrying, IsAt}
use Rattle.trace_text.specs.declared.said.Said.{Said}
use Rattle.trace_text.specs.declared.said.Sizes.{Sizes}
use Rattle.trace_text.specs.TraceGrammar.{events_in, numbers_in, plan_of, sizes_in, so_far, timers_in, timers_of, tones_in, tones_of}
use Rattle.trace_text.specs.TraceLines.{SoFar}
use Rattle.linked_exchange.specs.Told.{MovesFewIn, MovesFewSaid, setting_said, world_said}
use Rattle.linked_exchange.specs.States.{IsDriven, IsSaid}
use Rattle.linked_exchange.specs.Telling.{AreTold}

-- the heading has the header, the numbers, the tones and the timers of these lines, and the exchange is their result
pub record IsHeard {P E : Type 0} (carries : Carrying E) (frames : E → ℕ) (sizes : E → Dimensions) (slots : ℕ) (moves : ℕ → ℕ) (told : List Said) (z : Sizes) (heading : SoFar)
    (exchange : Option (LoneExchange P E)) : Type 0 where
  pub header : sizes_in told ≡ Some z
  pub sized : heading.sizes ≡ Some z
  pub plan : plan_of (numbers_in told) ≡ heading.plan
  pub tones : tones_of (tones_in told) ≡ heading.tones
  pub timers : timers_of (timers_in told) ≡ heading.timers
  pub sound : IsSaid (so_far told)
  pub driven : IsDriven carries frames sizes slots moves told exchange

-- there is an exchange, in the state after these lines; each new path moved at most the fabric's number of live paths
pub record IsRunning {P E : Type 0} (carries : Carrying E) (frames : E → ℕ) (sizes : E → Dimensions) (slots : ℕ) (moves : ℕ → ℕ) (told : List Said) (z : Sizes)
    (exchange : Option (LoneExchange P E)) : Type 0 where
  pub driver : LoneExchange P E
  pub is : exchange ≡ Some driver
  pub at : IsAt carries frames sizes driver (setting_said slots z told) (world_said slots z told)
  pub bound : driver.control.map.bound ≡ moves (z.external + z.bridges)
  pub few : MovesFewSaid slots moves z told

-- an event can happen after these lines
pub record IsEventDue {P E : Type 0} (carries : Carrying E) (frames : E → ℕ) (sizes : E → Dimensions) (slots : ℕ) (moves : ℕ → ℕ) (told : List Said) (z : Sizes) (heading : SoFar)
    (exchange : Option (LoneExchange P E)) (e : Event) : Type 0 where
  pub heard : IsHeard carries frames sizes slots moves told z heading exchange
  pub fits : Fits z.external e
  pub few : length (events_in told) < 4294967294

-- the calls that end with an event after these lines
abbrev pub calls_at : ℕ → List Said → Sizes → Event → List CallRecord
calls_at slots told z e = calls_kept (kept_of (reply (setting_said slots z told) (world_said slots z told) e))

-- the event was processed: its line was appended, the meters recorded its calls, and the exchange is in the state after
-- it
pub record HasHappened {M P E : Type 0} (plays : Plays) (carries : Carrying E) (frames : E → ℕ) (sizes : E → Dimensions) (slots : ℕ) (moves : ℕ → ℕ)
    (stands : M → List CallRecord → Type 0) (text : M → List CallRecord → List ℕ) (told : List Said) (z : Sizes) (number : ℕ) (e : Event)
    (old new : List M) (before after : List ℕ) (exchange : Option (LoneExchange P E)) : Type 0 where
  pub driver : LoneExchange P E
  pub is : exchange ≡ Some driver
  pub at : IsAt carries frames sizes driver (setting_said slots z told) (next (setting_said slots z told) (world_said slots z told) e)
  pub bound : driver.control.map.bound ≡ moves (z.external + z.bridges)
  pub few : MovesFewIn moves (setting_said slots z told) (events_in told ++ e ∷ [])
  pub line : after ≡ before ++ event_line (plays (table_of (setting_said slots z told).tones)) (setting_said slots z told) (world_said slots z told) number e
  pub noted : AreTold stands text old new (calls_at slots told z e)
