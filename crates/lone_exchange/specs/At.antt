-- An exchange that one caller drives, and its exchange state. Source: this project.
use Rattle.std.specs.Prelude.{◌≡◌, ℕ, ◌≤◌, ◌++◌, List, [], length, replicate, All}
use Rattle.circuit_model.specs.declared.circuit.Circuit.{Circuit}
use Rattle.circuit_model.specs.Dimensions.{Dimensions}
use Rattle.circuit_model.specs.FrameInput.{Input, idle_octet}
use Rattle.circuit_model.specs.Hears.{Plays}
use Rattle.circuit_model.specs.Ports.{Ports}
use Rattle.circuit_map.specs.Connections.{Connections}
use Rattle.tone_rules.specs.declared.tones.Tones.{Tones}
use Rattle.tone_rules.specs.Tables.{table_of}
use Rattle.call_timers.specs.declared.timers.Timers.{Timers}
use Rattle.number_plan.specs.declared.plan.Number.{Number}
use Rattle.frame_engine.specs.Frames.{PlaysOut}
use Rattle.exchange_events.specs.declared.outbox.Response.{Response}
use Rattle.exchange_events.specs.declared.trace.Event.{Event}
use Rattle.exchange_events.specs.declared.trace.Event.TheVariants.{Frame}
use Rattle.exchange_events.specs.Responses.{reply_of}
use Rattle.exchange_events.specs.Sizes.{Setting}
use Rattle.exchange_events.specs.Sound.{Fits, IsPlanned}
use Rattle.call_profile.specs.Legs.{Legs}
use Rattle.call_profile.specs.Step.{next, reply, world_after_all}
use Rattle.call_profile.specs.World.{World, pass, start}
use Rattle.call_control.specs.AtWork.{IsAtWork}
use Rattle.call_control.specs.Standing.{Holds}
use Rattle.exchange_core.specs.declared.tool.Tool.{Tool}
use Rattle.exchange_core.specs.Working.{IsToolFor}
use Rattle.report_text.specs.RunReport.{event_line}
use Rattle.lone_exchange.specs.declared.exchange.LoneExchange.{LoneExchange}

-- the frames that an engine of some type carries: their inputs, circuits and conference ports
abbrev pub Carrying : Type 0 → Type 1
Carrying E = E → List Input → List (List Circuit) → List Ports → Type 0

-- the tool of every frame, for any input: a control memory of this size
abbrev pub IsFrameTool : Dimensions → Tool → Type 0
IsFrameTool d tool = IsToolFor d (Frame []) tool

-- the exchange state after some events that fit the exchange, from its initial state
pub record ComesAbout (s : Setting) (w : World) : Type 0 where
  pub events : List Event
  pub fit : All (Fits s.dimensions.external) events
  pub after : w ≡ world_after_all s (start s.dimensions) events

-- the exchange is in this state of this setting: it has the path map and the legs of the state, the engine carries the frames of the state and has
-- its next frame, and the engine, the control memory and the octets have the size of the exchange
pub record IsAt {P E : Type 0} (carries : Carrying E) (frames : E → ℕ) (sizes : E → Dimensions) (x : LoneExchange P E) (s : Setting) (w : World) : Type 0 where
  pub few : s.dimensions.external ≤ 32
  pub work : IsAtWork s x.control.map x.control.legs w
  pub came : ComesAbout s w
  pub carried : carries x.engine w.inputs w.held w.seated
  pub number : frames x.engine ≡ w.holding.next
  pub sized : sizes x.engine ≡ s.dimensions
  pub image : IsFrameTool s.dimensions x.context.tool
  pub lines : length x.octets.items ≡ s.dimensions.external

-- ---- before the first event

abbrev pub size : ℕ → ℕ → ℕ → Dimensions
size external bridges slots = record { external = external; bridges = bridges; slots = slots }

-- the path map and the legs of the initial state of an exchange of this size
abbrev pub HoldsNothing : ℕ → ℕ → ℕ → Connections → Legs → Type 0
HoldsNothing external bridges slots map legs = let d = size external bridges slots in Holds d map legs (start d)

-- the engine has carried no frame, and the control memory has its size
pub record AreUnused {E : Type 0} (carries : Carrying E) (frames : E → ℕ) (sizes : E → Dimensions) (d : Dimensions) (engine : E) (tool : Tool) : Type 0 where
  pub carried : carries engine [] [] []
  pub number : frames engine ≡ 0
  pub sized : sizes engine ≡ d
  pub image : IsFrameTool d tool

-- the octets of each of the external lines are idle
unfoldable pub idle_lines : ℕ → List (List ℕ)
idle_lines external = replicate external (replicate 30 idle_octet)

-- the exchange is in the initial state of each setting of this size
abbrev pub StartsAt : {P E : Type 0} → Carrying E → (E → ℕ) → (E → Dimensions) → ℕ → ℕ → ℕ → LoneExchange P E → Type 0
StartsAt carries frames sizes external bridges slots x =
    (s : Setting) → s.dimensions ≡ size external bridges slots → IsPlanned s → IsAt carries frames sizes x s (start s.dimensions)

-- ---- an event

-- the setting has this plan, these tones and these timers
pub record IsGiven (plan : List Number) (tones : Tones) (timers : Timers) (s : Setting) : Type 0 where
  pub plan_is : s.plan ≡ plan
  pub tones_are : s.tones ≡ tones
  pub timers_are : s.timers ≡ timers

-- the exchange is in some state of some such setting
abbrev pub IsSomewhere : {P E : Type 0} → Carrying E → (E → ℕ) → (E → Dimensions) → List Number → Tones → Timers → LoneExchange P E → Type 0
IsSomewhere carries frames sizes plan tones timers x = (s : Setting) × (w : World) × IsGiven plan tones timers s × IsAt carries frames sizes x s w

-- a property of each such setting and each such state
abbrev pub EachAt : {P E : Type 0} → Carrying E → (E → ℕ) → (E → Dimensions) → List Number → Tones → Timers → LoneExchange P E
    → (Setting → World → Type 0) → Type 0
EachAt carries frames sizes plan tones timers x Says =
    (s : Setting) (w : World) → IsGiven plan tones timers s → IsAt carries frames sizes x s w → Says s w

-- in each of them, the event changes the exchange x to y, which is in the next state
abbrev pub Passes : {P E : Type 0} → Carrying E → (E → ℕ) → (E → Dimensions) → List Number → Tones → Timers → Event → (x y : LoneExchange P E) → Type 0
Passes carries frames sizes plan tones timers e x y =
    EachAt carries frames sizes plan tones timers x (λ s w. IsAt carries frames sizes y s (next s w e))

-- the response and the outbox are the reply of the event in this state
abbrev pub HasReplied : {P E : Type 0} → Setting → World → Event → Response → LoneExchange P E → Type 0
HasReplied s w e response y = reply_of response y.context.out ≡ reply s w e

abbrev pub Replies : {P E : Type 0} → Carrying E → (E → ℕ) → (E → Dimensions) → List Number → Tones → Timers → Event → LoneExchange P E → Response → LoneExchange P E → Type 0
Replies carries frames sizes plan tones timers e x response y =
    EachAt carries frames sizes plan tones timers x (λ s w. HasReplied s w e response y)

-- the octets of each external line are the output of the engine, in the frame that starts in this state with this input
pub record ArePlayed (plays : Plays) (s : Setting) (w : World) (input : Input) (octets : List (List ℕ)) : Type 0 where
  pub lines : length octets ≡ s.dimensions.external
  pub played : PlaysOut s.dimensions.external (plays (table_of s.tones) (pass w input).inputs (pass w input).held w.holding.next) octets

-- if the event is a frame, the octets are the output of the engine in it
abbrev pub HasPlayed : {P E : Type 0} → Plays → Setting → World → Event → LoneExchange P E → Type 0
HasPlayed plays s w e y = (input : Input) → e ≡ Frame input → ArePlayed plays s w input y.octets.items

abbrev pub PlaysDue : {P E : Type 0} → Carrying E → (E → ℕ) → (E → Dimensions) → Plays → List Number → Tones → Timers → Event → (x y : LoneExchange P E) → Type 0
PlaysDue carries frames sizes plays plan tones timers e x y =
    EachAt carries frames sizes plan tones timers x (λ s w. HasPlayed plays s w e y)

-- the text is extended by the line of the event
abbrev pub Appends : Plays → Setting → World → Event → ℕ → (text longer : List ℕ) → Type 0
Appends plays s w e number text longer = longer ≡ text ++ event_line (plays (table_of s.tones)) s w number e
