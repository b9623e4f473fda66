-- An exchange with data links, and its exchange state and links. Source: this project.
use Rattle.std.specs.Prelude.{◌≡◌, ℕ, ◌≤◌, Bool, List, length, None}
use Rattle.circuit_model.specs.Dimensions.{Dimensions}
use Rattle.circuit_model.specs.Hears.{Plays}
use Rattle.exchange_events.specs.declared.outbox.Response.{Response}
use Rattle.exchange_events.specs.declared.outbox.Response.TheVariants.{Sent}
use Rattle.exchange_events.specs.declared.trace.Event.{Event}
use Rattle.exchange_events.specs.Responses.{reply_of}
use Rattle.exchange_events.specs.Sizes.{Setting}
use Rattle.exchange_events.specs.Sound.{IsPlanned}
use Rattle.call_profile.specs.Step.{world_after_all}
use Rattle.lone_exchange.specs.declared.exchange.LoneExchange.{LoneExchange}
use Rattle.lone_exchange.specs.At.{Carrying, EachAt, HasPlayed, IsAt, IsGiven, size}
use Rattle.linked_exchange.specs.declared.exchange.LinkedExchange.{LinkedExchange}
use Rattle.linked_exchange.specs.declared.settings.Settings.{Settings}
use Rattle.linked_exchange.specs.Steps.{Joint, LinkedInput, derived, next_joint, reply_to}
use Rattle.linked_exchange.specs.Runs.{start_joint}

-- between two steps, the exchange and its links are in this state of this setting: no frame waits for the end of its step, and each link belongs to
-- an external line
pub record IsLinkedAt {P E : Type 0} (carries : Carrying E) (frames : E → ℕ) (sizes : E → Dimensions) (x : LinkedExchange P E) (s : Setting) (j : Joint) : Type 0 where
  pub exchange : IsAt carries frames sizes x.exchange s j.world
  pub links : x.links ≡ j.links
  pub ended : j.links.receiving ≡ None
  pub lines : length j.links.links ≤ s.dimensions.external

-- the setting has the plan, the tones and the timers of these settings
abbrev pub HasSettings : Settings → Setting → Type 0
HasSettings settings s = IsGiven settings.plan.now settings.tones.now settings.timers.now s

-- a property of each such setting and each such state
abbrev pub EachLinked : {P E : Type 0} → Carrying E → (E → ℕ) → (E → Dimensions) → Settings → LinkedExchange P E → (Setting → Joint → Type 0) → Type 0
EachLinked carries frames sizes settings x Says =
    (s : Setting) (j : Joint) → HasSettings settings s → IsLinkedAt carries frames sizes x s j → Says s j

-- the exchange and its links are in some state of some such setting
abbrev pub IsSomewhere : {P E : Type 0} → Carrying E → (E → ℕ) → (E → Dimensions) → Settings → LinkedExchange P E → Type 0
IsSomewhere carries frames sizes settings x = (s : Setting) × (j : Joint) × HasSettings settings s × IsLinkedAt carries frames sizes x s j

-- ---- before the first step

-- the plan has only lines of the exchange
abbrev pub IsPlannedFor : Dimensions → Settings → Type 0
IsPlannedFor d settings = IsPlanned (record { dimensions = d; plan = settings.plan.now; tones = settings.tones.now; timers = settings.timers.now })

-- the exchange and its links are at the start of each setting of this size
abbrev pub StartsLinkedAt : {P E : Type 0} → Carrying E → (E → ℕ) → (E → Dimensions) → Settings → ℕ → ℕ → ℕ → List Bool → LinkedExchange P E → Type 0
StartsLinkedAt carries frames sizes settings external bridges slots linked x =
    (s : Setting) → s.dimensions ≡ size external bridges slots → HasSettings settings s → IsLinkedAt carries frames sizes x s (start_joint s linked)

-- ---- the event of a step

-- in each state of an exchange x, these events change it to y
abbrev pub PassesAll : {P E : Type 0} → Carrying E → (E → ℕ) → (E → Dimensions) → Settings → List Event → (x y : LoneExchange P E) → Type 0
PassesAll carries frames sizes settings es x y =
    EachAt carries frames sizes settings.plan.now settings.tones.now settings.timers.now x (λ s w. IsAt carries frames sizes y s (world_after_all s w es))

-- in each state of an exchange x, the outbox of y is the reply to the first of these events
abbrev pub RepliesFirst : {P E : Type 0} → Carrying E → (E → ℕ) → (E → Dimensions) → Settings → List Event → (x y : LoneExchange P E) → Type 0
RepliesFirst carries frames sizes settings es x y =
    EachAt carries frames sizes settings.plan.now settings.tones.now settings.timers.now x (λ s w. reply_of Sent y.context.out ≡ reply_to s w es)

-- ---- a step

-- in each such state, the step changes the exchange x to y, which is in the next state
abbrev pub Steps : {P E : Type 0} → Carrying E → (E → ℕ) → (E → Dimensions) → Settings → LinkedInput → (x y : LinkedExchange P E) → Type 0
Steps carries frames sizes settings input x y =
    EachLinked carries frames sizes settings x (λ s j. IsLinkedAt carries frames sizes y s (next_joint s settings.link_timers.now j input))

-- in each such state, the response and the outbox are the reply to the event of the step
abbrev pub RepliesTo : {P E : Type 0} → Carrying E → (E → ℕ) → (E → Dimensions) → Settings → LinkedInput → LinkedExchange P E → Response → LinkedExchange P E → Type 0
RepliesTo carries frames sizes settings input x response y =
    EachLinked carries frames sizes settings x (λ s j.
    reply_of response y.exchange.context.out ≡ reply_to s j.world (derived settings.link_timers.now j input))

-- in each such state, if the event is a frame, the octets are the output of the engine in it
abbrev pub PlaysAt : {P E : Type 0} → Carrying E → (E → ℕ) → (E → Dimensions) → Plays → Settings → Event → (x y : LinkedExchange P E) → Type 0
PlaysAt carries frames sizes plays settings e x y =
    EachLinked carries frames sizes settings x (λ s j. HasPlayed plays s j.world e y.exchange)
