-- One event of a trace with data links that is followed. Source: this project.
use Rattle.std.specs.Prelude.{◌≡◌, ℕ, ◌+◌, ◌<◌, ◌≤◌, List, [], ◌∷◌, ◌++◌, length, Option, Some}
use Rattle.circuit_model.specs.Dimensions.{Dimensions}
use Rattle.circuit_model.specs.Hears.{Plays}
use Rattle.tone_rules.specs.Tables.{table_of}
use Rattle.exchange_events.specs.declared.record.CallRecord.{CallRecord}
use Rattle.lone_exchange.specs.At.{Carrying}
use Rattle.meters.specs.Changing.{Event_done, Step, records_of}
use Rattle.trace_text.specs.declared.said.Said.TheVariants.{Happens as Said_happens}
use Rattle.trace_text.specs.declared.said.Sizes.{Sizes}
use Rattle.trace_text.specs.TraceGrammar.{events_in, numbers_in, plan_of, sizes_in, so_far, timers_in, timers_of, tones_in, tones_of}
use Rattle.linked_exchange.specs.declared.exchange.LinkedExchange.{LinkedExchange}
use Rattle.linked_exchange.specs.At.{IsLinkedAt}
use Rattle.linked_exchange.specs.Runs.{FitsLinked}
use Rattle.linked_exchange.specs.declared.steps.LinkedEvent.{LinkedEvent}
use Rattle.linked_exchange.specs.declared.steps.LinkedEvent.TheVariants as event
use Rattle.linked_exchange.specs.LinkedLines.{input_of}
use Rattle.linked_exchange.specs.LinkedStory.{linked_steps}
use Rattle.linked_text.specs.declared.said.LinkSaid.TheVariants.{Received}
use Rattle.linked_text.specs.declared.said.LinkHappening.{LinkHappening}
use Rattle.linked_text.specs.declared.said.LinkHappening.TheVariants as effect
use Rattle.trace_text.specs.declared.heading.Happening.TheVariants as happening
use Rattle.linked_text.specs.LinkEffects.{link_timers_in, link_timers_of, linked_in, plain_told}
use Rattle.linked_text.specs.LinkLines.{Content, LinkSoFar, On_link, Plain}
use Rattle.linked_exchange.specs.InTurn.{MovesFewInTurn, joint_said, link_timers_said, setting_in_turn}
use Rattle.linked_exchange.specs.States.{IsLinkedDriven, IsSaid}
use Rattle.linked_exchange.specs.Telling.{AreTold}

-- the heading has the header, the numbers, the tones, the links and the timers of these lines, some of which are links
pub record IsLinkedGiven (told : List Content) (z : Sizes) (heading : LinkSoFar) : Type 0 where
  pub header : sizes_in (plain_told told) ≡ Some z
  pub sized : heading.plain.sizes ≡ Some z
  pub plan : plan_of (numbers_in (plain_told told)) ≡ heading.plain.plan
  pub tones : tones_of (tones_in (plain_told told)) ≡ heading.plain.tones
  pub timers : timers_of (timers_in (plain_told told)) ≡ heading.plain.timers
  pub linked : linked_in told ≡ heading.linked
  pub link_timers : link_timers_of (link_timers_in told) ≡ heading.timers
  pub some : 1 ≤ length (linked_in told)
  pub sound : IsSaid (so_far (plain_told told))

-- and the exchange is their result
pub record IsLinkedHeard {P E : Type 0} (carries : Carrying E) (frames : E → ℕ) (sizes : E → Dimensions) (slots : ℕ) (moves : ℕ → ℕ) (told : List Content) (z : Sizes) (heading : LinkSoFar)
    (exchange : Option (LinkedExchange P E)) : Type 0 where
  pub given : IsLinkedGiven told z heading
  pub driven : IsLinkedDriven carries frames sizes slots moves told exchange

-- there is an exchange with links, in the state after these lines; each new path moved at most the fabric's number of live paths
pub record IsLinkedRunning {P E : Type 0} (carries : Carrying E) (frames : E → ℕ) (sizes : E → Dimensions) (slots : ℕ) (moves : ℕ → ℕ) (told : List Content) (z : Sizes)
    (exchange : Option (LinkedExchange P E)) : Type 0 where
  pub driver : LinkedExchange P E
  pub is : exchange ≡ Some driver
  pub at : IsLinkedAt carries frames sizes driver (setting_in_turn slots z told) (joint_said slots z told)
  pub bound : driver.exchange.control.map.bound ≡ moves (z.external + z.bridges)
  pub few : MovesFewInTurn slots moves z told

-- the content of a line with this event
abbrev pub content_of : LinkedEvent → Content
content_of (event.Event e) = Plain (Said_happens e.now)
content_of (event.Received line octets) = On_link (Received line octets.now)

-- the effect of a line with this event
abbrev pub effect_in : LinkedEvent → LinkHappening
effect_in (event.Event e) = effect.Plain (happening.Event e.now)
effect_in (event.Received line octets) = effect.Received line octets.now

-- the heading has counted this event, which fits the exchange
pub record IsLinkedNext (told : List Content) (z : Sizes) (heading : LinkSoFar) (e : LinkedEvent) : Type 0 where
  pub number : heading.plain.events ≡ length (events_in (plain_told told)) + 1
  pub fits : FitsLinked z.external (input_of e)
  pub few : length (events_in (plain_told told)) < 4294967294

-- an event can happen after these lines
pub record IsLinkedDue {P E : Type 0} (carries : Carrying E) (frames : E → ℕ) (sizes : E → Dimensions) (slots : ℕ) (moves : ℕ → ℕ) (told : List Content) (z : Sizes) (heading : LinkSoFar)
    (exchange : Option (LinkedExchange P E)) (e : LinkedEvent) : Type 0 where
  pub heard : IsLinkedHeard carries frames sizes slots moves told z heading exchange
  pub next : IsLinkedNext told z heading e

-- an event can happen on the exchange of these lines
pub record IsLinkedReady {P E : Type 0} (carries : Carrying E) (frames : E → ℕ) (sizes : E → Dimensions) (slots : ℕ) (moves : ℕ → ℕ) (told : List Content) (z : Sizes) (heading : LinkSoFar)
    (x : LinkedExchange P E) (e : LinkedEvent) : Type 0 where
  pub given : IsLinkedGiven told z heading
  pub running : IsLinkedRunning carries frames sizes slots moves told z (Some x)
  pub next : IsLinkedNext told z heading e

-- the steps of the event after these lines: one step, with its line and the records of the calls that ended with it
abbrev pub steps_at : Plays → ℕ → List Content → Sizes → LinkedEvent → List Step
steps_at plays slots told z e =
    let s = setting_in_turn slots z told in
    linked_steps (plays (table_of s.tones)) s (link_timers_said told) (joint_said slots z told) (length (events_in (plain_told told))) (content_of e ∷ [])

-- the records of a list of steps of one event
abbrev pub calls_in : List Step → List CallRecord
calls_in steps = records_of steps

-- the event was processed: its line was appended, the meters recorded its calls, and the exchange is in the state after it
pub record HasLinkedHappened {M P E : Type 0} (plays : Plays) (carries : Carrying E) (frames : E → ℕ) (sizes : E → Dimensions) (slots : ℕ) (moves : ℕ → ℕ)
    (stands : M → List CallRecord → Type 0) (text : M → List CallRecord → List ℕ) (told : List Content) (z : Sizes) (e : LinkedEvent)
    (old new : List M) (before after : List ℕ) (exchange : Option (LinkedExchange P E)) : Type 0 where
  pub line : List ℕ
  pub calls : List CallRecord
  pub steps : steps_at plays slots told z e ≡ Event_done line calls ∷ []
  pub appended : after ≡ before ++ line
  pub noted : AreTold stands text old new calls
  pub running : IsLinkedRunning carries frames sizes slots moves (told ++ content_of e ∷ []) z exchange
