-- The state of an exchange that follows a trace, between two events. Source: this project.
use Rattle.std.specs.Prelude.{◌≡◌, ℕ, ◌+◌, ◌≤◌, true, List, [], length, Option, Some, None}
use Rattle.circuit_model.specs.Dimensions.{Dimensions}
use Rattle.number_plan.specs.Plan.{all_targets}
use Rattle.exchange_events.specs.Sound.{is_reached}
use Rattle.lone_exchange.specs.declared.exchange.LoneExchange.{LoneExchange}
use Rattle.lone_exchange.specs.At.{Carrying, IsAt}
use Rattle.trace_text.specs.declared.said.Said.{Said}
use Rattle.trace_text.specs.declared.said.Sizes.{Sizes}
use Rattle.trace_text.specs.TraceGrammar.{events_in, sizes_in}
use Rattle.trace_text.specs.TraceLines.{SoFar}
use Rattle.linked_exchange.specs.declared.exchange.LinkedExchange.{LinkedExchange}
use Rattle.linked_exchange.specs.At.{IsLinkedAt}
use Rattle.linked_text.specs.LinkEffects.{plain_told}
use Rattle.linked_text.specs.LinkLines.{Content}
use Rattle.linked_exchange.specs.Told.{MovesFewSaid, setting_said, world_said}
use Rattle.linked_exchange.specs.InTurn.{MovesFewInTurn, joint_said, setting_in_turn}

-- the properties of lines that follow one another: the header has the sizes of an exchange, the numbers are routed to
-- its lines, and before the header there is no number, no event and no change
pub record IsSaid (k : SoFar) : Type 0 where
  pub some : (sizes : Sizes) → k.sizes ≡ Some sizes → 1 ≤ sizes.external
  pub few : (sizes : Sizes) → k.sizes ≡ Some sizes → sizes.external ≤ 32
  pub bridges : (sizes : Sizes) → k.sizes ≡ Some sizes → sizes.bridges ≤ 2
  pub planned : (sizes : Sizes) → k.sizes ≡ Some sizes → all_targets (is_reached sizes.external) k.plan ≡ true
  pub unplanned : k.sizes ≡ None → k.plan ≡ []
  pub no_events : k.sizes ≡ None → k.events ≡ 0
  pub no_changes : k.sizes ≡ None → k.changes ≡ 0

-- The exchange is in the state after these lines, in the setting of their header. Each new path moved at most the
-- fabric's number of live paths.
pub record IsAfter {P E : Type 0} (carries : Carrying E) (frames : E → ℕ) (sizes : E → Dimensions) (slots : ℕ) (moves : ℕ → ℕ) (told : List Said) (x : LoneExchange P E) : Type 0 where
  pub header : Sizes
  pub given : sizes_in told ≡ Some header
  pub at : IsAt carries frames sizes x (setting_said slots header told) (world_said slots header told)
  pub bound : x.control.map.bound ≡ moves (header.external + header.bridges)
  pub few : MovesFewSaid slots moves header told

-- there is no exchange before the first event, and after it the exchange is in the state after these lines
abbrev pub IsDriven : {P E : Type 0} → Carrying E → (E → ℕ) → (E → Dimensions) → ℕ → (ℕ → ℕ) → List Said → Option (LoneExchange P E) → Type 0
IsDriven carries frames sizes slots moves told None = events_in told ≡ []
IsDriven carries frames sizes slots moves told (Some x) = (1 ≤ length (events_in told)) × IsAfter carries frames sizes slots moves told x

-- The exchange and its links are in the state after these lines, in the setting of their header. Each new path moved at
-- most the fabric's number of live paths.
pub record IsLinkedAfter {P E : Type 0} (carries : Carrying E) (frames : E → ℕ) (sizes : E → Dimensions) (slots : ℕ) (moves : ℕ → ℕ) (told : List Content) (x : LinkedExchange P E) : Type 0 where
  pub header : Sizes
  pub given : sizes_in (plain_told told) ≡ Some header
  pub at : IsLinkedAt carries frames sizes x (setting_in_turn slots header told) (joint_said slots header told)
  pub bound : x.exchange.control.map.bound ≡ moves (header.external + header.bridges)
  pub few : MovesFewInTurn slots moves header told

-- there is no exchange with links before the first event, and after it the exchange is in the state after these lines
abbrev pub IsLinkedDriven : {P E : Type 0} → Carrying E → (E → ℕ) → (E → Dimensions) → ℕ → (ℕ → ℕ) → List Content → Option (LinkedExchange P E) → Type 0
IsLinkedDriven carries frames sizes slots moves told None = events_in (plain_told told) ≡ []
IsLinkedDriven carries frames sizes slots moves told (Some x) = (1 ≤ length (events_in (plain_told told))) × IsLinkedAfter carries frames sizes slots moves told x
