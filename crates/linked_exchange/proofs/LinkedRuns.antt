-- An exchange with data links, at the events of what is known.
use Rattle.std.proofs.Common.{◌≡◌, ℕ, ◌+◌, ◌≤◌, List, [], ◌∷◌, length, Some, refl, sym, ap, ◌∙◌, subst, arith}
use Rattle.circuit_model.specs.Dimensions.{Dimensions}
use Rattle.exchange_events.specs.declared.trace.Event.{Event}
use Rattle.lone_exchange.specs.At.{Carrying}
use Rattle.trace_text.specs.declared.said.Sizes.{Sizes}
use Rattle.linked_exchange.specs.declared.exchange.LinkedExchange.{LinkedExchange}
use Rattle.linked_exchange.specs.At.{IsLinkedAt}
use Rattle.linked_exchange.specs.Runs.{derived_trace}
use Rattle.linked_exchange.specs.Steps.{LinkedInput}
use Rattle.linked_exchange.specs.LinkedStory.{inputs_in}
use Rattle.linked_text.specs.LinkEffects.{in_turn, link_row, linked_in}
use Rattle.linked_text.specs.LinkLines.{Content, LinkSoFar}
use Rattle.linked_text.specs.LinkTimers.{link_timers_by}
use Rattle.linked_exchange.specs.Told.{MovesFewIn}
use Rattle.linked_exchange.specs.InTurn.{events_by, events_in_turn, link_timers_said, setting_in_turn}
use Rattle.linked_exchange.specs.States.{IsLinkedAfter}
use Rattle.linked_exchange.proofs.FollowedSteps.{setting_by}
use Rattle.linked_exchange.proofs.TurnSteps.{joint_by}

-- the events of what is known
abbrev pub trace_by : ℕ → Sizes → LinkSoFar → List LinkedInput → List Event
trace_by slots z k is = derived_trace (setting_by slots z k.plain) (link_timers_by k.timers) (link_row z.external k.linked) is

pub events_linked : (linked : List ℕ) (slots : ℕ) (z : Sizes) (told : List Content) → 1 ≤ length linked → linked_in told ≡ linked → events_in_turn slots z told ≡ trace_by slots z (in_turn told) (inputs_in told)
events_linked [] slots z told some is = absurd (omega (arith, some))
events_linked (line ∷ linked) slots z told some is =
    ap (λ (ls : List ℕ). events_by ls slots z told) is
    ∙ ap (λ (ls : List ℕ). derived_trace (setting_in_turn slots z told) (link_timers_said told) (link_row z.external ls) (inputs_in told)) (sym is)

-- it is at the joint of what is known
pub record IsAtKnown {P E : Type 0} (carries : Carrying E) (frames : E → ℕ) (sizes : E → Dimensions) (slots : ℕ) (moves : ℕ → ℕ) (k : LinkSoFar) (is : List LinkedInput) (x : LinkedExchange P E) : Type 0 where
  pub header : Sizes
  pub given : k.plain.sizes ≡ Some header
  pub at : IsLinkedAt carries frames sizes x (setting_by slots header k.plain) (joint_by slots header k is)
  pub bound : x.exchange.control.map.bound ≡ moves (header.external + header.bridges)
  pub few : MovesFewIn moves (setting_by slots header k.plain) (trace_by slots header k is)

module _ {P E : Type 0} (carries : Carrying E) (frames : E → ℕ) (sizes : E → Dimensions) (slots : ℕ) (moves : ℕ → ℕ) (told : List Content) (some : 1 ≤ length (linked_in told)) (x : LinkedExchange P E) where
  pub known_after : IsLinkedAfter carries frames sizes slots moves told x → IsAtKnown carries frames sizes slots moves (in_turn told) (inputs_in told) x
  known_after a = record { header = a.header; given = a.given; at = a.at; bound = a.bound; few = subst (MovesFewIn moves (setting_in_turn slots a.header told)) (events_linked (linked_in told) slots a.header told some refl) a.few }

  pub after_known : IsAtKnown carries frames sizes slots moves (in_turn told) (inputs_in told) x → IsLinkedAfter carries frames sizes slots moves told x
  after_known a = record { header = a.header; given = a.given; at = a.at; bound = a.bound; few = subst (MovesFewIn moves (setting_in_turn slots a.header told)) (sym (events_linked (linked_in told) slots a.header told some refl)) a.few }
