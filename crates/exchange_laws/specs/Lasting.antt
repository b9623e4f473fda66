-- The calls of an exchange whose data links are up. Source: this project.
use Rattle.std.specs.Prelude.{◌≡◌, ◌||◌, Bool, true, ℕ, List, Some}
use Rattle.circuit_model.specs.declared.channel.Slot.{Slot}
use Rattle.circuit_model.specs.Extent.{IsExternal}
use Rattle.circuit_model.specs.FrameInput.{Input}
use Rattle.q931_codec.specs.CallStates.{active}
use Rattle.call_states.specs.declared.leg.Leg.{Leg}
use Rattle.call_states.specs.declared.leg.Peer.TheVariants as peer
use Rattle.exchange_events.specs.Sizes.{Setting}
use Rattle.call_profile.specs.Legs.{leg_at}
use Rattle.call_laws.specs.LostLegs.{IsUnchanged}
use Rattle.link_procedures.specs.declared.state.LinkTimers.{LinkTimers}
use Rattle.link_procedures.specs.Links.{DataLink}
use Rattle.link_table.specs.Tables.{IsLinkOf}
use Rattle.linked_exchange.specs.Steps.{Joint, LinkedInput}
use Rattle.linked_exchange.specs.Runs.{joint_after_all, start_joint}
use Rattle.exchange_laws.specs.Layers.{AreInputs, is_taken_for_up}

-- the exchange state and the links after inputs from the start
abbrev pub joint_of_run : Setting → LinkTimers → List Bool → List LinkedInput → Joint
joint_of_run s timers linked is = joint_after_all s timers (start_joint s linked) is

-- after the inputs, layer 3 takes the data link of the line for up
pub record IsLinkUp (s : Setting) (timers : LinkTimers) (linked : List Bool) (is : List LinkedInput) (line : ℕ) : Type 0 where
  pub inputs : AreInputs s linked line is
  pub link : DataLink
  pub at : IsLinkOf (joint_of_run s timers linked is).links.links line link
  pub up : is_taken_for_up link ≡ true

-- a leg in active: the data link of its line is up, and so is the link of the other leg of its call, if there is one
pub record HasLinksUp (s : Setting) (timers : LinkTimers) (linked : List Bool) (is : List LinkedInput) (x : Slot) (leg : Leg) : Type 0 where
  pub within : IsExternal s.dimensions.external x
  pub at : leg_at (joint_of_run s timers linked is).world.legs x ≡ Some leg
  pub state : leg.state ≡ active
  pub own : IsLinkUp s timers linked is x.line
  pub other : (y : Slot) → leg.peer ≡ peer.Leg y → IsLinkUp s timers linked is y.line

-- no frame changes such a leg, nor its connection or its membership
abbrev pub LastsOnLinks : Setting → LinkTimers → List Bool → List LinkedInput → Input → Type 0
LastsOnLinks s timers linked is input =
    (x : Slot) (leg : Leg) → HasLinksUp s timers linked is x leg → IsUnchanged s (joint_of_run s timers linked is).world input x leg
