-- The data links of the lines, and the legs that wait for one. Source: ITU-T Q.931 (05/98), 5.8.8 and 5.8.9.
use Rattle.std.specs.Prelude.{◌≡◌, ℕ, ◌==◌, Bool, true, false, List, [], ◌∷◌, length, All, Some, if◌then◌else◌, ◌*◌}
use Rattle.circuit_model.specs.declared.channel.Slot.{Slot}
use Rattle.circuit_model.specs.Extent.{IsExternal}
use Rattle.q931_codec.specs.CallStates.{active}
use Rattle.call_states.specs.declared.leg.Leg.{Leg}
use Rattle.exchange_events.specs.declared.trace.Event.{Event}
use Rattle.exchange_events.specs.declared.trace.Event.TheVariants.{LinkUp, LinkDown}
use Rattle.exchange_events.specs.Sizes.{Setting}
use Rattle.exchange_events.specs.Sound.{Fits, IsPlanned}
use Rattle.call_profile.specs.Legs.{Legs, leg_at, is_down, is_owed}
use Rattle.call_profile.specs.World.{World}
use Rattle.call_states.specs.Acts.{is_among}
use Rattle.call_profile.specs.LinkChanges.{being_cleared}

-- ---- the data links

-- whether the data link of a line is down after an event, by whether it was down before
abbrev pub down_after : ℕ → Bool → Event → Bool
down_after line down (LinkDown other) = if line == other then true else down
down_after line down (LinkUp other) = if line == other then false else down
down_after line down other = down

-- the last change of the line's data link was a failure; before the first change it is up
abbrev pub down_after_all : ℕ → Bool → List Event → Bool
down_after_all line down [] = down
down_after_all line down (e ∷ es) = down_after_all line (down_after line down e) es

-- the event is not the failure of a data link
abbrev pub KeepsLinks : Event → Type 0
KeepsLinks (LinkDown line) = ⊥
KeepsLinks other = Unit {0}

-- the events of a trace in which no data link fails
pub record HasNoFailure (s : Setting) (es : List Event) : Type 0 where
  pub planned : IsPlanned s
  pub fits : All (Fits s.dimensions.external) es
  pub keeps : All KeepsLinks es

-- the data link of no line is down
abbrev pub NoLinkIsDown : Legs → Type 0
NoLinkIsDown legs = (line : ℕ) → is_down legs line ≡ false

-- ---- the legs

-- T309 of the leg runs: it is in active, and waits for the data link of its line
abbrev pub AwaitsLink : Leg → Type 0
AwaitsLink leg = (leg.state ≡ active) × (leg.resent ≡ true)

-- the states in which the flag of an enquiry is set: it is set in active, and stays while the leg is being cleared
abbrev pub enquired_in : List ℕ
enquired_in = active ∷ being_cleared

-- an enquiry of a leg in active is open only while the link of the line is up; the flag stays until the leg is removed
pub record MayEnquire (down : Bool) (leg : Leg) : Type 0 where
  pub states : is_among enquired_in leg.state ≡ true
  pub up : leg.state ≡ active → down ≡ false

-- each line has a data link, and each slot a condition; T309 of a leg in active runs if and only if
-- the link of its line is down, an enquiry is open only while it is up, and a RESTART is owed only while it is down
pub record OutagesStand (external : ℕ) (legs : Legs) : Type 0 where
  pub links : length legs.down ≡ external
  pub conditions : length legs.conditions ≡ 30 * external
  pub waits : (x : Slot) (leg : Leg) → IsExternal external x → leg_at legs x ≡ Some leg → AwaitsLink leg → is_down legs x.line ≡ true
  pub runs : (x : Slot) (leg : Leg) → IsExternal external x → leg_at legs x ≡ Some leg → leg.state ≡ active → is_down legs x.line ≡ true → AwaitsLink leg
  pub enquiries : (x : Slot) (leg : Leg) → IsExternal external x → leg_at legs x ≡ Some leg → leg.enquired ≡ true → MayEnquire (is_down legs x.line) leg
  pub owed : (x : Slot) → IsExternal external x → is_owed legs x ≡ true → is_down legs x.line ≡ true

-- the leg is on a line whose data link is up
pub record IsOnLineUp (s : Setting) (w : World) (x : Slot) (leg : Leg) : Type 0 where
  pub within : IsExternal s.dimensions.external x
  pub at : leg_at w.legs x ≡ Some leg
  pub up : is_down w.legs x.line ≡ false
