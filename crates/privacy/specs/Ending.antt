-- The messages that end a call. Source: this project; the messages are from ITU-T Q.931 (05/98), 5.3, 5.5, 5.8.10 and
-- 5.8.11.
use Rattle.std.specs.Prelude.{◌≡◌, ◌≢◌, ◌⊎◌, ℕ, true, List, Some}
use Rattle.circuit_model.specs.declared.channel.Slot.{Slot}
use Rattle.q931_codec.specs.declared.kind.MessageKind.TheVariants as kind
use Rattle.q931_codec.specs.declared.message.Message.{Message}
use Rattle.q931_codec.specs.CallStates.{active, null}
use Rattle.q931_codec.specs.Contents.{call_state_in}
use Rattle.call_states.specs.declared.leg.HeldLeg.{HeldLeg}
use Rattle.call_states.specs.declared.leg.Leg.{Leg}
use Rattle.clearing_rules.specs.declared.scope.Restart.{Restart}
use Rattle.exchange_events.specs.Sizes.{Setting}
use Rattle.call_profile.specs.Calls.{For_leg, Restarts, request_of}
use Rattle.call_profile.specs.Restarts.{restarts_slot}
use Rattle.call_profile.specs.World.{World}
use Rattle.privacy.specs.Consent.{IsOneCall}

-- the message clears the call of its leg: DISCONNECT, RELEASE, RELEASE COMPLETE, or a STATUS that reports the null state;
-- or a STATUS that reports another state than active, if the leg is in active, and its user was sent STATUS ENQUIRY after an
-- outage and has not reported its state since
pub data IsClearing (h : HeldLeg) (m : Message) : Type 0 where
  By_disconnect : m.kind ≡ kind.Disconnect → IsClearing h m
  By_release : m.kind ≡ kind.Release → IsClearing h m
  By_release_complete : m.kind ≡ kind.ReleaseComplete → IsClearing h m
  By_status : m.kind ≡ kind.Status → call_state_in m.elements ≡ Some null → IsClearing h m
  By_report : (reported : ℕ) → m.kind ≡ kind.Status → call_state_in m.elements ≡ Some reported → reported ≢ active → h.leg.state ≡ active
      → h.leg.enquired ≡ true → IsClearing h m

-- the octets on the line are a clearing message for the leg at one of the two slots, or a RESTART of one of the two slots
pub data IsEnding (w : World) (x y : Slot) (line : ℕ) (octets : List ℕ) : Type 0 where
  Of_leg : (h : HeldLeg) (m : Message) → request_of w.legs line octets ≡ For_leg h m → (h.slot ≡ x) ⊎ (h.slot ≡ y) → IsClearing h m
      → IsEnding w x y line octets
  Of_slot : (r : Restart) → request_of w.legs line octets ≡ Restarts r → (restarts_slot r line x ≡ true) ⊎ (restarts_slot r line y ≡ true)
      → IsEnding w x y line octets

-- the call of these two legs goes on: the legs at the two slots are still of one call, with the same call references
abbrev pub Lasts : Setting → World → Slot → Slot → Leg → Leg → Type 0
Lasts s w x y caller called = IsOneCall s.dimensions.external x y caller.reference called.reference w
