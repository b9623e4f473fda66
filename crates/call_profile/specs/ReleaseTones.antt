-- The tone of a slot while its user is asked to release the call. A RELEASE has a cause only if it was sent because
-- DISCONNECT was not answered (ITU-T Q.931 (05/98), 5.3 and 9.1: T305). In this project's profile the user still hears
-- its tone after such a RELEASE.
use Rattle.std.specs.Prelude.{◌≡◌, ℕ, List, Option, Some, IfSome, option_map, option_and_then}
use Rattle.circuit_model.specs.declared.channel.Slot.{Slot}
use Rattle.circuit_model.specs.declared.circuit.Circuit.{Circuit}
use Rattle.circuit_model.specs.declared.circuit.Kind.{Kind}
use Rattle.circuit_model.specs.declared.circuit.Circuit.TheVariants.{Tone}
use Rattle.circuit_model.specs.Circuits.{heard_by}
use Rattle.circuit_model.specs.Extent.{IsExternal}
use Rattle.q931_codec.specs.declared.kind.MessageKind.TheVariants as kind
use Rattle.q931_codec.specs.CallStates.{disconnect_indication, release_request}
use Rattle.q931_codec.specs.Outgoing.{OutgoingMessage, encoding}
use Rattle.call_states.specs.declared.leg.Leg.{Leg}
use Rattle.tone_rules.specs.declared.tones.Tones.{Tones}
use Rattle.tone_rules.specs.CallTones.{tone_given}
use Rattle.call_profile.specs.Acts.{message_to}
use Rattle.call_profile.specs.Legs.{leg_at, kept_at}
use Rattle.call_profile.specs.World.{World}

-- the RELEASE to the user of a leg, with a cause or without one
abbrev pub release_with : Leg → Option ℕ → OutgoingMessage
release_with leg cause = record (message_to leg kind.Release) { cause = cause }

-- the tone that remains: with a cause the tone of disconnect indication with it, if the trace gives that; without one
-- none
abbrev pub tone_left : Tones → Option ℕ → Option Kind
tone_left tones cause = option_and_then (tone_given tones disconnect_indication) cause

-- the slot receives this tone; if there is none, nothing
abbrev pub HearsTone : Slot → Option Kind → Option Circuit → Type 0
HearsTone x tone heard = (since : ℕ) × (heard ≡ option_map (λ kind. Tone kind x since) tone)

-- the octets are a RELEASE to the user of the leg, without a cause or with the one with which the leg was cleared, and
-- this decides the tone of the slot
pub record SoundsByRelease (tones : Tones) (x : Slot) (leg : Leg) (octets : List ℕ) (heard : Option Circuit) : Type 0 where
  pub cause : Option ℕ
  pub own : IfSome cause (λ value. value ≡ leg.cause)
  pub kept : octets ≡ encoding (release_with leg cause)
  pub hears : HearsTone x (tone_left tones cause) heard

-- this holds of each slot whose leg is in release request, with the message stored there
abbrev pub ReleasesSound : ℕ → Tones → World → Type 0
ReleasesSound external tones w =
    (x : Slot) (leg : Leg) (octets : List ℕ) → IsExternal external x → leg_at w.legs x ≡ Some leg → leg.state ≡ release_request
    → kept_at w.legs x ≡ Some octets → SoundsByRelease tones x leg octets (heard_by w.holding.circuits x)

-- the same for the slots with a stored message
abbrev pub EachReleaseSounds : ℕ → Tones → World → Type 0
EachReleaseSounds external tones w =
    (x : Slot) (leg : Leg) → IsExternal external x → leg_at w.legs x ≡ Some leg → leg.state ≡ release_request
    → (octets : List ℕ) × (kept_at w.legs x ≡ Some octets) × SoundsByRelease tones x leg octets (heard_by w.holding.circuits x)
