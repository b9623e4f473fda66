-- The first frame of a leg's wait in its state, and the message that is stored for retransmission to its user (ITU-T
-- Q.931 (05/98), 9.1: T303 for SETUP, T308 for RELEASE). The choice of the retransmitted messages is this project's
-- profile.
use Rattle.std.specs.Prelude.{◌≡◌, ℕ, ◌*◌, ◌≤◌, true, false, List, [], ◌∷◌, length, Option, Some, None, IfSome}
use Rattle.circuit_model.specs.declared.channel.Slot.{Slot}
use Rattle.circuit_model.specs.Extent.{IsExternal}
use Rattle.q931_codec.specs.declared.kind.MessageKind.{MessageKind}
use Rattle.q931_codec.specs.declared.kind.MessageKind.TheVariants as kind
use Rattle.q931_codec.specs.CallStates.{call_present, release_request}
use Rattle.q931_codec.specs.Outgoing.{OutgoingMessage, IsWritable, encoding}
use Rattle.call_states.specs.Acts.{is_among}
use Rattle.call_states.specs.Status.{flag_to}
use Rattle.call_states.specs.declared.leg.Leg.{Leg}
use Rattle.call_profile.specs.Legs.{Legs, leg_at, kept_at}
use Rattle.call_profile.specs.World.{World}

-- the states of a leg in which a message is stored for retransmission
abbrev pub awaiting_answer : List ℕ
awaiting_answer = call_present ∷ release_request ∷ []

-- the state of a leg whose user was sent such a message, and has not replied to it yet
abbrev pub state_after : MessageKind → Option ℕ
state_after kind.Setup = Some call_present
state_after kind.Release = Some release_request
state_after _ = None

-- a message to the user of this leg, without a progress indicator, whose reply the leg waits for
pub record IsAwaited (leg : Leg) (message : OutgoingMessage) : Type 0 where
  pub flag : message.flag ≡ flag_to leg.side
  pub reference : message.reference ≡ leg.reference
  pub state : state_after message.kind ≡ Some leg.state
  pub writable : IsWritable message
  pub quiet : message.progress ≡ false

-- the stored octets of a leg are such a message
pub record IsKept (leg : Leg) (octets : List ℕ) : Type 0 where
  pub message : OutgoingMessage
  pub encoded : octets ≡ encoding message
  pub awaited : IsAwaited leg message

-- a message is stored at a slot if and only if its leg is in such a state
abbrev pub MayKeep : Option Leg → Option (List ℕ) → Type 0
MayKeep None None = Unit {0}
MayKeep None (Some octets) = ⊥
MayKeep (Some leg) None = is_among awaiting_answer leg.state ≡ false
MayKeep (Some leg) (Some octets) = IsKept leg octets

-- each leg has waited in its state since a frame that is at most the next one
pub record LegsWait (external next : ℕ) (legs : Legs) : Type 0 where
  pub legs_count : length legs.held ≡ 30 * external
  pub count : length legs.kept ≡ 30 * external
  pub since : (x : Slot) → IsExternal external x → IfSome (leg_at legs x) (λ leg. leg.since ≤ next)
  pub each : (x : Slot) → IsExternal external x → MayKeep (leg_at legs x) (kept_at legs x)

-- ---- the stored messages of an exchange state

abbrev pub EachBegan : ℕ → World → Type 0
EachBegan external w = (x : Slot) (leg : Leg) → IsExternal external x → leg_at w.legs x ≡ Some leg → leg.since ≤ w.holding.next

abbrev pub EachIsKept : ℕ → World → Type 0
EachIsKept external w =
    (x : Slot) (leg : Leg) → IsExternal external x → leg_at w.legs x ≡ Some leg → is_among awaiting_answer leg.state ≡ true
    → (octets : List ℕ) × (kept_at w.legs x ≡ Some octets) × IsKept leg octets

-- in no other state a message is stored
abbrev pub NoneElseIsKept : ℕ → World → Type 0
NoneElseIsKept external w =
    (x : Slot) (octets : List ℕ) → IsExternal external x → kept_at w.legs x ≡ Some octets
    → (leg : Leg) × (leg_at w.legs x ≡ Some leg) × (is_among awaiting_answer leg.state ≡ true)
