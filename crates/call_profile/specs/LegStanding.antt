-- The consistency of the legs of an exchange state. Source: this project; the states are from ITU-T Q.931 (05/98),
-- 2.1.2.
use Rattle.std.specs.Prelude.{◌≡◌, ◌≢◌, ℕ, ◌*◌, ◌^◌, ◌<◌, ◌≤◌, ◌⊎◌, ◌&&◌, ◌||◌, ◌==◌, Bool, IsTrue, List, [], ◌∷◌, length, Option, Some, None}
use Rattle.circuit_model.specs.declared.channel.Slot.{Slot}
use Rattle.circuit_model.specs.declared.circuit.Circuit.{Circuit}
use Rattle.circuit_model.specs.declared.circuit.Kind.{Kind}
use Rattle.circuit_model.specs.declared.circuit.Circuit.TheVariants.{Pair, Member, Tone}
use Rattle.circuit_model.specs.Circuits.{heard_by}
use Rattle.circuit_model.specs.Extent.{IsExternal}
use Rattle.circuit_model.specs.Holding.{Valid}
use Rattle.q931_codec.specs.CallStates.{overlap_sending, outgoing_call_proceeding, call_delivered, call_present, call_received, incoming_call_proceeding, active, disconnect_indication, release_request}
use Rattle.call_states.specs.Acts.{every_state, is_among}
use Rattle.call_states.specs.declared.leg.Leg.{Leg}
use Rattle.call_states.specs.declared.leg.Peer.{Peer}
use Rattle.call_states.specs.declared.leg.Peer.TheVariants as peer
use Rattle.call_states.specs.declared.leg.Side.{Side}
use Rattle.call_states.specs.declared.leg.Side.TheVariants.{Caller, Called}
use Rattle.tone_rules.specs.declared.tones.Tones.{Tones}
use Rattle.tone_rules.specs.CallTones.{tone_given}
use Rattle.call_profile.specs.Acts.{tone_of}
use Rattle.call_profile.specs.Legs.{Legs, leg_at}
use Rattle.exchange_events.specs.Sizes.{Setting}
use Rattle.call_profile.specs.KeptMessages.{LegsWait}
use Rattle.call_profile.specs.ReleaseTones.{ReleasesSound}
use Rattle.call_profile.specs.Waiting.{NumbersPend}
use Rattle.call_profile.specs.World.{World}

-- the states of a caller's leg and of its called leg
abbrev pub are_matched : ℕ → ℕ → Bool
are_matched caller called =
    ((caller == outgoing_call_proceeding) && is_among (call_present ∷ incoming_call_proceeding ∷ []) called)
    || ((caller == call_delivered) && (called == call_received))
    || ((caller == active) && (called == active))

-- the legs at these slots are the two of one call: each is the other's peer, from the two sides of the call, in states
-- that go together
pub record AreOneCall (x : Slot) (caller : Leg) (y : Slot) (called : Leg) : Type 0 where
  pub calls : caller.side ≡ Caller
  pub is_called : called.side ≡ Called
  pub there : caller.peer ≡ peer.Leg y
  pub back : called.peer ≡ peer.Leg x
  pub matched : IsTrue (are_matched caller.state called.state)

abbrev pub IsInCall : Side → Slot → Leg → Slot → Leg → Type 0
IsInCall Caller x leg y other = AreOneCall x leg y other
IsInCall Called x leg y other = AreOneCall y other x leg

-- the states in which a leg has no peer
abbrev pub alone : List ℕ
alone = overlap_sending ∷ disconnect_indication ∷ release_request ∷ []

-- the peer of a leg: none in overlap sending and once clearing has begun, otherwise the other leg of its call, or a
-- conference room
abbrev pub HasPeer : ℕ → Legs → Slot → Leg → Peer → Type 0
HasPeer external legs x leg peer.Alone = IsTrue (is_among alone leg.state)
HasPeer external legs x leg (peer.Leg y) = IsExternal external y × ((other : Leg) × (leg_at legs y ≡ Some other) × IsInCall leg.side x leg y other)
HasPeer external legs x leg (peer.Room room) = (leg.side ≡ Caller) × (leg.state ≡ active)

-- a leg has the tone of its state and cause; one that was asked to release its call because its user did not answer
-- DISCONNECT may keep its tone, as ReleasesSound decides
abbrev pub MaySound : Tones → Leg → Kind → Type 0
MaySound tones leg kind = (tone_of tones leg ≡ Some kind) ⊎ ((leg.state ≡ release_request) × (tone_given tones disconnect_indication leg.cause ≡ Some kind))

-- the circuit by which a leg's slot receives: in state active the connection with its peer or its membership; otherwise
-- its tone if and only if the trace gives that tone, and none if there is no tone
abbrev pub MayHear : Tones → Leg → Option Circuit → Type 0
MayHear tones leg None = (leg.state ≢ active) × (tone_of tones leg ≡ None)
MayHear tones leg (Some (Tone kind to since)) = MaySound tones leg kind
MayHear tones leg (Some (Pair from to since)) = (leg.state ≡ active) × (leg.peer ≡ peer.Leg from)
MayHear tones leg (Some (Member room at since)) = (leg.state ≡ active) × (leg.peer ≡ peer.Room room)

pub record LegStands (external : ℕ) (tones : Tones) (w : World) (x : Slot) (leg : Leg) : Type 0 where
  pub state : IsTrue (is_among every_state leg.state)
  pub reference : (1 ≤ leg.reference) × (leg.reference < 2 ^ 15)
  pub cause : leg.cause < 128
  pub peer : HasPeer external w.legs x leg leg.peer
  pub hears : MayHear tones leg (heard_by w.holding.circuits x)

-- each leg is consistent, and no two called legs of a line, and no two callers' legs of a line, have one call reference
pub record LegsStand (external : ℕ) (tones : Tones) (w : World) : Type 0 where
  pub count : length w.legs.held ≡ 30 * external
  pub each : (x : Slot) (leg : Leg) → IsExternal external x → leg_at w.legs x ≡ Some leg → LegStands external tones w x leg
  pub one : (x y : Slot) (a b : Leg) → IsExternal external x → IsExternal external y → leg_at w.legs x ≡ Some a → leg_at w.legs y ≡ Some b
      → x.line ≡ y.line → a.side ≡ b.side → a.reference ≡ b.reference → x ≡ y

-- each slot is in one state, the legs are consistent, numbers are pending if and only if legs wait for further digits,
-- messages are stored if and only if legs wait for the reply, and a stored RELEASE decides the tone of its user; every
-- event preserves this, so that the definition of a step needs no condition
pub record CallsStand (s : Setting) (w : World) : Type 0 where
  pub circuits : Valid s.dimensions.bridges w.holding
  pub legs : LegsStand s.dimensions.external s.tones w
  pub numbers : NumbersPend s.dimensions.external s.plan w.legs
  pub waits : LegsWait s.dimensions.external w.holding.next w.legs
  pub releases : ReleasesSound s.dimensions.external s.tones w
