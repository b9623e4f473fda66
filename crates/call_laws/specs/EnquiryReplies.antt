-- The reply of a user to STATUS ENQUIRY after an outage. Source: ITU-T Q.931 (05/98), 5.8.10 and 5.8.11; that a user in
-- another state than 10 loses its call is this project's profile.
use Rattle.std.specs.Prelude.{◌≡◌, ◌≢◌, ◌<◌, ℕ, true, false, List, [], ◌∷◌, Option, Some, None}
use Rattle.circuit_model.specs.declared.channel.Slot.{Slot}
use Rattle.circuit_model.specs.declared.circuit.Circuit.{Circuit}
use Rattle.circuit_model.specs.declared.circuit.Circuit.TheVariants.{Tone}
use Rattle.circuit_model.specs.declared.circuit.Kind.{Kind}
use Rattle.circuit_model.specs.Extent.{IsExternal}
use Rattle.circuit_model.specs.Holding.{circuits_naming}
use Rattle.q931_codec.specs.CallStates.{active, null}
use Rattle.q931_codec.specs.Causes.{message_not_compatible_with_call_state}
use Rattle.q931_codec.specs.Contents.{call_state_in}
use Rattle.q931_codec.specs.Outgoing.{encoding}
use Rattle.q931_codec.specs.declared.kind.MessageKind.TheVariants as kind
use Rattle.q931_codec.specs.declared.message.Message.{Message}
use Rattle.call_states.specs.declared.leg.HeldLeg.{HeldLeg}
use Rattle.call_states.specs.declared.leg.Leg.{Leg}
use Rattle.call_states.specs.declared.leg.Peer.TheVariants as peer
use Rattle.exchange_events.specs.declared.record.CallRecord.{CallRecord}
use Rattle.exchange_events.specs.declared.signal.Signal.{Signal}
use Rattle.exchange_events.specs.Sizes.{Setting}
use Rattle.exchange_events.specs.Sound.{IsPlanned}
use Rattle.tone_rules.specs.declared.tones.Tones.{Tones}
use Rattle.call_profile.specs.Acts.{disconnect, in_disconnect_indication, peer_of, tone_of, with_enquiry, with_progress}
use Rattle.call_profile.specs.Calls.{For_leg, request_of}
use Rattle.call_profile.specs.EndedCalls.{record_ended}
use Rattle.call_profile.specs.LegStanding.{CallsStand}
use Rattle.call_profile.specs.Legs.{leg_at, with_leg}
use Rattle.call_profile.specs.Operations.{begun, making_at, with_legs}
use Rattle.call_profile.specs.Restarts.{MessageOutcome}
use Rattle.call_profile.specs.World.{World}

-- the octets are a STATUS to this leg, which does not report the null state
pub record IsStatus (s : Setting) (w : World) (line : ℕ) (octets : List ℕ) (h : HeldLeg) (m : Message) : Type 0 where
  pub planned : IsPlanned s
  pub stands : CallsStand s w
  pub line_exists : line < s.dimensions.external
  pub received : request_of w.legs line octets ≡ For_leg h m
  pub status : m.kind ≡ kind.Status
  pub not_null : call_state_in m.elements ≢ Some null

-- it is the reply to an enquiry, and reports this state
pub record IsReply (s : Setting) (w : World) (line : ℕ) (octets : List ℕ) (h : HeldLeg) (m : Message) (reported : ℕ) : Type 0 where
  pub is_status : IsStatus s w line octets h m
  pub in_active : h.leg.state ≡ active
  pub asked : h.leg.enquired ≡ true
  pub reports : call_state_in m.elements ≡ Some reported

-- nothing changes, and nothing is sent or recorded
abbrev pub unchanged : World → MessageOutcome
unchanged w = record { making = making_at w; recorded = [] }

-- the enquiry ends; no other leg changes, and nothing is sent or recorded
abbrev pub confirmed : World → HeldLeg → MessageOutcome
confirmed w h = record {
  making = record { world = with_legs w (with_leg w.legs h.slot (begun w (with_enquiry false h.leg))); sends = []; moves = None };
  recorded = [];
}

-- the leg is cleared with cause 101, from the next frame on
abbrev pub cleared_as_differing : World → Leg → Leg
cleared_as_differing w leg = begun w (in_disconnect_indication message_not_compatible_with_call_state leg)

-- DISCONNECT with cause 101 to the user of a leg, with a progress indicator if and only if its slot gets a tone
abbrev pub differing_signal : Tones → HeldLeg → Signal
differing_signal tones h =
    let tone = tone_of tones (in_disconnect_indication message_not_compatible_with_call_state h.leg) in
    record { line = h.slot.line; octets = encoding (with_progress tone (disconnect h.leg message_not_compatible_with_call_state)) }

abbrev pub peer_signals : Tones → Option HeldLeg → List Signal
peer_signals tones None = []
peer_signals tones (Some h) = differing_signal tones h ∷ []

-- the circuits of a slot that has only a tone, from this frame on; none without a tone
abbrev pub tone_circuits : ℕ → Slot → Option Kind → List Circuit
tone_circuits next x None = []
tone_circuits next x (Some kind) = Tone kind x next ∷ []

-- no circuit uses the slot but the tone of cause 101, from the next frame on, if the trace gives it
abbrev pub HasOnlyTone : Tones → World → World → Slot → Leg → Type 0
HasOnlyTone tones before afterwards x leg =
    circuits_naming afterwards.holding.circuits x
    ≡ tone_circuits before.holding.next x (tone_of tones (in_disconnect_indication message_not_compatible_with_call_state leg))

-- both legs of the call are cleared, all others are unchanged, each of the two users is sent DISCONNECT, and the call is
-- recorded; the slot of each cleared leg is idle, or has only its tone
pub record IsClearedByReply (s : Setting) (w : World) (h : HeldLeg) (o : MessageOutcome) : Type 0 where
  pub own : leg_at o.making.world.legs h.slot ≡ Some (cleared_as_differing w h.leg)
  pub other : (y : Slot) (leg : Leg) → h.leg.peer ≡ peer.Leg y → leg_at w.legs y ≡ Some leg → leg_at o.making.world.legs y ≡ Some (cleared_as_differing w leg)
  pub others : (z : Slot) → IsExternal s.dimensions.external z → z ≢ h.slot → h.leg.peer ≢ peer.Leg z → leg_at o.making.world.legs z ≡ leg_at w.legs z
  pub own_circuits : HasOnlyTone s.tones w o.making.world h.slot h.leg
  pub other_circuits : (y : Slot) (leg : Leg) → h.leg.peer ≡ peer.Leg y → leg_at w.legs y ≡ Some leg → HasOnlyTone s.tones w o.making.world y leg
  pub sent : o.making.sends ≡ differing_signal s.tones h ∷ peer_signals s.tones (peer_of w.legs h.leg.peer)
  pub told : CallRecord
  pub told_is : record_ended w h message_not_compatible_with_call_state ≡ Some told
  pub recorded : o.recorded ≡ told ∷ []
