-- What an act does for a message to a leg is permitted.
use Rattle.std.proofs.Common.{◌≡◌, ℕ, ◌≢◌, ◌<◌, true, false, List, [], ◌∷◌, Option, Some, None, refl, sym, ◌∙◌, subst, arith, eqb-true}
use Rattle.std.specs.Prelude.{IfSome, ◌==◌}
use Rattle.std.proofs.lemmas.Grind.{common_steps}
use Rattle.circuit_model.specs.declared.channel.Slot.{Slot}
use Rattle.circuit_model.specs.declared.circuit.Kind.{Kind}
use Rattle.circuit_model.specs.Circuits.{heard_by, is_idle}
use Rattle.circuit_model.proofs.Validity.{deaf_is_idle}
use Rattle.tone_rules.specs.declared.tones.Tones.{Tones}
use Rattle.circuit_model.specs.Extent.{IsExternal}
use Rattle.circuit_model.specs.Holding.{Clear as Clear_slot}
use Rattle.q931_codec.specs.declared.kind.MessageKind.{MessageKind}
use Rattle.q931_codec.specs.declared.kind.MessageKind.TheVariants as kind
use Rattle.q931_codec.specs.declared.message.Message.{Message}
use Rattle.q931_codec.specs.Causes.{message_not_compatible_with_call_state, response_to_status_enquiry}
use Rattle.q931_codec.specs.CallStates.{active, call_delivered, call_present, call_received, incoming_call_proceeding, overlap_sending}
use Rattle.q931_codec.specs.Contents.{call_state_in}
use Rattle.q931_codec.specs.MessageType.{IsNamed}
use Rattle.q931_codec.specs.Outgoing.{OutgoingMessage, IsWritable}
use Rattle.q931_codec.proofs.Writable.{short_writable}
use Rattle.call_states.specs.Acts.{act_on, clearing_cause, is_among, every_state}
use Rattle.call_states.specs.Status.{FitsMessages, status, unexpected_cause}
use Rattle.call_states.specs.declared.act.Act.{Act}
use Rattle.call_states.specs.declared.act.Act.TheVariants as act
use Rattle.call_states.specs.declared.leg.Leg.{Leg}
use Rattle.call_states.specs.declared.leg.Peer.{Peer}
use Rattle.call_states.specs.declared.leg.Peer.TheVariants as peer
use Rattle.call_states.proofs.Causes.{cause_fits}
use Rattle.call_states.specs.declared.leg.HeldLeg.{HeldLeg}
use Rattle.call_profile.specs.ActCourse.{course_of}
use Rattle.call_profile.specs.Digits.{on_digits}
use Rattle.call_profile.specs.Acts.{answered, with_enquiry, with_progress, peer_of, tone_of, with_peer, clear_with, in_state, in_release_request, in_disconnect_indication, message_to, disconnect, on_alerting, on_connect}
use Rattle.call_profile.specs.KeptMessages.{IsAwaited, awaiting_answer}
use Rattle.call_profile.specs.LegStanding.{CallsStand, LegStands, LegsStand, HasPeer}
use Rattle.call_profile.specs.Legs.{Legs, leg_at}
use Rattle.call_profile.specs.Operations.{Operation, Put, Making, making_at, making_after_all}
use Rattle.number_plan.specs.declared.plan.Number.{Number}
use Rattle.call_profile.specs.Peers.{IsThere, PeerIsThere}
use Rattle.call_profile.proofs.Permitted.{CanPair, CanSound, IsPermitted, ArePermitted, permitted_both}
use Rattle.exchange_events.specs.Sizes.{Setting, Dimensions}
use Rattle.call_profile.specs.World.{World, obey}
use Rattle.call_profile.proofs.AnsweredLegLemmas.{acknowledging, answered_does, connecting, making_answered, with_answered}
use Rattle.call_profile.proofs.AnsweringLemmas.{ringing, caller_of, silent_by, cleared_idle, silent_idle}
use Rattle.call_profile.proofs.AlertingLemmas.{waiting, silent_waiting}
use Rattle.call_profile.proofs.ClearingLemmas.{held_there, peers_apart}
use Rattle.call_profile.proofs.MessageToLegLemmas.{Asked, Asked-act_of, two_ring}
use Rattle.call_profile.proofs.ReportLemmas.{report_does, state_agrees, state_differs}
use Rattle.call_profile.proofs.ToneLemmas.{cleared_is_idle, tone_octets}

-- ---- what can be sent to a leg

told_state : (state : ℕ) → is_among every_state state ≡ true → state < 64
told_state state among = grind (arith, common_steps, among)

pub FitsMessages_standing : (external : ℕ) (tones : Tones) (w : World) (x : Slot) (leg : Leg) → LegStands external tones w x leg → FitsMessages leg
FitsMessages_standing external tones w x leg stands = record { state = told_state leg.state stands.state; reference = stands.reference.1 }

pub message_writable : (leg : Leg) (k : MessageKind) → FitsMessages leg → IsNamed k → IsWritable (message_to leg k)
message_writable leg k told named = short_writable _ leg.reference k None None None None told.reference named tt tt tt

pub disconnect_writable : (leg : Leg) (cause : ℕ) → FitsMessages leg → cause < 128 → IsWritable (disconnect leg cause)
disconnect_writable leg cause told small = short_writable _ leg.reference kind.Disconnect (Some cause) None None None told.reference tt small tt tt

pub announced_writable : (tone : Option Kind) (m : OutgoingMessage) → IsWritable m → IsWritable (with_progress tone m)
announced_writable tone m can = record {
  reference = can.reference;
  kind = can.kind;
  bearer = can.bearer;
  cause = can.cause;
  state = can.state;
  channel = can.channel;
  calling = can.calling;
  called = can.called;
  low = can.low;
  high = can.high;
}

pub status_writable : (leg : Leg) (cause : ℕ) → FitsMessages leg → cause < 128 → IsWritable (status leg cause)
status_writable leg cause told small = short_writable _ leg.reference kind.Status (Some cause) (Some leg.state) None None told.reference tt small told.state tt

pub unexpected_fits : (k : MessageKind) → unexpected_cause k < 128
unexpected_fits (kind.Unknown octet) = omega arith
unexpected_fits _ = omega arith

-- ---- what is known of the leg that a message is for, and of its peer

peer_held : (legs : Legs) (p : Peer) (y : Slot) (other : Leg) → p ≡ peer.Leg y → leg_at legs y ≡ Some other → peer_of legs p ≡ Some (record { slot = y; leg = other })
peer_held legs p y other is at = rw (is, held_there legs y other at) refl

module _ (external : ℕ) (tones : Tones) (w : World) (h : HeldLeg) (stand : LegsStand external tones w) (within : IsExternal external h.slot) (at : leg_at w.legs h.slot ≡ Some h.leg) where
  pub is_there : IsThere external h
  is_there = record { within = within; told = FitsMessages_standing external tones w h.slot h.leg (stand.each h.slot h.leg within at) }

  peer_is : (p : Peer) → HasPeer external w.legs h.slot h.leg p → PeerIsThere external h (peer_of w.legs p)
  peer_is peer.Alone has = tt
  peer_is (peer.Leg y) has = rw (held_there w.legs y has.1.0 has.1.1) (
    record { within = has.0; told = FitsMessages_standing external tones w y has.1.0 (stand.each y has.1.0 has.0 has.1.1) },
    peers_apart w.legs h.slot y h.leg has.1.0 at has.1.1 has.1.2,
  )
  peer_is (peer.Room room) has = tt

  pub peer_there_too : PeerIsThere external h (peer_of w.legs h.leg.peer)
  peer_there_too = peer_is h.leg.peer (stand.each h.slot h.leg within at).peer

  pub heard_by_rings_silent : is_among ringing h.leg.state ≡ true → heard_by w.holding.circuits h.slot ≡ None
  heard_by_rings_silent rings = silent_by external tones w h.slot h.leg rings (heard_by w.holding.circuits h.slot) (stand.each h.slot h.leg within at).hears

  -- the caller of a leg that may be alerted hears nothing
  pub caller_silent : is_among (call_present ∷ incoming_call_proceeding ∷ []) h.leg.state ≡ true → IfSome (peer_of w.legs h.leg.peer) (λ c. heard_by w.holding.circuits c.slot ≡ None)
  caller_silent among =
      let c = caller_of external tones w h.slot h.leg (two_ring h.leg.state among) h.leg.peer (stand.each h.slot h.leg within at).peer in
      let y = c.0 in
      let other = c.3.0 in
      let deaf = silent_waiting tones other (heard_by w.holding.circuits y) (waiting other.state h.leg.state among c.3.2.matched) (stand.each y other c.2 c.3.1).hears in
      let is : peer_of w.legs h.leg.peer ≡ Some (record { slot = y; leg = other }) = peer_held w.legs h.leg.peer y other c.1 c.3.1 in
      subst (λ (o : Option HeldLeg). IfSome o (λ k. heard_by w.holding.circuits k.slot ≡ None)) (sym is) deaf

-- ---- the acts

-- a message to a held leg's user, and another leg at its slot
abbrev Sends : Dimensions → HeldLeg → OutgoingMessage → Type 0
Sends d h message = (h.slot.line < d.external) × IsWritable message

abbrev Puts : Dimensions → HeldLeg → Leg → Type 0
Puts d h leg = IsExternal d.external h.slot × FitsMessages leg × (leg.state ≢ overlap_sending) × (is_among awaiting_answer leg.state ≡ false)

in_state_told : (leg : Leg) (state : ℕ) → FitsMessages leg → state < 64 → FitsMessages (in_state state leg)
in_state_told leg state told small = record { state = small; reference = told.reference }

pub clear_permitted : (d : Dimensions) (tones : Tones) (plan : List Number) (m : Making) (cause : ℕ) (c : HeldLeg) → IsThere d.external c → cause < 128
    → ArePermitted d tones plan m (clear_with tones cause c)
clear_permitted d tones plan m cause c there small =
    let tone = tone_of tones (in_disconnect_indication cause c.leg) in
    let sends : Sends d c (with_progress tone (disconnect c.leg cause)) =
    (there.within.0, announced_writable tone (disconnect c.leg cause) (disconnect_writable c.leg cause there.told small)) in
    let goes : Puts d c (in_disconnect_indication cause c.leg) = (there.within, record { state = omega arith; reference = there.told.reference }, λ e. absurd cc, refl) in
    let sound : CanSound d tones (obey d m.world (Clear_slot c.slot)) c.slot tone = record {
      within = there.within;
      idle = cleared_is_idle m.world.holding c.slot;
      octets = tone_octets tones (in_disconnect_indication cause c.leg);
    } in
    (there.within, (goes, (record { within = sound.within; idle = sound.idle; octets = sound.octets }, (sends, tt))))

pub peer_permitted : (d : Dimensions) (tones : Tones) (plan : List Number) (m : Making) (h : HeldLeg) (cause : ℕ) (o : Option HeldLeg) → PeerIsThere d.external h o → cause < 128
    → ArePermitted d tones plan m (with_peer o (clear_with tones cause))
peer_permitted d tones plan m h cause None there small = tt
peer_permitted d tones plan m h cause (Some c) there small = clear_permitted d tones plan m cause c there.0 small

-- a leg that is answered, and what is done then
pub answered_permitted : (d : Dimensions) (tones : Tones) (plan : List Number) (m : Making) (legs : Legs) (x : Slot) (leg : Leg) (os : List Operation)
    → IsPermitted d tones plan m (Put x leg) → ArePermitted d tones plan (with_answered legs m x leg) os → ArePermitted d tones plan m (answered legs x leg ∷ os)
answered_permitted d tones plan m legs x leg os may rest = (
  answered_does (IsPermitted d tones plan m) legs x leg may may,
  subst (λ (a : Making). ArePermitted d tones plan a os) (sym (making_answered d m legs x leg)) rest,
)

alerting_permitted : (d : Dimensions) (tones : Tones) (plan : List Number) (m : Making) (h : HeldLeg) → IsThere d.external h → (o : Option HeldLeg) → PeerIsThere d.external h o
    → IfSome o (λ c. is_idle m.world.holding.circuits c.slot ≡ true) → ArePermitted d tones plan m (with_peer o (on_alerting tones h))
alerting_permitted d tones plan m h there None is idle = tt
alerting_permitted d tones plan m h there (Some c) is idle =
    let tone = tone_of tones (in_state call_delivered c.leg) in
    let sends : Sends d c (with_progress tone (message_to c.leg kind.Alerting)) =
    (is.0.within.0, announced_writable tone (message_to c.leg kind.Alerting) (message_writable c.leg kind.Alerting is.0.told tt)) in
    let caller_goes : Puts d c (in_state call_delivered c.leg) = (is.0.within, in_state_told c.leg call_delivered is.0.told (omega arith), λ e. absurd cc, refl) in
    let called_goes : Puts d h (in_state call_received h.leg) = (there.within, in_state_told h.leg call_received there.told (omega arith), λ e. absurd cc, refl) in
    (called_goes, (caller_goes, (record { within = is.0.within; idle = idle; octets = tone_octets tones (in_state call_delivered c.leg) }, (sends, tt))))

module _ (s : Setting) (w : World) (h : HeldLeg) (stand : CallsStand s w) (within : IsExternal s.dimensions.external h.slot) (at : leg_at w.legs h.slot ≡ Some h.leg) where
  abbrev d : Dimensions
  d = s.dimensions

  abbrev tones : Tones
  tones = s.tones

  there : IsThere d.external h
  there = is_there d.external tones w h stand.legs within at

  peer_too : PeerIsThere d.external h (peer_of w.legs h.leg.peer)
  peer_too = peer_there_too d.external tones w h stand.legs within at

  answer_permitted : heard_by w.holding.circuits h.slot ≡ None → (o : Option HeldLeg) → PeerIsThere d.external h o → ArePermitted d tones s.plan (making_at w) (with_peer o (on_connect w.legs h))
  answer_permitted silent None is = tt
  answer_permitted silent (Some c) is =
      let can : CanPair d (obey d w (Clear_slot c.slot)) c.slot h.slot = record {
        first = is.0.within;
        second = within;
        apart = is.1;
        idle_first = cleared_idle d.bridges w.holding c.slot stand.circuits;
        idle_second = silent_idle d.bridges w.holding h.slot c.slot stand.circuits silent;
      } in
      let connected : Sends d c (message_to c.leg kind.Connect) = (is.0.within.0, message_writable c.leg kind.Connect is.0.told tt) in
      let acknowledged : Sends d h (message_to h.leg kind.ConnectAcknowledge) = (within.0, message_writable h.leg kind.ConnectAcknowledge there.told tt) in
      let caller_goes : Puts d c (in_state active c.leg) = (is.0.within, in_state_told c.leg active is.0.told (omega arith), λ e. absurd cc, refl) in
      let called_goes : Puts d h (in_state active h.leg) = (within, in_state_told h.leg active there.told (omega arith), λ e. absurd cc, refl) in
      let rest = answered_permitted d tones s.plan (with_answered w.legs (connecting d w h c) h.slot (in_state active h.leg)) w.legs c.slot (in_state active c.leg) (acknowledging h c) caller_goes
      (acknowledged, (connected, tt)) in
      (is.0.within, (can, answered_permitted d tones s.plan (connecting d w h c) w.legs h.slot (in_state active h.leg) (answered w.legs c.slot (in_state active c.leg) ∷ acknowledging h c) called_goes rest))

  each_idle : (o : Option HeldLeg) → IfSome o (λ c. heard_by w.holding.circuits c.slot ≡ None) → IfSome o (λ c. is_idle w.holding.circuits c.slot ≡ true)
  each_idle None deaf = tt
  each_idle (Some c) deaf = deaf_is_idle w.holding.circuits c.slot (stand.circuits.standing c.slot) deaf

  -- a user reports its state
  agreed_permitted : h.leg.state ≡ active → ArePermitted d tones s.plan (making_at w) (state_agrees h)
  agreed_permitted up =
      let told : FitsMessages (with_enquiry false h.leg) = record { state = there.told.state; reference = there.told.reference } in
      ((within, told, (λ e. let wrong = sym up ∙ e in absurd cc), rw up refl), tt)

  differing_permitted : ArePermitted d tones s.plan (making_at w) (state_differs s w h)
  differing_permitted =
      let cause : ℕ = message_not_compatible_with_call_state in
      permitted_both d tones s.plan (making_at w) (clear_with tones cause h) (with_peer (peer_of w.legs h.leg.peer) (clear_with tones cause)) (clear_permitted d tones s.plan (making_at w) cause h there (omega arith))
      (peer_permitted d tones s.plan (making_after_all d (making_at w) (clear_with tones cause h)) h cause (peer_of w.legs h.leg.peer) peer_too (omega arith))

  -- what is done for more digits being permitted
  asked_permitted : (m : Message) (a : Act) → Asked h.leg.state a → (Asked h.leg.state act.Digits → ArePermitted d tones s.plan (making_at w) (on_digits s w h m))
      → ArePermitted d tones s.plan (making_at w) (course_of s w h m a).operations
  asked_permitted m act.Nothing asks digits = tt
  asked_permitted m act.Unexpected asks digits = ((within.0, status_writable h.leg (unexpected_cause m.kind) there.told (unexpected_fits m.kind)), tt)
  asked_permitted m act.Enquiry asks digits = ((within.0, status_writable h.leg response_to_status_enquiry there.told (omega arith)), tt)
  asked_permitted m act.Proceeding asks digits = ((within, in_state_told h.leg incoming_call_proceeding there.told (omega arith), λ e. absurd cc, refl), tt)
  asked_permitted m act.Alerting asks digits =
      alerting_permitted d tones s.plan (making_at w) h there (peer_of w.legs h.leg.peer) peer_too
      (each_idle (peer_of w.legs h.leg.peer) (caller_silent d.external tones w h stand.legs within at asks))
  asked_permitted m act.Answer asks digits = answer_permitted (heard_by_rings_silent d.external tones w h stand.legs within at asks) (peer_of w.legs h.leg.peer) peer_too
  asked_permitted m act.Digits asks digits = digits asks
  asked_permitted m (act.Disconnect cause) asks digits =
      let expects : IsAwaited (in_release_request h.leg) (message_to h.leg kind.Release) =
      record { flag = refl; reference = refl; state = refl; writable = message_writable h.leg kind.Release there.told tt; quiet = refl } in
      let told : FitsMessages (in_release_request h.leg) = record { state = omega arith; reference = there.told.reference } in
      (within, ((within, told, expects), (peer_permitted d tones s.plan _ h cause (peer_of w.legs h.leg.peer) peer_too asks.0)))
  asked_permitted m (act.Release cause) asks digits =
      let sends : Sends d h (message_to h.leg kind.ReleaseComplete) = (within.0, message_writable h.leg kind.ReleaseComplete there.told tt) in
      (within, (within, (sends, peer_permitted d tones s.plan _ h cause (peer_of w.legs h.leg.peer) peer_too asks)))
  asked_permitted m (act.ReleaseComplete cause) asks digits = (within, (within, peer_permitted d tones s.plan _ h cause (peer_of w.legs h.leg.peer) peer_too asks))
  asked_permitted m (act.Report reported) asks digits =
      report_does (ArePermitted d tones s.plan (making_at w)) s w h m reported tt (agreed_permitted (eqb-true h.leg.state active asks)) differing_permitted

  pub act_permitted : (m : Message) → ((h.leg.state == overlap_sending) ≡ true → ArePermitted d tones s.plan (making_at w) (on_digits s w h m))
      → ArePermitted s.dimensions s.tones s.plan (making_at w) (course_of s w h m (act_on h.leg.state m)).operations
  act_permitted m digits = asked_permitted m (act_on h.leg.state m) (Asked-act_of h.leg.state m.kind (clearing_cause m.elements) (call_state_in m.elements) (cause_fits m.elements)) digits
