-- A message to a leg keeps the legs consistent.
use Rattle.std.proofs.Common.{◌≡◌, ◌≢◌, ℕ, ◌<◌, Bool, true, false, List, [], ◌∷◌, Option, Some, None, refl, sym, subst, arith, eqb-true, if◌then◌else◌}
use Rattle.std.specs.Prelude.{◌==◌}
use Rattle.std.proofs.lemmas.Grind.{common_steps}
use Rattle.circuit_model.specs.declared.channel.Slot.{Slot}
use Rattle.circuit_model.specs.Circuits.{heard_by}
use Rattle.circuit_model.specs.Extent.{IsExternal}
use Rattle.circuit_model.specs.Holding.{Valid}
use Rattle.q931_codec.specs.declared.kind.MessageKind.{MessageKind}
use Rattle.q931_codec.specs.declared.kind.MessageKind.TheVariants as kind
use Rattle.q931_codec.specs.declared.message.Message.{Message}
use Rattle.q931_codec.specs.CallStates.{null, overlap_sending, outgoing_call_proceeding, call_delivered, call_present, incoming_call_proceeding, active, release_request}
use Rattle.q931_codec.specs.Causes.{message_not_compatible_with_call_state, temporary_failure}
use Rattle.q931_codec.specs.Contents.{call_state_in}
use Rattle.call_states.specs.Acts.{act_of, act_of_status, act_on, clearing_cause, expected_in, is_among, every_state, before_release_request}
use Rattle.call_states.specs.declared.act.Act.{Act}
use Rattle.call_states.specs.declared.act.Act.TheVariants as act
use Rattle.call_states.specs.declared.leg.Leg.{Leg}
use Rattle.call_states.specs.declared.leg.Peer.{Peer}
use Rattle.call_states.specs.declared.leg.Peer.TheVariants as peer
use Rattle.call_states.specs.declared.leg.Side.{Side}
use Rattle.call_states.proofs.Causes.{cause_fits}
use Rattle.call_states.specs.declared.leg.HeldLeg.{HeldLeg}
use Rattle.call_profile.specs.ActCourse.{course_of}
use Rattle.call_profile.specs.Acts.{with_enquiry, peer_of, with_peer, on_alerting, on_connect}
use Rattle.call_profile.specs.Calls.{making_by}
use Rattle.call_profile.specs.LegStanding.{CallsStand, LegsStand, IsInCall, AreOneCall}
use Rattle.exchange_events.specs.Sound.{IsPlanned}
use Rattle.call_profile.specs.Legs.{Legs, leg_at}
use Rattle.call_profile.specs.Operations.{Operation, Put, making_at, making_after_all}
use Rattle.exchange_events.specs.Sizes.{Setting}
use Rattle.call_profile.specs.World.{World}
use Rattle.call_profile.proofs.AlertingLemmas.{proceeding_kept, alerting_kept, answer_kept}
use Rattle.call_profile.proofs.AnsweringLemmas.{ringing, silent_by, caller_of}
use Rattle.call_profile.proofs.TwoEntriesLemmas.{ArePeers}
use Rattle.call_profile.proofs.DigitsLemmas.{digits_kept}
use Rattle.call_profile.proofs.DisconnectedCallLemmas.{call_disconnected}
use Rattle.call_profile.proofs.ExpiredLegLemmas.{waits_enquired}
use Rattle.call_profile.proofs.ReportLemmas.{report_does}
use Rattle.call_profile.proofs.ClearingLemmas.{Kept, held_there, peers_of, disconnect_kept, released_kept, gone_kept}

-- ---- what is known of a leg in whose state an act was asked, and of the act's cause

abbrev pub Asked : ℕ → Act → Type 0
Asked state act.Nothing = Unit {0}
Asked state act.Unexpected = Unit {0}
Asked state act.Enquiry = Unit {0}
Asked state act.Proceeding = is_among (call_present ∷ []) state ≡ true
Asked state act.Alerting = is_among (call_present ∷ incoming_call_proceeding ∷ []) state ≡ true
Asked state act.Answer = is_among ringing state ≡ true
Asked state act.Digits = (state == overlap_sending) ≡ true
Asked state (act.Disconnect cause) = (cause < 128) × (state ≢ release_request)
Asked state (act.Release cause) = cause < 128
Asked state (act.ReleaseComplete cause) = cause < 128
Asked state (act.Report reported) = (state == active) ≡ true

expected : (b : Bool) (state : ℕ) (a : Act) → (b ≡ true → Asked state a) → Asked state (if b then a else act.Unexpected)
expected true state a asked = asked refl
expected false state a asked = tt

either : (b : Bool) (state : ℕ) (a c : Act) → Asked state a → Asked state c → Asked state (if b then a else c)
either true state a c p q = p
either false state a c p q = q

dialled : (b : Bool) (state : ℕ) (a : Act) → (state == overlap_sending) ≡ b → Asked state a → Asked state (if b then act.Digits else a)
dialled true state a is p = is
dialled false state a is p = p

reported_in : (b : Bool) (state reported : ℕ) → (state == active) ≡ b → Asked state (if b then act.Report reported else act.Nothing)
reported_in true state reported is = is
reported_in false state reported is = tt

asked_by_status : (state : ℕ) (reported : Option ℕ) → Asked state (act_of_status state reported)
asked_by_status state None = tt
asked_by_status state (Some reported) =
    either (reported == null) state (act.ReleaseComplete temporary_failure) (if state == active then act.Report reported else act.Nothing) (omega arith) (reported_in (state == active) state reported refl)

not_released : (state : ℕ) → is_among before_release_request state ≡ true → state ≢ release_request
not_released state among is = grind (arith, common_steps, among, is)

pub Asked-act_of : (state : ℕ) (k : MessageKind) (cause : ℕ) (reported : Option ℕ) → cause < 128 → Asked state (act_of state k cause reported)
Asked-act_of state kind.CallProceeding cause reported small = expected (is_among (call_present ∷ []) state) state act.Proceeding (λ among. among)
Asked-act_of state kind.Alerting cause reported small = expected (is_among (call_present ∷ incoming_call_proceeding ∷ []) state) state act.Alerting (λ among. among)
Asked-act_of state kind.Connect cause reported small = expected (is_among ringing state) state act.Answer (λ among. among)
Asked-act_of state kind.ConnectAcknowledge cause reported small = expected (is_among (active ∷ []) state) state act.Nothing (λ among. tt)
Asked-act_of state kind.Progress cause reported small = expected (is_among every_state state) state act.Nothing (λ among. tt)
Asked-act_of state kind.Notify cause reported small = expected (is_among every_state state) state act.Nothing (λ among. tt)
Asked-act_of state kind.Facility cause reported small = expected (is_among every_state state) state act.Nothing (λ among. tt)
Asked-act_of state kind.UserInformation cause reported small = expected (is_among every_state state) state act.Nothing (λ among. tt)
Asked-act_of state kind.Setup cause reported small = expected (is_among every_state state) state act.Nothing (λ among. tt)
Asked-act_of state kind.Disconnect cause reported small = expected (is_among before_release_request state) state (act.Disconnect cause) (λ among. (small, not_released state among))
Asked-act_of state kind.Release cause reported small =
    either (state == release_request) state (act.ReleaseComplete cause) (expected_in before_release_request state (act.Release cause)) small (expected (is_among before_release_request state) state (act.Release cause) (λ among. small))
Asked-act_of state kind.ReleaseComplete cause reported small = expected (is_among every_state state) state (act.ReleaseComplete cause) (λ among. small)
Asked-act_of state kind.Status cause reported small =
    expected (is_among every_state state) state (act_of_status state reported) (λ among. asked_by_status state reported)
Asked-act_of state kind.StatusEnquiry cause reported small = expected (is_among every_state state) state act.Enquiry (λ among. tt)
Asked-act_of state kind.SetupAcknowledge cause reported small = tt
Asked-act_of state kind.Restart cause reported small = tt
Asked-act_of state kind.RestartAcknowledge cause reported small = tt
Asked-act_of state kind.Information cause reported small =
    dialled (state == overlap_sending) state (expected_in (outgoing_call_proceeding ∷ call_delivered ∷ active ∷ []) state act.Nothing) refl
    (expected (is_among (outgoing_call_proceeding ∷ call_delivered ∷ active ∷ []) state) state act.Nothing (λ among. tt))
Asked-act_of state (kind.Unknown octet) cause reported small = tt

pub two_ring : (state : ℕ) → is_among (call_present ∷ incoming_call_proceeding ∷ []) state ≡ true → is_among ringing state ≡ true
two_ring state among = grind (arith, common_steps, among)

pub one_rings : (state : ℕ) → is_among (call_present ∷ []) state ≡ true → is_among ringing state ≡ true
one_rings state among = grind (arith, common_steps, among)

-- ---- what is done with a leg whose call has a caller

pub with_caller : (legs : Legs) (p : Peer) (y : Slot) (other : Leg) (does : HeldLeg → List Operation) → p ≡ peer.Leg y → leg_at legs y ≡ Some other
    → with_peer (peer_of legs p) does ≡ does (record { slot = y; leg = other })
with_caller legs p y other does is at = rw (is, held_there legs y other at) refl

module _ (s : Setting) (w : World) (h : HeldLeg) (planned : IsPlanned s) (stands : CallsStand s w)
    (within : IsExternal s.dimensions.external h.slot) (at : leg_at w.legs h.slot ≡ Some h.leg) where
  abbrev valid : Valid s.dimensions.bridges w.holding
  valid = stands.circuits

  abbrev stand : LegsStand s.dimensions.external s.tones w
  stand = stands.legs

  ringing_kept : is_among ringing h.leg.state ≡ true
      → (os : HeldLeg → List Operation)
      → ((y : Slot) (other : Leg) → ArePeers s.dimensions.external w h.slot y h.leg other → AreOneCall y other h.slot h.leg → Kept s.dimensions s.tones (making_after_all s.dimensions (making_at w) (os (record { slot = y; leg = other }))).world)
      → Kept s.dimensions s.tones (making_after_all s.dimensions (making_at w) (with_peer (peer_of w.legs h.leg.peer) os)).world
  ringing_kept rings os kept =
      let external = s.dimensions.external in
      let c = caller_of external s.tones w h.slot h.leg rings h.leg.peer (stand.each h.slot h.leg within at).peer in
      let in_call : IsInCall h.leg.side h.slot h.leg c.0 c.3.0 = subst (λ (side : Side). IsInCall side h.slot h.leg c.0 c.3.0) (sym c.3.2.is_called) c.3.2 in
      let peers = peers_of external w h.slot c.0 h.leg c.3.0 within c.2 at c.3.1 in_call in
      subst (λ (list : List Operation). Kept s.dimensions s.tones (making_after_all s.dimensions (making_at w) list).world) (sym (with_caller w.legs h.leg.peer c.0 c.3.0 os c.1 c.3.1)) (kept c.0 c.3.0 peers c.3.2)

  heard_by_silent : is_among ringing h.leg.state ≡ true → heard_by w.holding.circuits h.slot ≡ None
  heard_by_silent rings = silent_by s.dimensions.external s.tones w h.slot h.leg rings (heard_by w.holding.circuits h.slot) (stand.each h.slot h.leg within at).hears

  -- a user reports the state of its leg
  same_state_kept : Kept s.dimensions s.tones (making_after_all s.dimensions (making_at w) (Put h.slot (with_enquiry false h.leg) ∷ [])).world
  same_state_kept = (
    valid,
    waits_enquired s.dimensions.external s.tones w (making_after_all s.dimensions (making_at w) (Put h.slot (with_enquiry false h.leg) ∷ [])).world h.slot h.leg w.holding.next false false stand within at refl refl,
  )

  -- what an act that was asked makes
  act_kept : (m : Message) (a : Act) → Asked h.leg.state a → Kept s.dimensions s.tones (making_by s w (course_of s w h m a)).world
  act_kept m act.Nothing asks = (valid, stand)
  act_kept m act.Unexpected asks = (valid, stand)
  act_kept m act.Enquiry asks = (valid, stand)
  act_kept m act.Proceeding asks =
      let external = s.dimensions.external in
      let rings = one_rings h.leg.state asks in
      let c = caller_of external s.tones w h.slot h.leg rings h.leg.peer (stand.each h.slot h.leg within at).peer in
      let in_call : IsInCall h.leg.side h.slot h.leg c.0 c.3.0 = subst (λ (side : Side). IsInCall side h.slot h.leg c.0 c.3.0) (sym c.3.2.is_called) c.3.2 in
      let peers = peers_of external w h.slot c.0 h.leg c.3.0 within c.2 at c.3.1 in_call in
      proceeding_kept s.dimensions s.tones w h.slot c.0 h.leg c.3.0 valid stand peers c.3.2 (heard_by_silent rings) asks
  act_kept m act.Alerting asks =
      let rings = two_ring h.leg.state asks in
      ringing_kept rings (on_alerting s.tones h) (λ y other peers call. alerting_kept s.dimensions s.tones w h.slot y h.leg other valid stand peers call (heard_by_silent rings) asks)
  act_kept m act.Answer asks = ringing_kept asks (on_connect w.legs h) (λ y other peers call. answer_kept s.dimensions s.tones w h.slot y h.leg other valid stand peers call (heard_by_silent asks))
  act_kept m act.Digits asks = digits_kept s w h m planned stands within at (eqb-true h.leg.state overlap_sending asks)
  act_kept m (act.Disconnect cause) asks = disconnect_kept s w h m cause asks.0 valid stand within at
  act_kept m (act.Release cause) asks = released_kept s w h m cause asks valid stand within at
  act_kept m (act.ReleaseComplete cause) asks = gone_kept s w h m cause asks valid stand within at
  act_kept m (act.Report reported) asks =
      report_does (λ (os : List Operation). Kept s.dimensions s.tones (making_after_all s.dimensions (making_at w) os).world) s w h m reported (valid, stand) same_state_kept
      (call_disconnected s.dimensions s.tones (making_at w) h message_not_compatible_with_call_state message_not_compatible_with_call_state (omega arith) (omega arith) valid stand within at)

  pub leg_kept : (m : Message) → Kept s.dimensions s.tones (making_by s w (course_of s w h m (act_on h.leg.state m))).world
  leg_kept m = act_kept m (act_on h.leg.state m) (Asked-act_of h.leg.state m.kind (clearing_cause m.elements) (call_state_in m.elements) (cause_fits m.elements))
