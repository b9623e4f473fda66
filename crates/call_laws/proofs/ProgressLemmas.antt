-- A progress indicator goes with each tone.
use Rattle.std.proofs.Common.{◌≡◌, ℕ, ◌==◌, Bool, true, false, List, [], ◌∷◌, Option, Some, None, refl, ◌∙◌, ap, if◌then◌else◌}
use Rattle.circuit_model.specs.declared.channel.Slot.{Slot}
use Rattle.circuit_model.specs.Extent.{IsExternal}
use Rattle.circuit_model.specs.declared.circuit.Kind.{Kind}
use Rattle.q931_codec.specs.declared.kind.MessageKind.{MessageKind}
use Rattle.q931_codec.specs.declared.kind.MessageKind.TheVariants as kind
use Rattle.q931_codec.specs.declared.message.Message.{Message}
use Rattle.q931_codec.specs.Outgoing.{OutgoingMessage, encoding}
use Rattle.q931_codec.specs.Contents.{call_state_in, channel_in}
use Rattle.q931_codec.specs.Causes.{invalid_number_format, message_not_compatible_with_call_state, no_answer_from_user, no_user_responding, recovery_on_timer_expiry, temporary_failure, destination_out_of_order}
use Rattle.q931_codec.specs.Reading.{reading}
use Rattle.q931_codec.proofs.EncodingFacts.{encoding_read}
use Rattle.q931_codec.proofs.Messages.{reading_message}
use Rattle.q931_codec.proofs.RowFacts.{fields_back}
use Rattle.call_timers.specs.declared.expiry.Expiry.{Expiry}
use Rattle.call_timers.specs.declared.expiry.Expiry.TheVariants as expiry
use Rattle.q931_codec.specs.CallStates.{active, call_delivered, null}
use Rattle.call_states.specs.declared.act.Act.{Act}
use Rattle.call_states.specs.declared.act.Act.TheVariants as act
use Rattle.call_states.specs.declared.condition.Condition.{Condition}
use Rattle.call_states.specs.declared.condition.Condition.TheVariants.{Idle}
use Rattle.call_states.specs.declared.leg.HeldLeg.{HeldLeg}
use Rattle.call_states.specs.declared.leg.Leg.{Leg}
use Rattle.clearing_rules.specs.declared.scope.Restart.{Restart}
use Rattle.clearing_rules.specs.Restarting.{is_restarted, global_call_reference}
use Rattle.clearing_rules.specs.UnknownReference.{answer_to_status, answer_to_type, answer_without_call, no_such_call}
use Rattle.number_plan.specs.declared.target.Found.{Found}
use Rattle.number_plan.specs.declared.target.Found.TheVariants.{Line, Lines, Room, More, Nothing}
use Rattle.tone_rules.specs.declared.tones.Tones.{Tones}
use Rattle.exchange_events.specs.Sizes.{Setting}
use Rattle.call_profile.specs.ActCourse.{course_of}
use Rattle.call_profile.specs.Acts.{answered, in_state, in_disconnect_indication, tone_of, message_to, disconnect, with_progress, peer_of, with_peer, clear_with, on_alerting, on_connect, remove_leg}
use Rattle.call_profile.specs.Calls.{answer_back}
use Rattle.call_profile.specs.Expiring.{send_again, clear_peer, clear_both, on_expiry}
use Rattle.call_profile.specs.KeptMessages.{IsKept}
use Rattle.call_profile.specs.LegStanding.{CallsStand}
use Rattle.call_profile.specs.Legs.{Legs, is_down, leg_at, held_at, kept_at, pending_at}
use Rattle.call_profile.specs.Operations.{Operation, Sound, Put, Await, Send}
use Rattle.call_laws.specs.Progress.{TellsOfTones, has_progress}
use Rattle.call_profile.proofs.AnsweredLegLemmas.{acknowledging, joining, room_leg}
use Rattle.call_profile.proofs.KeptMessageLemmas.{kept_there}
use Rattle.call_profile.proofs.ReportLemmas.{report_does, state_differs}
use Rattle.call_profile.specs.Restarts.{restarts_slot, restart_peer, restart_leg, restart_slot}
use Rattle.call_states.specs.declared.pending.Pending.{Pending}
use Rattle.call_profile.specs.Digits.{asked_with, digits_refusal, dial_on, with_pending}
use Rattle.call_profile.specs.Setup.{target_of, target_dialled, caller_slot, called_slot, call, call_asked, accept_at, setup, refusal, course_of_setup}
use Rattle.call_profile.specs.World.{World}

-- ---- the other leg of a call

sounding_tells : (tone : Option Kind) (x : Slot) (m : OutgoingMessage) → TellsOfTones (Sound x tone ∷ Send x.line (with_progress tone m) ∷ [])
sounding_tells None x m = refl
sounding_tells (Some kind) x m = refl

alerting_tells : (tones : Tones) (h : HeldLeg) (o : Option HeldLeg) → TellsOfTones (with_peer o (on_alerting tones h))
alerting_tells tones h None = refl
alerting_tells tones h (Some caller) = sounding_tells (tone_of tones (in_state call_delivered caller.leg)) caller.slot (message_to caller.leg kind.Alerting)

-- whether a leg that is answered waits for its data link or not
answered_tells : (down : Bool) (x : Slot) (leg : Leg) (os : List Operation) → TellsOfTones os → TellsOfTones ((if down then Await x leg else Put x leg) ∷ os)
answered_tells true x leg os tells = tells
answered_tells false x leg os tells = tells

answering_tells : (legs : Legs) (h : HeldLeg) (o : Option HeldLeg) → TellsOfTones (with_peer o (on_connect legs h))
answering_tells legs h None = refl
answering_tells legs h (Some caller) =
    answered_tells (is_down legs h.slot.line) h.slot (in_state active h.leg) (answered legs caller.slot (in_state active caller.leg) ∷ acknowledging h caller)
    (answered_tells (is_down legs caller.slot.line) caller.slot (in_state active caller.leg) (acknowledging h caller) refl)

cleared_tells : (tones : Tones) (cause : ℕ) (other : HeldLeg) → TellsOfTones (clear_with tones cause other)
cleared_tells tones cause other = sounding_tells (tone_of tones (in_disconnect_indication cause other.leg)) other.slot (disconnect other.leg cause)

peer_tells : (tones : Tones) (cause : ℕ) (o : Option HeldLeg) → TellsOfTones (with_peer o (clear_with tones cause))
peer_tells tones cause None = refl
peer_tells tones cause (Some other) = cleared_tells tones cause other

-- two legs are cleared, one after the other
both_tell : (x : Slot) (tone : Option Kind) (m : OutgoingMessage) (ps : List Operation) → TellsOfTones ps → TellsOfTones (Sound x tone ∷ Send x.line (with_progress tone m) ∷ ps)
both_tell x None m ps tells = tells
both_tell x (Some kind) m ps tells = ap (λ (lines : List ℕ). x.line ∷ lines) tells

-- ---- a new call

call_tells : (first : Bool) (w : World) (own : ℕ) (asked : Pending) (x : Slot) (t : Found) (o : Option Slot) → TellsOfTones (call first w own asked x t o)
call_tells true w own asked x (Line l) (Some y) = refl
call_tells false w own asked x (Line l) (Some y) = refl
call_tells first w own asked x (Line l) None = refl
call_tells true w own asked x (Lines ls) (Some y) = refl
call_tells false w own asked x (Lines ls) (Some y) = refl
call_tells first w own asked x (Lines ls) None = refl
call_tells true w own asked x (Room room) o = answered_tells (is_down w.legs x.line) x (room_leg own room) (joining true own x room) refl
call_tells false w own asked x (Room room) o = answered_tells (is_down w.legs x.line) x (room_leg own room) (joining false own x room) refl
call_tells true w own asked x More o = refl
call_tells false w own asked x More o = refl
call_tells first w own asked x Nothing o = refl

-- ---- more digits

dialling_tells : (s : Setting) (w : World) (h : HeldLeg) (asked : Pending) (o : Option ℕ) → TellsOfTones (dial_on s w h asked o)
dialling_tells s w h asked (Some cause) = cleared_tells s.tones cause h
dialling_tells s w h asked None =
    call_tells false w h.leg.reference asked h.slot (target_dialled s.plan asked.called) (called_slot w h.slot (target_dialled s.plan asked.called))

digits_tell : (s : Setting) (w : World) (h : HeldLeg) (m : Message) (o : Option Pending) → TellsOfTones (with_pending s w h m o)
digits_tell s w h m None = refl
digits_tell s w h m (Some p) = dialling_tells s w h (asked_with p m) (digits_refusal s w h.slot p.called m)

-- ---- the acts

differing_tells : (s : Setting) (w : World) (h : HeldLeg) → TellsOfTones (state_differs s w h)
differing_tells s w h =
    let cause : ℕ = message_not_compatible_with_call_state in
    both_tell h.slot (tone_of s.tones (in_disconnect_indication cause h.leg)) (disconnect h.leg cause) (with_peer (peer_of w.legs h.leg.peer) (clear_with s.tones cause)) (peer_tells s.tones cause (peer_of w.legs h.leg.peer))

pub act_tells : (s : Setting) (w : World) (h : HeldLeg) (m : Message) (a : Act) → TellsOfTones (course_of s w h m a).operations
act_tells s w h m act.Nothing = refl
act_tells s w h m act.Unexpected = refl
act_tells s w h m act.Enquiry = refl
act_tells s w h m act.Proceeding = refl
act_tells s w h m act.Alerting = alerting_tells s.tones h (peer_of w.legs h.leg.peer)
act_tells s w h m act.Answer = answering_tells w.legs h (peer_of w.legs h.leg.peer)
act_tells s w h m act.Digits = digits_tell s w h m (pending_at w.legs h.slot)
act_tells s w h m (act.Disconnect cause) = peer_tells s.tones cause (peer_of w.legs h.leg.peer)
act_tells s w h m (act.Release cause) = peer_tells s.tones cause (peer_of w.legs h.leg.peer)
act_tells s w h m (act.ReleaseComplete cause) = peer_tells s.tones cause (peer_of w.legs h.leg.peer)
act_tells s w h m (act.Report reported) = report_does TellsOfTones s w h m reported refl refl (differing_tells s w h)

-- ---- a SETUP

module _ (s : Setting) (w : World) (line : ℕ) (m : Message) where
  accept_tells : (o : Option Slot) → TellsOfTones (accept_at s w m o)
  accept_tells None = refl
  accept_tells (Some x) = call_tells true w m.reference (call_asked m) x (target_of s m) (called_slot w x (target_of s m))

  by_refusal : (o : Option ℕ) → TellsOfTones (setup s w line m o)
  by_refusal None = accept_tells (caller_slot w line (channel_in m.elements))
  by_refusal (Some cause) = refl

  pub setup_tells : TellsOfTones (course_of_setup s w line m).operations
  setup_tells = by_refusal (refusal s w line m)

-- ---- a restart

either_tells : (b : Bool) (p q : List Operation) → TellsOfTones p → TellsOfTones q → TellsOfTones (if b then p else q)
either_tells true p q one other = one
either_tells false p q one other = other

restarted_peer_tells : (tones : Tones) (cause : ℕ) (condition : Condition) (r : Restart) (line : ℕ) (o : Option HeldLeg) → TellsOfTones (with_peer o (restart_peer tones cause condition r line))
restarted_peer_tells tones cause condition r line None = refl
restarted_peer_tells tones cause condition r line (Some other) =
    either_tells (restarts_slot r line other.slot) (remove_leg condition other) (clear_with tones cause other) refl (cleared_tells tones cause other)

pub restarted_leg_tells : (tones : Tones) (cause : ℕ) (condition : Condition) (r : Restart) (legs : Legs) (o : Option HeldLeg) → TellsOfTones (restart_leg tones cause condition r legs o)
restarted_leg_tells tones cause condition r legs None = refl
restarted_leg_tells tones cause condition r legs (Some h) = restarted_peer_tells tones cause condition r h.slot.line (peer_of legs h.leg.peer)

pub restart_tells : (tones : Tones) (r : Restart) (legs : Legs) (x : Slot) → TellsOfTones (restart_slot tones r legs x)
restart_tells tones r legs x = either_tells (is_restarted r x.place) (restart_leg tones temporary_failure Idle r legs (held_at legs x)) [] (restarted_leg_tells tones temporary_failure Idle r legs (held_at legs x)) refl

-- ---- a message on no call

either_answer_tells : (line : ℕ) (b : Bool) (o : Option OutgoingMessage) → TellsOfTones (answer_back line o) → TellsOfTones (answer_back line (if b then None else o))
either_answer_tells line true o other = refl
either_answer_tells line false o other = other

status_tells : (line : ℕ) (m : Message) (state : Option ℕ) → TellsOfTones (answer_back line (answer_to_status m state))
status_tells line m None = refl
status_tells line m (Some state) = either_answer_tells line (state == null) (Some (no_such_call m)) refl

type_tells : (line : ℕ) (m : Message) (k : MessageKind) → TellsOfTones (answer_back line (answer_to_type m k))
type_tells line m kind.CallProceeding = refl
type_tells line m kind.Alerting = refl
type_tells line m kind.Connect = refl
type_tells line m kind.ConnectAcknowledge = refl
type_tells line m kind.Progress = refl
type_tells line m kind.Notify = refl
type_tells line m kind.Facility = refl
type_tells line m kind.UserInformation = refl
type_tells line m kind.Setup = refl
type_tells line m kind.Disconnect = refl
type_tells line m kind.Release = refl
type_tells line m kind.ReleaseComplete = refl
type_tells line m kind.Status = status_tells line m (call_state_in m.elements)
type_tells line m kind.StatusEnquiry = refl
type_tells line m kind.SetupAcknowledge = refl
type_tells line m kind.Restart = refl
type_tells line m kind.RestartAcknowledge = refl
type_tells line m kind.Information = refl
type_tells line m (kind.Unknown octet) = refl

pub answer_tells : (line : ℕ) (m : Message) → TellsOfTones (answer_back line (answer_without_call m))
answer_tells line m = either_answer_tells line (m.reference == global_call_reference) (answer_to_type m m.kind) (type_tells line m m.kind)

-- ---- the expiry of a timer

-- what is kept of a leg has no progress indicator, as it is read
kept_quiet : (h : HeldLeg) (octets : List ℕ) → IsKept h.leg octets → has_progress (reading octets) ≡ false
kept_quiet h octets is =
    let m : OutgoingMessage = is.message in
    let reads = reading_message (encoding m) _ (encoding_read m is.awaited.writable) in
    ap has_progress (ap reading is.encoded ∙ reads) ∙ (fields_back m is.awaited.writable).progress ∙ is.awaited.quiet

module _ (s : Setting) (w : World) (h : HeldLeg) (stands : CallsStand s w) (in_x : IsExternal s.dimensions.external h.slot) (at : leg_at w.legs h.slot ≡ Some h.leg) where
  again_tells : (o : Option (List ℕ)) → kept_at w.legs h.slot ≡ o → TellsOfTones (send_again h o)
  again_tells None keeps = refl
  again_tells (Some octets) keeps = rw (kept_quiet h octets (kept_there s.dimensions.external w.holding.next w.legs h.slot h.leg octets stands.waits in_x at keeps)) refl

  peer_of_tells : (cause : ℕ) → TellsOfTones (clear_peer s.tones w.legs h cause)
  peer_of_tells cause = peer_tells s.tones cause (peer_of w.legs h.leg.peer)

  legs_tell : (cause : ℕ) → TellsOfTones (clear_both s.tones w.legs h cause)
  legs_tell cause =
      both_tell h.slot (tone_of s.tones (in_disconnect_indication recovery_on_timer_expiry h.leg)) (disconnect h.leg recovery_on_timer_expiry) (clear_peer s.tones w.legs h cause) (peer_of_tells cause)

  pub expiry_tells : (e : Expiry) → TellsOfTones (on_expiry s.tones w.legs h e)
  expiry_tells expiry.Digits = cleared_tells s.tones invalid_number_format h
  expiry_tells expiry.SetupAgain = again_tells (kept_at w.legs h.slot) refl
  expiry_tells expiry.SetupOver = peer_of_tells no_user_responding
  expiry_tells expiry.Proceeding = legs_tell no_user_responding
  expiry_tells expiry.Alerting = legs_tell no_answer_from_user
  expiry_tells expiry.Outage = peer_of_tells destination_out_of_order
  expiry_tells expiry.Disconnect = refl
  expiry_tells expiry.ReleaseAgain = again_tells (kept_at w.legs h.slot) refl
  expiry_tells expiry.ReleaseOver = refl
