-- At which slots the operations of a message and of a restart remove a leg, and the condition of its channel then.
use Rattle.std.proofs.Common.{◌≡◌, ℕ, inl, inr, Bool, true, false, List, [], ◌∷◌, ◌++◌, Option, Some, None, refl, if◌then◌else◌}
use Rattle.std.specs.Prelude.{◌==◌}
use Rattle.circuit_model.specs.declared.channel.Slot.{Slot}
use Rattle.circuit_model.proofs.Slots.{true_or_false}
use Rattle.q931_codec.specs.Causes.{message_not_compatible_with_call_state, temporary_failure}
use Rattle.q931_codec.specs.CallStates.{active}
use Rattle.q931_codec.specs.declared.message.Message.{Message as Q931}
use Rattle.q931_codec.specs.Contents.{channel_in}
use Rattle.q931_codec.specs.Outgoing.{OutgoingMessage}
use Rattle.number_plan.specs.declared.target.Found.{Found}
use Rattle.number_plan.specs.declared.target.Found.TheVariants.{Line, Lines, Room, More, Nothing}
use Rattle.call_states.specs.declared.condition.Condition.{Condition}
use Rattle.call_states.specs.declared.condition.Condition.TheVariants.{Idle}
use Rattle.call_states.specs.declared.act.Act.{Act}
use Rattle.call_states.specs.declared.act.Act.TheVariants as act
use Rattle.call_states.specs.declared.leg.HeldLeg.{HeldLeg}
use Rattle.call_states.specs.declared.leg.Leg.{Leg}
use Rattle.call_states.specs.declared.pending.Pending.{Pending}
use Rattle.clearing_rules.specs.declared.scope.Restart.{Restart}
use Rattle.tone_rules.specs.declared.tones.Tones.{Tones}
use Rattle.exchange_events.specs.Sizes.{Setting}
use Rattle.call_profile.specs.ActCourse.{course_of}
use Rattle.call_profile.specs.Acts.{answered, peer_of, with_enquiry, with_peer, clear_with, on_alerting, on_connect}
use Rattle.call_profile.specs.Calls.{answer_back}
use Rattle.call_profile.specs.Course.{only, nothing}
use Rattle.call_profile.specs.Digits.{asked_with, digits_refusal, dial_on, with_pending}
use Rattle.call_profile.specs.Expiring.{send_again}
use Rattle.call_profile.specs.Legs.{Legs, is_down, leg_at, pending_at}
use Rattle.call_profile.specs.Operations as op
use Rattle.call_profile.specs.Operations.{Operation, Await, Put}
use Rattle.call_profile.specs.Restarts.{restarts_slot, restart_peer, restart_slot}
use Rattle.call_profile.specs.Setup.{setup, accept_at, call, call_asked, await_digits, called_slot, caller_slot, target_of, target_dialled}
use Rattle.call_profile.specs.World.{World}
use Rattle.call_profile.proofs.RestartLemmas.{at_slot as at_restarted}

-- ---- the operations, by the slots whose legs they remove, and the conditions of the channels

module _ (Given : Slot → Condition → Type 0) where
  abbrev pub MayGive : Operation → Type 0
  MayGive (op.Clear x) = Unit {0}
  MayGive (op.Pair x y) = Unit {0}
  MayGive (op.Seat x room) = Unit {0}
  MayGive (op.Sound x kind) = Unit {0}
  MayGive (op.Put x leg) = Unit {0}
  MayGive (op.Wait x leg p) = Unit {0}
  MayGive (op.Expect x leg message) = Unit {0}
  MayGive (op.Repeat h octets) = Unit {0}
  MayGive (op.Await x leg) = Unit {0}
  MayGive (op.Remove x condition) = Given x condition
  MayGive (op.Send line message) = Unit {0}

  abbrev pub GiveAll : List Operation → Type 0
  GiveAll [] = Unit {0}
  GiveAll (o ∷ os) = MayGive o × GiveAll os

  -- ---- legs that are cleared

  pub cleared_given : (tones : Tones) (cause : ℕ) (k : HeldLeg) (os : List Operation) → GiveAll os → GiveAll (clear_with tones cause k ++ os)
  cleared_given tones cause k os may = (tt, (tt, (tt, (tt, may))))

  pub peer_given : (tones : Tones) (cause : ℕ) (o : Option HeldLeg) → GiveAll (with_peer o (clear_with tones cause))
  peer_given tones cause None = tt
  peer_given tones cause (Some k) = cleared_given tones cause k [] tt

  -- ---- a restart, of the user or of the exchange

  pub other_given : (tones : Tones) (cause : ℕ) (condition : Condition) (r : Restart) (line : ℕ) (o : Option HeldLeg)
      → ((k : HeldLeg) → o ≡ Some k → restarts_slot r line k.slot ≡ true → Given k.slot condition)
      → GiveAll (with_peer o (restart_peer tones cause condition r line))
  other_given tones cause condition r line None may = tt
  other_given tones cause condition r line (Some k) may = elim (true_or_false (restarts_slot r line k.slot)) [
    | inl too ↦ rw too (tt, (may k refl too, tt))
    | inr not_so ↦ rw not_so (cleared_given tones cause k [] tt)
  ]

  -- the user who requests a restart knows that the channel is idle
  pub restart_given : (tones : Tones) (r : Restart) (legs : Legs) (x : Slot)
      → ((leg : Leg) → leg_at legs x ≡ Some leg → Given x Idle
      × ((k : HeldLeg) → peer_of legs leg.peer ≡ Some k → restarts_slot r x.line k.slot ≡ true → Given k.slot Idle))
      → GiveAll (restart_slot tones r legs x)
  restart_given tones r legs x may = at_restarted tones r legs x GiveAll tt (λ leg at.
      (tt, ((may leg at).0, other_given tones temporary_failure Idle r x.line (peer_of legs leg.peer) (may leg at).1)))

  -- ---- a message that is retransmitted

  pub again_given : (h : HeldLeg) (o : Option (List ℕ)) → GiveAll (send_again h o)
  again_given h None = tt
  again_given h (Some octets) = (tt, tt)

  -- ---- a message

  pub back_given : (line : ℕ) (o : Option OutgoingMessage) → GiveAll (answer_back line o)
  back_given line None = tt
  back_given line (Some message) = (tt, tt)

  alerting_given : (tones : Tones) (h : HeldLeg) (o : Option HeldLeg) → GiveAll (with_peer o (on_alerting tones h))
  alerting_given tones h None = tt
  alerting_given tones h (Some k) = (tt, (tt, (tt, (tt, tt))))

  answered_given : (legs : Legs) (x : Slot) (leg : Leg) → MayGive (answered legs x leg)
  answered_given legs x leg = by (is_down legs x.line) where
    by : (down : Bool) → MayGive (if down then Await x leg else Put x leg)
    by true = tt
    by false = tt

  answer_given : (legs : Legs) (h : HeldLeg) (o : Option HeldLeg) → GiveAll (with_peer o (on_connect legs h))
  answer_given legs h None = tt
  answer_given legs h (Some k) = (tt, (tt, (answered_given legs h.slot _, (answered_given legs k.slot _, (tt, (tt, tt))))))

  asked_given : (first : Bool) (own : ℕ) (asked : Pending) (x : Slot) → GiveAll (await_digits first own asked x)
  asked_given true own asked x = (tt, (tt, tt))
  asked_given false own asked x = (tt, tt)

  call_given : (first : Bool) (w : World) (own : ℕ) (asked : Pending) (x : Slot) (t : Found) (o : Option Slot) → GiveAll (call first w own asked x t o)
  call_given first w own asked x (Line line) (Some y) = (tt, (tt, (tt, tt)))
  call_given first w own asked x (Line line) None = tt
  call_given first w own asked x (Lines lines) (Some y) = (tt, (tt, (tt, tt)))
  call_given first w own asked x (Lines lines) None = tt
  call_given first w own asked x (Room room) o = (answered_given w.legs x _, (tt, (tt, (tt, tt))))
  call_given first w own asked x More o = asked_given first own asked x
  call_given first w own asked x Nothing o = tt

  dial_given : (s : Setting) (w : World) (h : HeldLeg) (asked : Pending) (o : Option ℕ) → GiveAll (dial_on s w h asked o)
  dial_given s w h asked (Some cause) = cleared_given s.tones cause h [] tt
  dial_given s w h asked None =
      let target = target_dialled s.plan asked.called in
      call_given false w h.leg.reference asked h.slot target (called_slot w h.slot target)

  digits_given : (s : Setting) (w : World) (h : HeldLeg) (m : Q931) (o : Option Pending) → GiveAll (with_pending s w h m o)
  digits_given s w h m None = tt
  digits_given s w h m (Some p) = dial_given s w h (asked_with p m) (digits_refusal s w h.slot p.called m)

  report_given : (s : Setting) (w : World) (h : HeldLeg) (asked same : Bool)
      → GiveAll ((if asked then (if same then only (Put h.slot (with_enquiry false h.leg) ∷ []) else record {
        operations = clear_with s.tones message_not_compatible_with_call_state h ++ with_peer (peer_of w.legs h.leg.peer)
            (clear_with s.tones message_not_compatible_with_call_state);
        cause = Some message_not_compatible_with_call_state;
      }) else nothing)).operations
  report_given s w h true true = (tt, tt)
  report_given s w h true false = cleared_given s.tones message_not_compatible_with_call_state h _
      (peer_given s.tones message_not_compatible_with_call_state (peer_of w.legs h.leg.peer))
  report_given s w h false same = tt

  pub course_given : (s : Setting) (w : World) (h : HeldLeg) (m : Q931) → Given h.slot Idle → (a : Act) → GiveAll (course_of s w h m a).operations
  course_given s w h m here act.Nothing = tt
  course_given s w h m here act.Unexpected = (tt, tt)
  course_given s w h m here act.Enquiry = (tt, tt)
  course_given s w h m here act.Proceeding = (tt, tt)
  course_given s w h m here act.Alerting = alerting_given s.tones h (peer_of w.legs h.leg.peer)
  course_given s w h m here act.Answer = answer_given w.legs h (peer_of w.legs h.leg.peer)
  course_given s w h m here act.Digits = digits_given s w h m (pending_at w.legs h.slot)
  course_given s w h m here (act.Disconnect cause) = (tt, (tt, peer_given s.tones cause (peer_of w.legs h.leg.peer)))
  course_given s w h m here (act.Release cause) = (tt, (here, (tt, peer_given s.tones cause (peer_of w.legs h.leg.peer))))
  course_given s w h m here (act.ReleaseComplete cause) = (tt, (here, peer_given s.tones cause (peer_of w.legs h.leg.peer)))
  course_given s w h m here (act.Report reported) = report_given s w h h.leg.enquired (reported == active)

  at_given : (s : Setting) (w : World) (m : Q931) (o : Option Slot) → GiveAll (accept_at s w m o)
  at_given s w m None = tt
  at_given s w m (Some x) = call_given true w m.reference (call_asked m) x (target_of s m) (called_slot w x (target_of s m))

  pub setup_given : (s : Setting) (w : World) (line : ℕ) (m : Q931) (o : Option ℕ) → GiveAll (setup s w line m o)
  setup_given s w line m (Some cause) = (tt, tt)
  setup_given s w line m None = at_given s w m (caller_slot w line (channel_in m.elements))
