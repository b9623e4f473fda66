-- The operations leave each leg as its data link asks: T309 runs in active exactly where the link is down, and an enquiry is open only where it is up.
use Rattle.std.proofs.Common.{◌≡◌, ◌≢◌, ℕ, zero, suc, ◌<◌, ◌⊎◌, inl, inr, Bool, true, false, List, [], ◌∷◌, ◌++◌, Option, Some, None, refl, sym, ◌∙◌, subst, eqb-true, set, get_or, get_or-set_other, if◌then◌else◌}
use Rattle.std.specs.Prelude.{◌==◌, IfSome, slice_index_or}
use Rattle.std.proofs.lemmas.Grind.{common_steps}
use Rattle.std.proofs.Common.{arith}
use Rattle.circuit_model.specs.declared.channel.Slot.{Slot}
use Rattle.circuit_model.specs.Extent.{IsExternal}
use Rattle.circuit_model.proofs.Slots.{true_or_false}
use Rattle.control_memory.specs.Layout.{number_of}
use Rattle.control_memory.proofs.Steps.{same_number}
use Rattle.q931_codec.specs.Causes.{message_not_compatible_with_call_state, no_answer_from_user, no_user_responding, destination_out_of_order, temporary_failure, invalid_number_format, recovery_on_timer_expiry}
use Rattle.q931_codec.specs.CallStates.{active, call_delivered, call_received, incoming_call_proceeding}
use Rattle.q931_codec.specs.declared.message.Message.{Message as Q931}
use Rattle.q931_codec.specs.Contents.{channel_in}
use Rattle.q931_codec.specs.Outgoing.{OutgoingMessage}
use Rattle.number_plan.specs.declared.target.Found.{Found}
use Rattle.number_plan.specs.declared.target.Found.TheVariants.{Line, Lines, Room, More, Nothing}
use Rattle.call_timers.specs.declared.expiry.Expiry.{Expiry}
use Rattle.call_timers.specs.declared.expiry.Expiry.TheVariants as expiry
use Rattle.call_states.specs.Acts.{is_among}
use Rattle.call_states.specs.declared.act.Act.{Act}
use Rattle.call_states.specs.declared.act.Act.TheVariants as act
use Rattle.call_states.specs.declared.condition.Condition.{Condition}
use Rattle.call_states.specs.declared.condition.Condition.TheVariants.{Idle}
use Rattle.call_states.specs.declared.leg.HeldLeg.{HeldLeg}
use Rattle.call_states.specs.declared.leg.Leg.{Leg}
use Rattle.call_states.specs.declared.leg.Peer.{Peer}
use Rattle.call_states.specs.declared.leg.Peer.TheVariants as peer
use Rattle.call_states.specs.declared.leg.Side.{Side}
use Rattle.call_states.specs.declared.leg.Side.TheVariants.{Caller, Called}
use Rattle.call_states.specs.declared.pending.Pending.{Pending}
use Rattle.clearing_rules.specs.declared.scope.Restart.{Restart}
use Rattle.tone_rules.specs.declared.tones.Tones.{Tones}
use Rattle.exchange_events.specs.Sizes.{Setting, Dimensions}
use Rattle.call_profile.specs.ActCourse.{course_of}
use Rattle.call_profile.specs.Acts.{answered, in_state, in_release_request, in_disconnect_indication, peer_of, with_enquiry, with_peer, clear_with, on_alerting, on_connect}
use Rattle.call_profile.specs.Digits.{asked_with, digits_refusal, dial_on, with_pending}
use Rattle.call_profile.specs.Expiring.{timed_state, send_again, on_expiry, expire_slot, due_of}
use Rattle.call_profile.specs.LegStanding.{HasPeer, IsInCall, are_matched, LegsStand}
use Rattle.call_profile.specs.LinkChanges.{give_up_leg, give_up_slot, whole_line}
use Rattle.call_profile.specs.Legs.{Legs, is_down, leg_at, pending_at, kept_at, with_entry}
use Rattle.call_profile.specs.Operations as op
use Rattle.call_profile.specs.Operations.{Operation, Making, Await, Put, begun, making_after, making_after_all}
use Rattle.call_laws.specs.Outages.{enquired_in, AwaitsLink}
use Rattle.call_profile.specs.Restarts.{restarts_slot, restart_peer, restart_slot}
use Rattle.call_profile.specs.Setup.{setup, accept_at, call, call_asked, await_digits, called_slot, caller_slot, target_of, target_dialled}
use Rattle.call_profile.specs.World.{World}
use Rattle.call_profile.proofs.AnsweringLemmas.{ringing}
use Rattle.call_profile.proofs.BesideLemmas.{same_or_apart}
use Rattle.call_profile.proofs.ClearingLemmas.{held_there}
use Rattle.call_profile.proofs.ExpiringLemmas.{at_slot}
use Rattle.call_profile.proofs.ExpiryStateLemmas.{due_state}
use Rattle.call_profile.proofs.LinkLemmas.{at_held}
use Rattle.call_profile.proofs.MessageToLegLemmas.{Asked, two_ring, one_rings}
use Rattle.call_profile.proofs.RestartLemmas.{at_slot as at_restarted}
use Rattle.call_profile.proofs.SetupLemmas.{caller_is}
use Rattle.call_profile.specs.Calls.{answer_back}
use Rattle.call_profile.proofs.AnsweredLegLemmas.{room_leg}
use Rattle.call_profile.specs.Course.{Course, only, nothing}
use Rattle.call_timers.specs.declared.timers.Timers.{Timers}

-- ---- one entry written

-- an entry is the one that was written, or as before
pub entry_or_before : {X : Type 0} (l : List X) (n k : ℕ) (o none : X) → (get_or (set l n o) k none ≡ o) ⊎ (get_or (set l n o) k none ≡ get_or l k none)
entry_or_before [] n k o none = inr refl
entry_or_before (a ∷ rest) zero zero o none = inl refl
entry_or_before (a ∷ rest) zero (suc k) o none = inr refl
entry_or_before (a ∷ rest) (suc n) zero o none = inr refl
entry_or_before (a ∷ rest) (suc n) (suc k) o none = entry_or_before rest n k o none

-- ---- a leg, by its link

abbrev pub Follows : Bool → Leg → Type 0
Follows down leg = (leg.state ≡ active → leg.resent ≡ down) × (leg.state ≡ active → leg.enquired ≡ true → down ≡ false) × (leg.enquired ≡ true → is_among enquired_in leg.state ≡ true)

-- whether the link is down or not
abbrev pub Always : Leg → Type 0
Always leg = (leg.state ≢ active) × (leg.enquired ≡ true → is_among enquired_in leg.state ≡ true)

pub follows_always : (down : Bool) (leg : Leg) → Always leg → Follows down leg
follows_always down leg quiet = (λ is. absurd (quiet.0 is), λ is. absurd (quiet.0 is), quiet.1)

abbrev waits : Bool → Leg → Leg
waits resent leg = record leg { resent = resent }

cleared_always : (cause : ℕ) (leg : Leg) → Always (waits false (in_disconnect_indication cause leg))
cleared_always cause leg = (λ e. absurd cc, λ asked. refl)

released_always : (leg : Leg) → Always (waits false (in_release_request leg))
released_always leg = (λ e. absurd cc, λ asked. refl)

unasked_always : (state : ℕ) (leg : Leg) → leg.enquired ≡ false → state ≢ active → Always (waits false (in_state state leg))
unasked_always state leg never apart = (apart, λ asked. let wrong : false ≡ true = sym never ∙ asked in absurd cc)

-- the user of a leg that may be answered is asked nothing, nor is its caller
unasked_in : (asked : Bool) (state : ℕ) → (asked ≡ true → is_among enquired_in state ≡ true) → is_among enquired_in state ≡ false → asked ≡ false
unasked_in true state may never = let wrong : false ≡ true = sym never ∙ may refl in absurd cc
unasked_in false state may never = refl

rings_unasked : (state : ℕ) → is_among ringing state ≡ true → is_among enquired_in state ≡ false
rings_unasked state rings = grind (arith, common_steps, rings)

caller_unasked : (t s : ℕ) → are_matched t s ≡ true → is_among ringing s ≡ true → is_among enquired_in t ≡ false
caller_unasked t s matched rings = grind (arith, common_steps, matched, rings)

called_rings : (t s : ℕ) → are_matched t s ≡ true → is_among ringing t ≡ true → ⊥
called_rings t s matched rings = grind (arith, common_steps, matched, rings)

other_unasked : (side : Side) (x y : Slot) (leg other : Leg) → IsInCall side x leg y other → is_among ringing leg.state ≡ true → is_among enquired_in other.state ≡ false
other_unasked Caller x y leg other call rings = absurd (called_rings leg.state other.state call.matched rings)
other_unasked Called x y leg other call rings = caller_unasked other.state leg.state call.matched rings

-- the peer of a leg that may be answered
abbrev PeerUnasked : Option HeldLeg → Type 0
PeerUnasked o = IfSome o (λ k. (k.slot.place < 30) × (k.leg.enquired ≡ false))

-- ---- the operations, by the links, which they leave as they are

module _ (d : Dimensions) (links : List Bool) where
  abbrev link_of : Slot → Bool
  link_of x = slice_index_or links x.line false

  -- each leg follows the link of its line
  abbrev pub Wait : Legs → Type 0
  Wait legs = (z : Slot) (l : Leg) → IsExternal d.external z → leg_at legs z ≡ Some l → Follows (link_of z) l

  abbrev MayHold : Slot → Leg → Type 0
  MayHold x leg = Always leg ⊎ ((x.place < 30) × Follows (link_of x) leg)

  -- a leg is put only as its link asks
  abbrev pub MayStart : Operation → Type 0
  MayStart (op.Clear x) = Unit {0}
  MayStart (op.Pair x y) = Unit {0}
  MayStart (op.Seat x room) = Unit {0}
  MayStart (op.Sound x kind) = Unit {0}
  MayStart (op.Put x leg) = MayHold x (waits false leg)
  MayStart (op.Wait x leg p) = MayHold x (waits false leg)
  MayStart (op.Expect x leg message) = MayHold x (waits false leg)
  MayStart (op.Repeat h octets) = MayHold h.slot (waits true h.leg)
  MayStart (op.Await x leg) = MayHold x (waits true leg)
  MayStart (op.Remove x condition) = Unit {0}
  MayStart (op.Send line message) = Unit {0}

  abbrev pub MayAll : List Operation → Type 0
  MayAll [] = Unit {0}
  MayAll (o ∷ os) = MayStart o × MayAll os

  followed : (legs : Legs) (x : Slot) (stored : Leg) → MayHold x stored → Wait legs → Wait (with_entry legs x (Some stored))
  followed legs x stored may wait z l in_z at = elim (entry_or_before legs.held (number_of x) (number_of z) (Some stored) None) [
    | inr old ↦ wait z l in_z (sym old ∙ at)
    | inl new ↦
        let e : Some stored ≡ Some l = sym new ∙ at in
        let same : stored ≡ l = cc in
        elim may [
          | inl always ↦ subst (Follows (link_of z)) same (follows_always (link_of z) stored always)
          | inr here ↦ elim (same_or_apart z x) [
            | inl is_x ↦ subst (Follows (link_of z)) same (subst (λ (y : Slot). Follows (link_of y) stored) (sym is_x) here.1)
            | inr apart ↦ wait z l in_z (sym (get_or-set_other legs.held (number_of x) (number_of z) (Some stored) None (λ k. apart (same_number z x in_z.1 here.0 k))) ∙ at)
          ]
        ]
  ]

  emptied : (legs : Legs) (x : Slot) → Wait legs → Wait (with_entry legs x None)
  emptied legs x wait z l in_z at = elim (entry_or_before legs.held (number_of x) (number_of z) None None) [
    | inr old ↦ wait z l in_z (sym old ∙ at)
    | inl new ↦ let wrong : None ≡ Some l = sym new ∙ at in absurd cc
  ]

  performed : (m : Making) (o : Operation) → MayStart o → Wait m.world.legs → Wait (making_after d m o).world.legs
  performed m (op.Clear x) may wait = wait
  performed m (op.Pair x y) may wait = wait
  performed m (op.Seat x room) may wait = wait
  performed m (op.Sound x kind) may wait = wait
  performed m (op.Put x leg) may wait = followed m.world.legs x (begun m.world leg) may wait
  performed m (op.Wait x leg p) may wait = followed m.world.legs x (begun m.world leg) may wait
  performed m (op.Expect x leg message) may wait = followed m.world.legs x (begun m.world leg) may wait
  performed m (op.Repeat h octets) may wait = followed m.world.legs h.slot (record h.leg { since = m.world.holding.next; resent = true }) may wait
  performed m (op.Await x leg) may wait = followed m.world.legs x (record leg { since = m.world.holding.next; resent = true }) may wait
  performed m (op.Remove x condition) may wait = emptied m.world.legs x wait
  performed m (op.Send line message) may wait = wait

  pub performed_all : (m : Making) (os : List Operation) → MayAll os → Wait m.world.legs → Wait (making_after_all d m os).world.legs
  performed_all m [] may wait = wait
  performed_all m (o ∷ os) may wait = performed_all (making_after d m o) os may.1 (performed m o may.0 wait)

  -- ---- legs that are cleared

  cleared_may : (tones : Tones) (cause : ℕ) (k : HeldLeg) → MayAll (clear_with tones cause k)
  cleared_may tones cause k = (tt, (inl (cleared_always cause k.leg), (tt, (tt, tt))))

  pub peer_may : (tones : Tones) (cause : ℕ) (o : Option HeldLeg) → MayAll (with_peer o (clear_with tones cause))
  peer_may tones cause None = tt
  peer_may tones cause (Some k) = cleared_may tones cause k

  both_may : (tones : Tones) (cause : ℕ) (k : HeldLeg) (os : List Operation) → MayAll os → MayAll (clear_with tones cause k ++ os)
  both_may tones cause k os may = (tt, (inl (cleared_always cause k.leg), (tt, (tt, may))))

  -- ---- a restart

  other_may : (tones : Tones) (cause : ℕ) (condition : Condition) (r : Restart) (line : ℕ) (o : Option HeldLeg) → MayAll (with_peer o (restart_peer tones cause condition r line))
  other_may tones cause condition r line None = tt
  other_may tones cause condition r line (Some k) = elim (true_or_false (restarts_slot r line k.slot)) [
    | inl too ↦ rw too (tt, (tt, tt))
    | inr not_so ↦ rw not_so (cleared_may tones cause k)
  ]

  pub restart_may : (tones : Tones) (r : Restart) (legs : Legs) (x : Slot) → MayAll (restart_slot tones r legs x)
  restart_may tones r legs x =
      at_restarted tones r legs x MayAll tt (λ leg at. (tt, (tt, other_may tones temporary_failure Idle r x.line (peer_of legs leg.peer))))

  pub give_up_starts : (tones : Tones) (condition : Condition) (legs : Legs) (x : Slot) → MayAll (give_up_slot tones condition legs x)
  give_up_starts tones condition legs x =
      at_held legs x (give_up_leg tones condition legs x) MayAll (λ none. (tt, tt)) (λ leg at. (tt, (tt, other_may tones temporary_failure condition whole_line x.line (peer_of legs leg.peer))))

  -- ---- an expiry

  again_may : (h : HeldLeg) (o : Option (List ℕ)) → Always (waits true h.leg) → MayAll (send_again h o)
  again_may h None quiet = tt
  again_may h (Some octets) quiet = (inl quiet, tt)

  expiry_may : (tones : Tones) (legs : Legs) (h : HeldLeg) → Follows (link_of h.slot) h.leg → (e : Expiry) → h.leg.state ≡ timed_state e → MayAll (on_expiry tones legs h e)
  expiry_may tones legs h follows expiry.Digits state = cleared_may tones invalid_number_format h
  expiry_may tones legs h follows expiry.SetupAgain state = again_may h (kept_at legs h.slot) ((λ up. let wrong = sym state ∙ up in absurd cc), follows.2)
  expiry_may tones legs h follows expiry.SetupOver state = (tt, (tt, (tt, peer_may tones no_user_responding (peer_of legs h.leg.peer))))
  expiry_may tones legs h follows expiry.Proceeding state = both_may tones recovery_on_timer_expiry h _ (peer_may tones no_user_responding (peer_of legs h.leg.peer))
  expiry_may tones legs h follows expiry.Alerting state = both_may tones recovery_on_timer_expiry h _ (peer_may tones no_answer_from_user (peer_of legs h.leg.peer))
  expiry_may tones legs h follows expiry.Outage state = (tt, (tt, peer_may tones destination_out_of_order (peer_of legs h.leg.peer)))
  expiry_may tones legs h follows expiry.Disconnect state = (inl (released_always h.leg), tt)
  expiry_may tones legs h follows expiry.ReleaseAgain state = again_may h (kept_at legs h.slot) ((λ up. let wrong = sym state ∙ up in absurd cc), follows.2)
  expiry_may tones legs h follows expiry.ReleaseOver state = (tt, (tt, tt))

  pub expire_may : (s : Setting) (frame : ℕ) (legs : Legs) (x : Slot) → IsExternal d.external x → Wait legs → MayAll (expire_slot s frame legs x)
  expire_may s frame legs x in_x wait = at_slot s frame legs x MayAll tt (λ leg e at is.
      expiry_may s.tones legs (record { slot = x; leg = leg }) (wait x leg in_x at) e (due_state leg.state leg.resent leg.since frame s.timers e is))

  -- ---- a message without a call

  pub back_may : (line : ℕ) (o : Option OutgoingMessage) → MayAll (answer_back line o)
  back_may line None = tt
  back_may line (Some message) = (tt, tt)

-- ---- messages, by the links of the exchange state

module _ (s : Setting) (w : World) where
  abbrev MayNow : List Operation → Type 0
  MayNow os = MayAll s.dimensions w.legs.down os

  -- a leg in active from now on
  answered_may : (x : Slot) (leg : Leg) → x.place < 30 → leg.enquired ≡ false → MayStart s.dimensions w.legs.down (answered w.legs x (in_state active leg))
  answered_may x leg small never = by (is_down w.legs x.line) refl where
    by : (down : Bool) → is_down w.legs x.line ≡ down → MayStart s.dimensions w.legs.down (if down then Await x (in_state active leg) else Put x (in_state active leg))
    by true is = inr (small, ((λ up. sym is), (λ up asked. let wrong : false ≡ true = sym never ∙ asked in absurd cc), (λ asked. refl)))
    by false is = inr (small, ((λ up. sym is), (λ up asked. is), (λ asked. refl)))

  alerting_may : (h : HeldLeg) (o : Option HeldLeg) → h.leg.enquired ≡ false → PeerUnasked o → MayNow (with_peer o (on_alerting s.tones h))
  alerting_may h None never quiet = tt
  alerting_may h (Some k) never quiet = (inl (unasked_always call_received h.leg never (λ e. cc)), (inl (unasked_always call_delivered k.leg quiet.1 (λ e. cc)), (tt, (tt, tt))))

  answer_may : (h : HeldLeg) (o : Option HeldLeg) → h.slot.place < 30 → h.leg.enquired ≡ false → PeerUnasked o → MayNow (with_peer o (on_connect w.legs h))
  answer_may h None small never quiet = tt
  answer_may h (Some k) small never quiet = (tt, (tt, (answered_may h.slot h.leg small never, (answered_may k.slot k.leg quiet.0 quiet.1, (tt, (tt, tt))))))

  asked_may : (first : Bool) (own : ℕ) (asked : Pending) (x : Slot) → MayNow (await_digits first own asked x)
  asked_may true own asked x = (inl ((λ e. cc), (λ e. cc)), (tt, tt))
  asked_may false own asked x = (inl ((λ e. cc), (λ e. cc)), tt)

  call_may : (first : Bool) (own : ℕ) (asked : Pending) (x : Slot) → x.place < 30 → (t : Found) (o : Option Slot) → MayNow (call first w own asked x t o)
  call_may first own asked x small (Line line) (Some y) = (inl ((λ e. cc), (λ e. cc)), (tt, (inl ((λ e. cc), (λ e. cc)), tt)))
  call_may first own asked x small (Line line) None = tt
  call_may first own asked x small (Lines lines) (Some y) = (inl ((λ e. cc), (λ e. cc)), (tt, (inl ((λ e. cc), (λ e. cc)), tt)))
  call_may first own asked x small (Lines lines) None = tt
  call_may first own asked x small (Room room) o = (answered_may x (room_leg own room) small refl, (tt, (tt, (tt, tt))))
  call_may first own asked x small More o = asked_may first own asked x
  call_may first own asked x small Nothing o = tt

  -- ---- an act

  module _ (stand : LegsStand s.dimensions.external s.tones w) (h : HeldLeg) (within : IsExternal s.dimensions.external h.slot) (at : leg_at w.legs h.slot ≡ Some h.leg)
      (wait : Wait s.dimensions w.legs.down w.legs) where
    follows : Follows (is_down w.legs h.slot.line) h.leg
    follows = wait h.slot h.leg within at

    never_asked : is_among ringing h.leg.state ≡ true → h.leg.enquired ≡ false
    never_asked rings = unasked_in h.leg.enquired h.leg.state follows.2 (rings_unasked h.leg.state rings)

    peer_unasked_by : is_among ringing h.leg.state ≡ true → (p : Peer) → HasPeer s.dimensions.external w.legs h.slot h.leg p → PeerUnasked (peer_of w.legs p)
    peer_unasked_by rings peer.Alone has = tt
    peer_unasked_by rings (peer.Leg y) has =
        let other = has.1.0 in
        rw (held_there w.legs y other has.1.1)
        (has.0.1, unasked_in other.enquired other.state (wait y other has.0 has.1.1).2 (other_unasked h.leg.side h.slot y h.leg other has.1.2 rings))
    peer_unasked_by rings (peer.Room room) has = tt

    peer_unasked : is_among ringing h.leg.state ≡ true → PeerUnasked (peer_of w.legs h.leg.peer)
    peer_unasked rings = peer_unasked_by rings h.leg.peer (stand.each h.slot h.leg within at).peer

    -- more digits
    dial_may : (asked : Pending) (o : Option ℕ) → MayNow (dial_on s w h asked o)
    dial_may asked (Some cause) = cleared_may s.dimensions w.legs.down s.tones cause h
    dial_may asked None =
        let target = target_dialled s.plan asked.called in
        call_may false h.leg.reference asked h.slot within.1 target (called_slot w h.slot target)

    digits_may : (m : Q931) (o : Option Pending) → MayNow (with_pending s w h m o)
    digits_may m None = tt
    digits_may m (Some p) = dial_may (asked_with p m) (digits_refusal s w h.slot p.called m)

    -- the user's reply to an enquiry
    abbrev report : Bool → Bool → Course
    report asked same =
        if asked then (if same then only (Put h.slot (with_enquiry false h.leg) ∷ []) else record {
          operations = clear_with s.tones message_not_compatible_with_call_state h ++ with_peer (peer_of w.legs h.leg.peer) (clear_with s.tones message_not_compatible_with_call_state);
          cause = Some message_not_compatible_with_call_state;
        }) else nothing

    report_may : h.leg.state ≡ active → (asked same : Bool) → h.leg.enquired ≡ asked → MayNow (report asked same).operations
    report_may is true true asked = (inr (within.1, ((λ up. sym (follows.1 is asked)), (λ up e. follows.1 is asked), (λ e. absurd cc))), tt)
    report_may is true false asked =
        both_may s.dimensions w.legs.down s.tones message_not_compatible_with_call_state h _ (peer_may s.dimensions w.legs.down s.tones message_not_compatible_with_call_state (peer_of w.legs h.leg.peer))
    report_may is false same asked = tt

    pub course_may : (m : Q931) (a : Act) → Asked h.leg.state a → MayNow (course_of s w h m a).operations
    course_may m act.Nothing asks = tt
    course_may m act.Unexpected asks = (tt, tt)
    course_may m act.Enquiry asks = (tt, tt)
    course_may m act.Proceeding asks = (inl (unasked_always incoming_call_proceeding h.leg (never_asked (one_rings h.leg.state asks)) (λ e. cc)), tt)
    course_may m act.Alerting asks = let rings = two_ring h.leg.state asks in alerting_may h (peer_of w.legs h.leg.peer) (never_asked rings) (peer_unasked rings)
    course_may m act.Answer asks = answer_may h (peer_of w.legs h.leg.peer) within.1 (never_asked asks) (peer_unasked asks)
    course_may m act.Digits asks = digits_may m (pending_at w.legs h.slot)
    course_may m (act.Disconnect cause) asks = (tt, (inl (released_always h.leg), peer_may s.dimensions w.legs.down s.tones cause (peer_of w.legs h.leg.peer)))
    course_may m (act.Release cause) asks = (tt, (tt, (tt, peer_may s.dimensions w.legs.down s.tones cause (peer_of w.legs h.leg.peer))))
    course_may m (act.ReleaseComplete cause) asks = (tt, (tt, peer_may s.dimensions w.legs.down s.tones cause (peer_of w.legs h.leg.peer)))
    course_may m (act.Report reported) asks = report_may (eqb-true h.leg.state active asks) h.leg.enquired (reported == active) refl

  -- ---- a SETUP

  at_may : (line : ℕ) (m : Q931) (o : Option Slot) → caller_slot w line (channel_in m.elements) ≡ o → MayNow (accept_at s w m o)
  at_may line m None is = tt
  at_may line m (Some x) is = call_may true m.reference (call_asked m) x (caller_is w line (channel_in m.elements) x is).1.1 (target_of s m) (called_slot w x (target_of s m))

  pub setup_may : (line : ℕ) (m : Q931) (o : Option ℕ) → MayNow (setup s w line m o)
  setup_may line m (Some cause) = (tt, tt)
  setup_may line m None = at_may line m (caller_slot w line (channel_in m.elements)) refl

-- ---- T309 expires only where it runs

pub due_awaits : (timers : Timers) (frame : ℕ) (leg : Leg) → due_of timers frame leg ≡ Some expiry.Outage → AwaitsLink leg
due_awaits timers frame leg is =
    let state : leg.state ≡ active = due_state leg.state leg.resent leg.since frame timers expiry.Outage is in (
      state,
      elim (true_or_false leg.resent) [
        | inl runs ↦ runs
        | inr not_so ↦
            let never : due_of timers frame leg ≡ None = rw (state, not_so) refl in
            let wrong : None ≡ Some expiry.Outage = sym never ∙ is in
            absurd cc
      ],
    )
