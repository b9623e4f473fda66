-- The lines to which an event on a line sends messages.
use Rattle.std.proofs.Common.{◌≡◌, ℕ, ◌<◌, inl, inr, Bool, true, false, List, [], ◌∷◌, ◌++◌, All, Option, Some, None, length-set, refl, sym, ◌∙◌, ap, subst, arith}
use Rattle.std.specs.Prelude.{not, ◌&&◌}
use Rattle.std.proofs.lemmas.List.Elements.{All-nil, All-push}
use Rattle.circuit_model.specs.declared.channel.Slot.{Slot}
use Rattle.circuit_model.specs.Extent.{IsExternal}
use Rattle.circuit_model.proofs.Slots.{true_or_false}
use Rattle.control_memory.specs.Layout.{number_of}
use Rattle.q931_codec.specs.declared.message.Message.{Message}
use Rattle.q931_codec.specs.CallStates.{active, overlap_sending}
use Rattle.q931_codec.specs.Causes.{destination_out_of_order, invalid_number_format, message_not_compatible_with_call_state, no_answer_from_user, no_user_responding, recovery_on_timer_expiry, temporary_failure}
use Rattle.q931_codec.specs.Contents.{called_in, channel_in}
use Rattle.q931_codec.specs.Outgoing.{OutgoingMessage}
use Rattle.call_states.specs.Acts.{act_on}
use Rattle.call_states.specs.Conditions.{unanswered}
use Rattle.call_states.specs.declared.act.Act.{Act}
use Rattle.call_states.specs.declared.act.Act.TheVariants as act
use Rattle.call_states.specs.declared.condition.Condition.{Condition}
use Rattle.call_states.specs.declared.condition.Condition.TheVariants.{Idle, Owed}
use Rattle.call_states.specs.declared.leg.HeldLeg.{HeldLeg}
use Rattle.call_states.specs.declared.leg.Leg.{Leg}
use Rattle.call_states.specs.declared.leg.Peer.{Peer}
use Rattle.call_states.specs.declared.leg.Peer.TheVariants as peer
use Rattle.call_states.specs.declared.pending.Pending.{Pending}
use Rattle.clearing_rules.specs.declared.scope.Restart.{Restart}
use Rattle.clearing_rules.specs.UnknownReference.{answer_without_call}
use Rattle.number_plan.specs.declared.target.Found.{Found}
use Rattle.number_plan.specs.declared.target.Found.TheVariants.{Line, Lines, Room, More, Nothing}
use Rattle.tone_rules.specs.declared.tones.Tones.{Tones}
use Rattle.exchange_events.specs.declared.signal.Signal.{Signal}
use Rattle.exchange_events.specs.declared.trace.Event.{Event}
use Rattle.exchange_events.specs.declared.trace.Event.TheVariants.{Nail, Seat, Free, Message as Message_event, Frame, LinkUp, LinkDown, RestartLine}
use Rattle.exchange_events.specs.Sizes.{Setting, Dimensions}
use Rattle.exchange_events.specs.Sound.{Fits, IsPlanned}
use Rattle.call_profile.specs.ActCourse.{course_of}
use Rattle.call_profile.specs.Acts.{peer_of, with_peer, clear_with, on_alerting, on_connect, on_disconnect, on_release, on_release_complete, answered, in_state}
use Rattle.call_profile.specs.Calls.{Request, For_leg, New_call, On_no_call, Restarts, Confirms, Unanswered, request_of, answer_back, outcome_for, outcome_of_octets}
use Rattle.call_profile.specs.Digits.{asked_with, digits_refusal, dial_on, with_pending}
use Rattle.call_profile.specs.IdleSlots.{idle}
use Rattle.call_profile.specs.LegStanding.{CallsStand, LegsStand, HasPeer}
use Rattle.call_profile.specs.Expiring.{send_again, on_expiry}
use Rattle.call_timers.specs.declared.expiry.Expiry.{Expiry}
use Rattle.call_timers.specs.declared.expiry.Expiry.TheVariants as expiry
use Rattle.call_profile.specs.Legs.{leg_at, pending_at, kept_at, is_down, lowest_free_reference}
use Rattle.call_profile.specs.LinkChanges.{give_up_rule, rule_of, outcome_of_line_restart, outcome_of_link, whole_line, with_interface, with_line, restarts_interface}
use Rattle.call_profile.specs.Operations as op
use Rattle.call_profile.specs.Operations.{Operation, Making, begun, making_at, making_after, making_after_all}
use Rattle.call_profile.specs.Restarts.{MessageOutcome, restart_peer, restart_leg, restart_slot, restarts_slot, restart_rule, confirm_rule, confirm_slot, outcome_below}
use Rattle.call_profile.specs.Setup.{call, call_line, accept, accept_at, setup, refusal, caller_slot, called_slot, target_dialled, call_asked, caller_leg, called_leg, ask_for_digits}
use Rattle.call_profile.specs.Step.{next, reply}
use Rattle.call_profile.specs.World.{World}
use Rattle.call_profile.proofs.BesideLemmas.{leg_at-with_entry_here}
use Rattle.call_profile.proofs.ClearingLemmas.{held_there}
use Rattle.call_profile.proofs.ConfirmedSlotLemmas.{at_confirmed, confirm_kept}
use Rattle.call_profile.proofs.GivenUpSlotLemmas.{give_up_kept}
use Rattle.call_profile.proofs.LinkLemmas.{rule_kept}
use Rattle.call_profile.proofs.NamedLegLemmas.{received_stands}
use Rattle.call_profile.proofs.RestartLemmas as restarts
use Rattle.call_profile.proofs.RestartedSlotLemmas.{each_below}
use Rattle.call_profile.proofs.SetupLemmas.{caller_is}
use Rattle.call_profile.proofs.ReportLemmas.{report_does}
use Rattle.call_profile.proofs.AnsweredLegLemmas.{answered_does}
use Rattle.privacy.specs.Lines.{IsChange, IsConcerned, Itself, In_call, Offered, IsInCallWith, Own, Other_leg, sends_of}
use Rattle.privacy.specs.Undisturbed.{IsOnLine}
use Rattle.privacy.proofs.CalledLemmas.{called_idle}
use Rattle.privacy.proofs.CourseLemmas.{confirm_orderly, give_up_orderly, restart_slot_orderly, rule_orderly}
use Rattle.privacy.proofs.GrowthLemmas.{IsWalked, walk, walk_first, linked_first}
use Rattle.privacy.proofs.OrderlyLemmas.{none}
use Rattle.privacy.proofs.LinkRuleLemmas.{IsAtLeg, give_up_by, rule_by}

-- ---- operations that send only to some lines

module _ (d : Dimensions) (To : ℕ → Type 0) where
  abbrev pub Sends : Operation → Type 0
  Sends (op.Clear x) = Unit {0}
  Sends (op.Pair x y) = Unit {0}
  Sends (op.Seat x room) = Unit {0}
  Sends (op.Sound x kind) = Unit {0}
  Sends (op.Put x leg) = Unit {0}
  Sends (op.Wait x leg p) = Unit {0}
  Sends (op.Expect x leg message) = To x.line
  Sends (op.Repeat h octets) = To h.slot.line
  Sends (op.Await x leg) = Unit {0}
  Sends (op.Remove x condition) = Unit {0}
  Sends (op.Send line message) = To line

  abbrev pub SendAll : List Operation → Type 0
  SendAll [] = Unit {0}
  SendAll (o ∷ os) = Sends o × SendAll os

  pub send_both : (os ps : List Operation) → SendAll os → SendAll ps → SendAll (os ++ ps)
  send_both [] ps first other = other
  send_both (o ∷ os) ps first other = (first.0, send_both os ps first.1 other)

  abbrev pub AreTo : List Signal → Type 0
  AreTo sends = All (λ (m : Signal). To m.line) sends

  one_sent : (m : Making) (o : Operation) → Sends o → AreTo m.sends → AreTo (making_after d m o).sends
  one_sent m (op.Clear x) may so_far = so_far
  one_sent m (op.Pair x y) may so_far = so_far
  one_sent m (op.Seat x room) may so_far = so_far
  one_sent m (op.Sound x kind) may so_far = so_far
  one_sent m (op.Put x leg) may so_far = so_far
  one_sent m (op.Wait x leg p) may so_far = so_far
  one_sent m (op.Expect x leg message) may so_far = All-push (λ (q : Signal). To q.line) m.sends _ so_far may
  one_sent m (op.Repeat h octets) may so_far = All-push (λ (q : Signal). To q.line) m.sends _ so_far may
  one_sent m (op.Await x leg) may so_far = so_far
  one_sent m (op.Remove x condition) may so_far = so_far
  one_sent m (op.Send line message) may so_far = All-push (λ (q : Signal). To q.line) m.sends _ so_far may

  pub all_sent : (m : Making) (os : List Operation) → SendAll os → AreTo m.sends → AreTo (making_after_all d m os).sends
  all_sent m [] may so_far = so_far
  all_sent m (o ∷ os) may so_far = all_sent (making_after d m o) os may.1 (one_sent m o may.0 so_far)

-- ---- operations at a leg of a line: they send to the line, and to the line of the leg's peer

module _ (d : Dimensions) (tones : Tones) (u : World) (stand : LegsStand d.external tones u) (To : ℕ → Type 0) (h : HeldLeg) (in_h : IsExternal d.external h.slot) (at : leg_at u.legs h.slot ≡ Some h.leg)
    (own : To h.slot.line) (other : (y : Slot) → h.leg.peer ≡ peer.Leg y → To y.line) where
  abbrev SendOut : List Operation → Type 0
  SendOut os = SendAll d To os

  pub peer_sends : (p : Peer) (does : HeldLeg → List Operation) → h.leg.peer ≡ p → ((k : HeldLeg) → To k.slot.line → SendOut (does k)) → SendOut (with_peer (peer_of u.legs p) does)
  peer_sends peer.Alone does is each = tt
  peer_sends (peer.Leg y) does is each =
      let has : HasPeer d.external u.legs h.slot h.leg (peer.Leg y) = subst (HasPeer d.external u.legs h.slot h.leg) is (stand.each h.slot h.leg in_h at).peer in
      subst (λ (o : Option HeldLeg). SendOut (with_peer o does)) (sym (held_there u.legs y has.1.0 has.1.1)) (each (record { slot = y; leg = has.1.0 }) (other y is))
  peer_sends (peer.Room room) does is each = tt

  clear_sends : (cause : ℕ) (k : HeldLeg) → To k.slot.line → SendOut (clear_with tones cause k)
  clear_sends cause k to = (tt, (tt, (tt, (to, tt))))

  pub own_cleared : (cause : ℕ) → SendOut (clear_with tones cause h)
  own_cleared cause = clear_sends cause h own

  pub and_peer : (os : List Operation) (cause : ℕ) → SendOut os → SendOut (os ++ with_peer (peer_of u.legs h.leg.peer) (clear_with tones cause))
  and_peer os cause first = send_both d To os (with_peer (peer_of u.legs h.leg.peer) (clear_with tones cause)) first (peer_sends h.leg.peer (clear_with tones cause) refl (clear_sends cause))

  restarted_peer : (cause : ℕ) (condition : Condition) (r : Restart) (k : HeldLeg) → To k.slot.line → SendOut (restart_peer tones cause condition r h.slot.line k)
  restarted_peer cause condition r k to = elim (true_or_false (restarts_slot r h.slot.line k.slot)) [
    | inl too ↦ rw too (tt, (tt, tt))
    | inr not_so ↦ rw not_so (clear_sends cause k to)
  ]

  pub restart_sends : (cause : ℕ) (condition : Condition) (r : Restart) → SendOut (restart_leg tones cause condition r u.legs (Some h))
  restart_sends cause condition r = (tt, (tt, peer_sends h.leg.peer (restart_peer tones cause condition r h.slot.line) refl (restarted_peer cause condition r)))

  again : (o : Option (List ℕ)) → SendOut (send_again h o)
  again None = tt
  again (Some octets) = (own, tt)

  -- an expiry of its timer
  peer_cleared : (cause : ℕ) → SendOut (with_peer (peer_of u.legs h.leg.peer) (clear_with tones cause))
  peer_cleared cause = peer_sends h.leg.peer (clear_with tones cause) refl (clear_sends cause)

  pub expiry_sends : (e : Expiry) → SendOut (on_expiry tones u.legs h e)
  expiry_sends expiry.Digits = own_cleared invalid_number_format
  expiry_sends expiry.SetupAgain = again (kept_at u.legs h.slot)
  expiry_sends expiry.SetupOver = (tt, (tt, (own, peer_cleared no_user_responding)))
  expiry_sends expiry.Proceeding = and_peer (clear_with tones recovery_on_timer_expiry h) no_user_responding (own_cleared recovery_on_timer_expiry)
  expiry_sends expiry.Alerting = and_peer (clear_with tones recovery_on_timer_expiry h) no_answer_from_user (own_cleared recovery_on_timer_expiry)
  expiry_sends expiry.Outage = (tt, (tt, peer_cleared destination_out_of_order))
  expiry_sends expiry.Disconnect = (own, tt)
  expiry_sends expiry.ReleaseAgain = again (kept_at u.legs h.slot)
  expiry_sends expiry.ReleaseOver = (tt, (tt, tt))

  pub link_sends : IsAtLeg tones u.legs SendOut h
  link_sends = record {
    waits = (tt, tt);
    goes = restart_sends destination_out_of_order Owed whole_line;
    asks = (tt, (own, tt));
    clears = own_cleared temporary_failure;
    again = again (kept_at u.legs h.slot);
  }

-- ---- a walk over the slots of a line: it sends to the line, and to the lines of the peers of its legs

module _ (s : Setting) (w : World) (e : Event) (line : ℕ) (planned : IsPlanned s) (stands : CallsStand s w) (exists : line < s.dimensions.external) (To : ℕ → Type 0) (own : To line)
    (other : (x z : Slot) (leg : Leg) → IsExternal s.dimensions.external x → leg_at w.legs x ≡ Some leg → leg.peer ≡ peer.Leg z → x.line ≡ line → To z.line) where
  abbrev Reach : List Operation → Type 0
  Reach os = SendAll s.dimensions To os

  abbrev ReachAll : List Signal → Type 0
  ReachAll sends = AreTo s.dimensions To sends

  none_reached : ReachAll []
  none_reached = All-nil (λ (m : Signal). To m.line)

  abbrev HasWalked : MessageOutcome → Type 0
  HasWalked a = IsWalked s w e planned stands a.making.world × ReachAll a.making.sends

  -- a leg of a slot of the line had its peer before the walk
  walked_to : (a : MessageOutcome) → HasWalked a → (x : Slot) (leg : Leg) → IsExternal s.dimensions.external x → x.line ≡ line → leg_at a.making.world.legs x ≡ Some leg → (y : Slot) → leg.peer ≡ peer.Leg y → To y.line
  walked_to a so_far x leg in_x on at y names = elim (so_far.0.legs.each x leg in_x at y names) [
    | inl had ↦ other x y had.old in_x had.at had.names on
    | inr never ↦ absurd never
  ]

  pub restarted : (r : Restart) → HasWalked (outcome_below s.dimensions (restart_rule s.tones r) line w 30)
  restarted r =
      each_below s.dimensions (restart_rule s.tones r) line w HasWalked (walk_first s w e planned stands, none_reached)
      (λ a place small so_far.
      let x : Slot = record { line = line; place = place } in
      let m : Making = a.making in
      let os = restart_slot s.tones r m.world.legs x in
      let out : Reach os = restarts.at_slot s.tones r m.world.legs x Reach tt (λ leg at.
      restart_sends s.dimensions s.tones m.world so_far.0.kept.1 To (record { slot = x; leg = leg }) (exists, small) at own (walked_to a so_far x leg (exists, small) refl at) temporary_failure Idle r) in (
        walk s w e planned stands m os so_far.0 (restart_slot_orderly s.dimensions s.tones m.world so_far.0.kept.1 none x (exists, small) r) (restarts.slot_kept s.dimensions s.tones r m x so_far.0.kept (exists, small)),
        all_sent s.dimensions To m os out so_far.1,
      ))
      30 (omega arith)

  -- nothing is sent at a slot whose restart is acknowledged
  pub confirmed : (r : Restart) → HasWalked (outcome_below s.dimensions (confirm_rule r) line w 30)
  confirmed r =
      each_below s.dimensions (confirm_rule r) line w HasWalked (walk_first s w e planned stands, none_reached)
      (λ a place small so_far.
      let x : Slot = record { line = line; place = place } in
      let m : Making = a.making in
      let os = confirm_slot r m.world.legs x in (
        walk s w e planned stands m os so_far.0 (confirm_orderly s.dimensions s.tones m.world so_far.0.kept.1 none x (exists, small) r) (confirm_kept s.dimensions s.tones r m x so_far.0.kept (exists, small)),
        all_sent s.dimensions To m os (at_confirmed r m.world.legs x Reach tt (λ none. (tt, tt))) so_far.1,
      ))
      30 (omega arith)

  -- the RESTART of the interface goes to the line itself
  interface_sends : (whole : Bool) (a : MessageOutcome) → ReachAll a.making.sends → ReachAll (with_interface s.dimensions whole line a).making.sends
  interface_sends true a so_far = All-push (λ (m : Signal). To m.line) a.making.sends _ so_far own
  interface_sends false a so_far = so_far

  -- ---- a change of the data link

  rule_sends : (a : MessageOutcome) → HasWalked a → (place : ℕ) → place < 30 → (whole down : Bool) → Reach ((rule_of s.tones whole down).does a.making.world.legs (record { line = line; place = place }))
  rule_sends a so_far place small =
      let x : Slot = record { line = line; place = place } in
      rule_by s.tones a.making.world.legs Reach tt x
      (λ leg at. link_sends s.dimensions s.tones a.making.world so_far.0.kept.1 To (record { slot = x; leg = leg }) (exists, small) at own (walked_to a so_far x leg (exists, small) refl at))
      (λ none. record { forgets = (tt, tt); restarts = (tt, (own, tt)) })

  slots_send : (whole down : Bool) → HasWalked (outcome_below s.dimensions (rule_of s.tones whole down) line (with_line w line down) 30)
  slots_send whole down =
      each_below s.dimensions (rule_of s.tones whole down) line _ HasWalked (linked_first s w e planned stands line down, none_reached)
      (λ a place small so_far.
      let x : Slot = record { line = line; place = place } in
      let m : Making = a.making in
      let os = (rule_of s.tones whole down).does m.world.legs x in (
        walk s w e planned stands m os so_far.0 (rule_orderly s.dimensions s.tones m.world so_far.0.kept.1 none x (exists, small) whole down) (rule_kept s.dimensions s.tones m x so_far.0.kept (exists, small) whole down),
        all_sent s.dimensions To m os (rule_sends a so_far place small whole down) so_far.1,
      ))
      30 (omega arith)

  pub linked_sends : (down : Bool) → ReachAll (outcome_of_link s.dimensions s.tones down line w).making.sends
  linked_sends down =
      let whole : Bool = not down && restarts_interface w.legs line in
      interface_sends whole (outcome_below s.dimensions (rule_of s.tones whole down) line (with_line w line down) 30) (slots_send whole down).1

  -- ---- the restart of the line

  give_up_sends : (a : MessageOutcome) → HasWalked a → (place : ℕ) → place < 30 → (condition : Condition) → Reach ((give_up_rule s.tones condition).does a.making.world.legs (record { line = line; place = place }))
  give_up_sends a so_far place small condition =
      let x : Slot = record { line = line; place = place } in
      give_up_by s.tones a.making.world.legs Reach x condition
      (λ leg at.
      restart_sends s.dimensions s.tones a.making.world so_far.0.kept.1 To (record { slot = x; leg = leg }) (exists, small) at own (walked_to a so_far x leg (exists, small) refl at) temporary_failure condition whole_line)
      (λ none. (tt, tt))

  line_sends : (condition : Condition) → HasWalked (outcome_below s.dimensions (give_up_rule s.tones condition) line w 30)
  line_sends condition =
      each_below s.dimensions (give_up_rule s.tones condition) line w HasWalked (walk_first s w e planned stands, none_reached)
      (λ a place small so_far.
      let x : Slot = record { line = line; place = place } in
      let m : Making = a.making in
      let os = (give_up_rule s.tones condition).does m.world.legs x in (
        walk s w e planned stands m os so_far.0 (give_up_orderly s.dimensions s.tones m.world so_far.0.kept.1 none x (exists, small) condition) (give_up_kept s.dimensions s.tones condition m x so_far.0.kept (exists, small)),
        all_sent s.dimensions To m os (give_up_sends a so_far place small condition) so_far.1,
      ))
      30 (omega arith)

  pub given_up_sends : ReachAll (outcome_of_line_restart s.dimensions s.tones line w).making.sends
  given_up_sends =
      let down : Bool = is_down w.legs line in
      let condition = unanswered down in
      interface_sends (not down) (outcome_below s.dimensions (give_up_rule s.tones condition) line w 30) (line_sends condition).1

-- ---- an event on a line

module _ (s : Setting) (w : World) (e : Event) (line : ℕ) (planned : IsPlanned s) (stands : CallsStand s w) (exists : line < s.dimensions.external) where
  abbrev To : ℕ → Type 0
  To other = IsConcerned s w e line other

  abbrev AllTo : List Signal → Type 0
  AllTo sends = AreTo s.dimensions To sends

  abbrev Out : List Operation → Type 0
  Out os = SendAll s.dimensions To os

  -- an answered leg sends nothing
  put_none : (x : Slot) (leg : Leg) → Sends s.dimensions To (answered w.legs x leg)
  put_none x leg = answered_does (Sends s.dimensions To) w.legs x leg tt tt

  none_sent : AllTo []
  none_sent = All-nil (λ (m : Signal). To m.line)

  by_list : (os : List Operation) → Out os → AllTo (making_after_all s.dimensions (making_at w) os).sends
  by_list os out = all_sent s.dimensions To (making_at w) os out none_sent

  in_call : (x z : Slot) (leg : Leg) → IsExternal s.dimensions.external x → leg_at w.legs x ≡ Some leg → leg.peer ≡ peer.Leg z → x.line ≡ line → To z.line
  in_call x z leg in_x at names on = In_call x z leg in_x at names on refl

  pub linked_to : (down : Bool) → AllTo (outcome_of_link s.dimensions s.tones down line w).making.sends
  linked_to = linked_sends s w e line planned stands exists To (Itself refl) in_call

  pub given_up_to : AllTo (outcome_of_line_restart s.dimensions s.tones line w).making.sends
  given_up_to = given_up_sends s w e line planned stands exists To (Itself refl) in_call

  -- the legs of the line, and their peers
  module _ (h : HeldLeg) (at : leg_at w.legs h.slot ≡ Some h.leg) (in_h : IsExternal s.dimensions.external h.slot) (on : h.slot.line ≡ line) where
    own_to : To h.slot.line
    own_to = Itself on

    other_to : (y : Slot) → h.leg.peer ≡ peer.Leg y → To y.line
    other_to y names = In_call h.slot y h.leg in_h at names on refl

  -- ---- a new call

  module _ (first : Bool) (own : ℕ) (asked : Pending) (x : Slot) (in_x : IsExternal s.dimensions.external x) (on : x.line ≡ line) where
    asking : (b : Bool) → Out (ask_for_digits b x (caller_leg overlap_sending own peer.Alone))
    asking true = (Itself on, tt)
    asking false = tt

    -- the called slot has its leg after the call is offered
    offered_leg : (y : Slot) (reference : ℕ) → IsExternal s.dimensions.external y
        → leg_at (making_after_all s.dimensions (making_at w) (call_line first own asked x y reference)).world.legs y ≡ Some (begun w (called_leg reference x))
    offered_leg y reference in_y =
        let put : Making = making_after s.dimensions (making_at w) (op.Put x (caller_leg 3 own (peer.Leg y))) in
        leg_at-with_entry_here s.dimensions.external put.world.legs y (Some (begun w (called_leg reference x))) (length-set w.legs.held (number_of x) (Some (begun w (caller_leg 3 own (peer.Leg y)))) ∙ stands.legs.count) in_y

    offered : (y : Slot) (reference : ℕ) → IsExternal s.dimensions.external y × (idle w y ≡ true) → next s w e ≡ (making_after_all s.dimensions (making_at w) (call_line first own asked x y reference)).world
        → Out (call_line first own asked x y reference)
    offered y reference c is =
        (tt, (Itself on, (Offered x y (begun w (called_leg reference x)) c.1 (ap (λ (v : World). leg_at v.legs y) is ∙ offered_leg y reference c.0) refl on refl, tt)))

    call_sends : (t : Found) (o : Option Slot) → ((y : Slot) → o ≡ Some y → IsExternal s.dimensions.external y × (idle w y ≡ true))
        → next s w e ≡ (making_after_all s.dimensions (making_at w) (call first w own asked x t o)).world → Out (call first w own asked x t o)
    call_sends (Line l) (Some y) found is = offered y (lowest_free_reference w.legs l) (found y refl) is
    call_sends (Line l) None found is = tt
    call_sends (Lines ls) (Some y) found is = offered y (lowest_free_reference w.legs y.line) (found y refl) is
    call_sends (Lines ls) None found is = tt
    call_sends (Room room) o found is = (put_none x (caller_leg active own (peer.Room room)), (tt, (Itself on, (Itself on, tt))))
    call_sends More o found is = (tt, asking first)
    call_sends Nothing o found is = tt

    accept_sends : (digits : List ℕ) → next s w e ≡ (making_after_all s.dimensions (making_at w) (accept first w own asked x (target_dialled s.plan digits))).world
        → Out (accept first w own asked x (target_dialled s.plan digits))
    accept_sends digits is =
        let t = target_dialled s.plan digits in
        call_sends t (called_slot w x t) (λ y chosen. called_idle s w x planned digits t refl y chosen) is

  -- ---- a message

  module _ (octets : List ℕ) (is : e ≡ Message_event line octets) where
    module _ (h : HeldLeg) (m : Message) (asks : request_of w.legs line octets ≡ For_leg h m) where
      at : leg_at w.legs h.slot ≡ Some h.leg
      at = (received_stands w.legs line octets h m asks).at

      on : h.slot.line ≡ line
      on = (received_stands w.legs line octets h m asks).among.0

      in_h : IsExternal s.dimensions.external h.slot
      in_h = (subst (λ n. n < s.dimensions.external) (sym on) exists, (received_stands w.legs line octets h m asks).among.1)

      own : To h.slot.line
      own = own_to h at in_h on

      dial_sends : (p : Pending) (o : Option ℕ) → next s w e ≡ (making_after_all s.dimensions (making_at w) (dial_on s w h p o)).world → Out (dial_on s w h p o)
      dial_sends p (Some cause) after = own_cleared s.dimensions s.tones w stands.legs To h in_h at own (other_to h at in_h on) cause
      dial_sends p None after = accept_sends false h.leg.reference p h.slot in_h on p.called after

      pending_sends : (o : Option Pending) → next s w e ≡ (making_after_all s.dimensions (making_at w) (with_pending s w h m o)).world → Out (with_pending s w h m o)
      pending_sends None after = tt
      pending_sends (Some p) after = dial_sends (asked_with p m) (digits_refusal s w h.slot p.called m) after

      peers : (does : HeldLeg → List Operation) → ((k : HeldLeg) → To k.slot.line → Out (does k)) → Out (with_peer (peer_of w.legs h.leg.peer) does)
      peers does each = peer_sends s.dimensions s.tones w stands.legs To h in_h at own (other_to h at in_h on) h.leg.peer does refl each

      then_peer : (os : List Operation) (cause : ℕ) → Out os → Out (os ++ with_peer (peer_of w.legs h.leg.peer) (clear_with s.tones cause))
      then_peer os cause first = and_peer s.dimensions s.tones w stands.legs To h in_h at own (other_to h at in_h on) os cause first

      course_sends : (a : Act) → next s w e ≡ (making_after_all s.dimensions (making_at w) (course_of s w h m a).operations).world → Out (course_of s w h m a).operations
      course_sends act.Nothing after = tt
      course_sends act.Unexpected after = (own, tt)
      course_sends act.Enquiry after = (own, tt)
      course_sends act.Proceeding after = (tt, tt)
      course_sends act.Alerting after = peers (on_alerting s.tones h) (λ k to. (tt, (tt, (tt, (to, tt)))))
      course_sends act.Answer after = peers (on_connect w.legs h) (λ k to. (tt, (tt, (put_none h.slot (in_state active h.leg), (put_none k.slot (in_state active k.leg), (own, (to, tt)))))))
      course_sends act.Digits after = pending_sends (pending_at w.legs h.slot) after
      course_sends (act.Disconnect cause) after = then_peer (on_disconnect h) cause (tt, (own, tt))
      course_sends (act.Release cause) after = then_peer (on_release h) cause (tt, (tt, (own, tt)))
      course_sends (act.ReleaseComplete cause) after = then_peer (on_release_complete h) cause (tt, (tt, tt))
      course_sends (act.Report reported) after =
          let cause : ℕ = message_not_compatible_with_call_state in
          report_does Out s w h m reported tt (tt, tt) (then_peer (clear_with s.tones cause h) cause (own_cleared s.dimensions s.tones w stands.legs To h in_h at own (other_to h at in_h on) cause))

    accepted_sends : (m : Message) (o : Option Slot) → ((x : Slot) → o ≡ Some x → IsExternal s.dimensions.external x × (x.line ≡ line))
        → next s w e ≡ (making_after_all s.dimensions (making_at w) (accept_at s w m o)).world → Out (accept_at s w m o)
    accepted_sends m None found after = tt
    accepted_sends m (Some x) found after = let c = found x refl in accept_sends true m.reference (call_asked m) x c.0 c.1 (called_in m.elements) after

    setup_sends : (m : Message) (o : Option ℕ) → next s w e ≡ (making_after_all s.dimensions (making_at w) (setup s w line m o)).world → Out (setup s w line m o)
    setup_sends m (Some cause) after = (Itself refl, tt)
    setup_sends m None after = accepted_sends m (caller_slot w line (channel_in m.elements)) (λ x chosen.
        let c = caller_is w line (channel_in m.elements) x chosen in
        ((subst (λ n. n < s.dimensions.external) (sym c.1.0) exists, c.1.1), c.1.0)) after

    answer_sends : (o : Option OutgoingMessage) → Out (answer_back line o)
    answer_sends None = tt
    answer_sends (Some message) = (Itself refl, tt)

  module _ (octets : List ℕ) (is : e ≡ Message_event line octets) where
    request_sends : (r : Request) → request_of w.legs line octets ≡ r → next s w e ≡ (outcome_for s w line r).making.world → AllTo (outcome_for s w line r).making.sends
    request_sends (For_leg h m) asks after = by_list (course_of s w h m (act_on h.leg.state m)).operations (course_sends octets is h m asks (act_on h.leg.state m) after)
    request_sends (New_call m) asks after = by_list (setup s w line m (refusal s w line m)) (setup_sends octets is m (refusal s w line m) after)
    request_sends (On_no_call m) asks after = by_list (answer_back line (answer_without_call m)) (answer_sends octets is (answer_without_call m))
    request_sends (Restarts r) asks after = All-push (λ (m : Signal). To m.line) (outcome_below s.dimensions (restart_rule s.tones r) line w 30).making.sends _ (restarted s w e line planned stands exists To (Itself refl) in_call r).1 (Itself refl)
    request_sends (Confirms r) asks after = (confirmed s w e line planned stands exists To (Itself refl) in_call r).1
    request_sends Unanswered asks after = none_sent

    pub message_sends : AllTo (outcome_of_octets s w line octets).making.sends
    message_sends = request_sends (request_of w.legs line octets) refl (ap (next s w) is)

pub sent_by : (s : Setting) (w : World) (e : Event) (line : ℕ) → IsPlanned s → Fits s.dimensions.external e → CallsStand s w → IsOnLine line e → All (λ (m : Signal). IsConcerned s w e line m.line) (sends_of (reply s w e))
sent_by s w (Nail x y) line planned fits stands on = absurd on
sent_by s w (Seat x room) line planned fits stands on = absurd on
sent_by s w (Free x) line planned fits stands on = absurd on
sent_by s w (Message_event other octets) line planned fits stands on =
    subst (λ n. All (λ (m : Signal). IsConcerned s w (Message_event other octets) n m.line) (sends_of (reply s w (Message_event other octets)))) on
    (message_sends s w (Message_event other octets) other planned stands fits.0 octets refl)
sent_by s w (LinkUp other) line planned fits stands on =
    subst (λ n. All (λ (m : Signal). IsConcerned s w (LinkUp other) n m.line) (sends_of (reply s w (LinkUp other)))) on (linked_to s w (LinkUp other) other planned stands fits false)
sent_by s w (LinkDown other) line planned fits stands on =
    subst (λ n. All (λ (m : Signal). IsConcerned s w (LinkDown other) n m.line) (sends_of (reply s w (LinkDown other)))) on (linked_to s w (LinkDown other) other planned stands fits true)
sent_by s w (RestartLine other) line planned fits stands on =
    subst (λ n. All (λ (m : Signal). IsConcerned s w (RestartLine other) n m.line) (sends_of (reply s w (RestartLine other)))) on (given_up_to s w (RestartLine other) other planned stands fits)
sent_by s w (Frame input) line planned fits stands on = absurd on

-- ---- a change of the data link of a line, and its restart

module _ (s : Setting) (w : World) (e : Event) (line : ℕ) (planned : IsPlanned s) (stands : CallsStand s w) (exists : line < s.dimensions.external) where
  own_or_called : (x z : Slot) (leg : Leg) → IsExternal s.dimensions.external x → leg_at w.legs x ≡ Some leg → leg.peer ≡ peer.Leg z → x.line ≡ line → IsInCallWith s w line z.line
  own_or_called x z leg in_x at names on = Other_leg x z leg in_x at names on refl

  pub link_to : (down : Bool) → All (λ (m : Signal). IsInCallWith s w line m.line) (outcome_of_link s.dimensions s.tones down line w).making.sends
  link_to = linked_sends s w e line planned stands exists (IsInCallWith s w line) (Own refl) own_or_called

  pub restart_to : All (λ (m : Signal). IsInCallWith s w line m.line) (outcome_of_line_restart s.dimensions s.tones line w).making.sends
  restart_to = given_up_sends s w e line planned stands exists (IsInCallWith s w line) (Own refl) own_or_called

pub changed_by : (s : Setting) (w : World) (e : Event) (line : ℕ) → IsPlanned s → Fits s.dimensions.external e → CallsStand s w → IsChange line e → All (λ (m : Signal). IsInCallWith s w line m.line) (sends_of (reply s w e))
changed_by s w (Nail x y) line planned fits stands on = absurd on
changed_by s w (Seat x room) line planned fits stands on = absurd on
changed_by s w (Free x) line planned fits stands on = absurd on
changed_by s w (Message_event other octets) line planned fits stands on = absurd on
changed_by s w (LinkUp other) line planned fits stands on =
    subst (λ n. All (λ (m : Signal). IsInCallWith s w n m.line) (sends_of (reply s w (LinkUp other)))) on (link_to s w (LinkUp other) other planned stands fits false)
changed_by s w (LinkDown other) line planned fits stands on =
    subst (λ n. All (λ (m : Signal). IsInCallWith s w n m.line) (sends_of (reply s w (LinkDown other)))) on (link_to s w (LinkDown other) other planned stands fits true)
changed_by s w (RestartLine other) line planned fits stands on =
    subst (λ n. All (λ (m : Signal). IsInCallWith s w n m.line) (sends_of (reply s w (RestartLine other)))) on (restart_to s w (RestartLine other) other planned stands fits)
changed_by s w (Frame input) line planned fits stands on = absurd on
