-- Only clearing messages, a RESTART and expiries end a call.
use Rattle.std.proofs.Common.{◌≡◌, ◌≢◌, ℕ, ◌*◌, ◌<◌, ◌⊎◌, inl, inr, Bool, true, false, List, [], ◌∷◌, Option, Some, None, length, length-set, refl, sym, ◌∙◌, ap, subst, arith, eqb-true}
use Rattle.std.specs.Prelude.{◌==◌, ◌&&◌, ◌↔◌, not, option_map, if◌then◌else◌}
use Rattle.std.proofs.lemmas.Bool.Decides.{nat_tests}
use Rattle.std.proofs.lemmas.Grind.{common_steps}
use Rattle.circuit_model.specs.declared.channel.Slot.{Slot}
use Rattle.circuit_model.specs.Extent.{IsExternal}
use Rattle.circuit_model.proofs.Slots.{true_or_false}
use Rattle.control_memory.specs.Layout.{number_of}
use Rattle.q931_codec.specs.declared.kind.MessageKind.{MessageKind}
use Rattle.q931_codec.specs.declared.kind.MessageKind.TheVariants as kind
use Rattle.q931_codec.specs.declared.message.Message.{Message}
use Rattle.q931_codec.specs.CallStates.{active, call_delivered, call_present, call_received, incoming_call_proceeding, null, outgoing_call_proceeding, overlap_sending, release_request}
use Rattle.q931_codec.specs.Contents.{call_state_in}
use Rattle.q931_codec.specs.Causes.{message_not_compatible_with_call_state, temporary_failure}
use Rattle.call_states.specs.Acts.{act_of, act_of_status, act_on, before_release_request, clearing_cause, every_state, expected_in, is_among}
use Rattle.call_states.specs.declared.act.Act.{Act}
use Rattle.call_states.specs.declared.act.Act.TheVariants as act
use Rattle.call_states.specs.declared.leg.HeldLeg.{HeldLeg}
use Rattle.call_states.specs.declared.leg.Leg.{Leg}
use Rattle.call_states.specs.declared.leg.Peer.{Peer}
use Rattle.call_states.specs.declared.leg.Peer.TheVariants as peer
use Rattle.call_states.specs.declared.leg.Side.{Side}
use Rattle.call_states.specs.declared.leg.Side.TheVariants.{Caller}
use Rattle.clearing_rules.specs.declared.scope.Restart.{Restart}
use Rattle.clearing_rules.specs.UnknownReference.{answer_without_call}
use Rattle.exchange_events.specs.declared.trace.Event.TheVariants.{LinkUp, LinkDown, RestartLine}
use Rattle.exchange_events.specs.Sizes.{Setting, Dimensions}
use Rattle.exchange_events.specs.Sound.{IsPlanned}
use Rattle.call_profile.specs.ActCourse.{course_of}
use Rattle.call_profile.specs.Acts.{answered, in_state, with_enquiry, peer_of, with_peer, on_alerting, on_connect}
use Rattle.call_profile.specs.Calls.{Request, For_leg, New_call, On_no_call, Restarts, Confirms, Unanswered, request_of, answer_back, outcome_for, after_message}
use Rattle.call_profile.specs.Course.{only, nothing}
use Rattle.call_laws.specs.Dropped.{HasLine, left_by_failure, waiting_for_link}
use Rattle.call_profile.specs.LegStanding.{CallsStand, HasPeer, IsInCall, AreOneCall, are_matched}
use Rattle.call_profile.specs.Legs.{Legs, leg_at, with_entry, retransmitted_from}
use Rattle.call_profile.specs.Operations as op
use Rattle.call_profile.specs.Operations.{Operation, Making, begun, making_at, making_after, making_after_all}
use Rattle.call_laws.specs.Restarted.{IsRestart, left_with}
use Rattle.call_profile.specs.Restarts.{restarts_slot}
use Rattle.call_laws.specs.Resumed.{resumed_on}
use Rattle.call_profile.specs.Setup.{setup, refusal}
use Rattle.call_profile.specs.Step.{next}
use Rattle.call_profile.specs.World.{World}
use Rattle.call_profile.proofs.AnsweredLegLemmas.{answered_does}
use Rattle.call_profile.proofs.BesideLemmas.{look, leg_at-with_entry_here, leg_at-with_entry_else, same_or_apart}
use Rattle.call_profile.proofs.ClearingLemmas.{held_there}
use Rattle.call_laws.proofs.ConfirmedLineLemmas.{confirmed_held}
use Rattle.call_laws.proofs.DroppedLineLemmas.{active_wait, call_active, other_lines_are_left}
use Rattle.call_laws.proofs.LineRestartLemmas.{line_is_empty}
use Rattle.call_profile.proofs.NamedLegLemmas.{received_stands}
use Rattle.call_laws.proofs.RestartedLineLemmas.{leg_at_restarted_others}
use Rattle.call_profile.proofs.ReportLemmas.{state_agrees, state_differs}
use Rattle.call_laws.proofs.ResumedLineLemmas.{legs_are_resumed}
use Rattle.call_profile.proofs.StandingLegLemmas.{happened_kept}
use Rattle.privacy.specs.Ending.{IsClearing, By_disconnect, By_release, By_release_complete, By_status, By_report, IsEnding, Of_leg, Of_slot, Lasts}
use Rattle.privacy.specs.Undisturbed.{AreCalling, IsTheirOwn}
use Rattle.privacy.proofs.LegStateLemmas.{digits_overlap}
use Rattle.privacy.proofs.LineLemmas.{IsStrange, act_skip, answer_skip, by_skip, setup_skip}
use Rattle.privacy.proofs.StayingLemmas.{one_leg, slots_stay, used_by_leg}

-- ---- a leg that stays in its call

-- the leg has the same side, call reference and peer
pub record IsSameCall (was now : Leg) : Type 0 where
  pub side : now.side ≡ was.side
  pub reference : now.reference ≡ was.reference
  pub peer : now.peer ≡ was.peer

-- the slot has such a leg
abbrev pub Stays : World → Slot → Leg → Type 0
Stays v z leg = (now : Leg) × (leg_at v.legs z ≡ Some now) × IsSameCall leg now

same_call : (leg : Leg) → IsSameCall leg leg
same_call leg = record { side = refl; reference = refl; peer = refl }

module _ (s : Setting) (v : World) (stands : CallsStand s v) (x y : Slot) (caller called : Leg) (in_x : IsExternal s.dimensions.external x) (in_y : IsExternal s.dimensions.external y)
    (call : AreOneCall x caller y called) where
  -- if both legs stay in the call, it lasts
  pub both_last : Stays v x caller → Stays v y called → Lasts s v x y caller called
  both_last a b =
      let there : a.0.peer ≡ peer.Leg y = a.2.peer ∙ call.there in
      let has : HasPeer s.dimensions.external v.legs x a.0 (peer.Leg y) = subst (HasPeer s.dimensions.external v.legs x a.0) there (stands.legs.each x a.0 in_x a.1).peer in
      let other : has.1.0 ≡ b.0 = one_leg (leg_at v.legs y) has.1.0 b.0 has.1.1 b.1 in
      let one : IsInCall Caller x a.0 y has.1.0 = subst (λ (side : Side). IsInCall side x a.0 y has.1.0) (a.2.side ∙ call.calls) has.1.2 in
      (a.0, b.0, record { in_x = in_x; in_y = in_y; at_x = a.1; at_y = b.1; call = subst (λ (l : Leg). AreOneCall x a.0 y l) other one }, a.2.reference, b.2.reference)

-- ---- a leg with another leg is not in overlap sending

unmatched : (a b : ℕ) → are_matched a b ≡ true → (a ≡ overlap_sending → ⊥) × (b ≡ overlap_sending → ⊥)
unmatched a b matched = (λ is. grind (arith, common_steps, is, matched), λ is. grind (arith, common_steps, is, matched))

not_state : (a b : ℕ) → (a ≡ b → ⊥) → (a == b) ≡ false
not_state a b differ = elim (true_or_false (a == b)) [
  | inl same ↦ absurd (differ (eqb-true a b same))
  | inr other ↦ other
]

-- ---- operations that keep a leg in its call

module _ (d : Dimensions) (z : Slot) (in_z : IsExternal d.external z) (leg : Leg) where
  abbrev Writes : Slot → Leg → Type 0
  Writes x l = IsExternal d.external x × (z ≡ x → IsSameCall leg l)

  abbrev Keeps : Operation → Type 0
  Keeps (op.Clear x) = Unit {0}
  Keeps (op.Pair x y) = Unit {0}
  Keeps (op.Seat x room) = Unit {0}
  Keeps (op.Sound x kind) = Unit {0}
  Keeps (op.Put x l) = Writes x l
  Keeps (op.Wait x l p) = Writes x l
  Keeps (op.Expect x l message) = Writes x l
  Keeps (op.Repeat h octets) = Writes h.slot h.leg
  Keeps (op.Await x l) = Writes x l
  Keeps (op.Remove x condition) = IsExternal d.external x × (z ≡ x → ⊥)
  Keeps (op.Send line message) = Unit {0}

  abbrev KeepAll : List Operation → Type 0
  KeepAll [] = Unit {0}
  KeepAll (o ∷ os) = Keeps o × KeepAll os

  record IsKept (v : World) : Type 0 where
    size : length v.legs.held ≡ 30 * d.external
    stays : Stays v z leg

  module _ (legs : Legs) (x : Slot) (l : Leg) (size : length legs.held ≡ 30 * d.external) (may : Writes x l) (old : (now : Leg) × (leg_at legs z ≡ Some now) × IsSameCall leg now) where
    wrote : (now : Leg) × (leg_at (with_entry legs x (Some l)) z ≡ Some now) × IsSameCall leg now
    wrote = elim (same_or_apart z x) [
      | inl same ↦ (l, ap (leg_at (with_entry legs x (Some l))) same ∙ leg_at-with_entry_here d.external legs x (Some l) size may.0, may.1 same)
      | inr apart ↦ (old.0, leg_at-with_entry_else d.external legs x z (Some l) may.0 in_z apart ∙ old.1, old.2)
    ]

  -- the wait of a leg is no part of its call
  from_now : (n : ℕ) (b : Bool) (l : Leg) → IsSameCall leg l → IsSameCall leg (record l { since = n; resent = b })
  from_now n b l same = record { side = same.side; reference = same.reference; peer = same.peer }

  one_kept : (m : Making) (o : Operation) → Keeps o → IsKept m.world → IsKept (making_after d m o).world
  one_kept m (op.Clear x) may so_far = record { size = so_far.size; stays = so_far.stays }
  one_kept m (op.Pair x y) may so_far = record { size = so_far.size; stays = so_far.stays }
  one_kept m (op.Seat x room) may so_far = record { size = so_far.size; stays = so_far.stays }
  one_kept m (op.Sound x kind) may so_far = record { size = so_far.size; stays = so_far.stays }
  one_kept m (op.Put x l) may so_far =
      let new = begun m.world l in
      record { size = length-set m.world.legs.held (number_of x) (Some new) ∙ so_far.size; stays = wrote m.world.legs x new so_far.size (may.0, λ same. from_now m.world.holding.next false l (may.1 same)) so_far.stays }
  one_kept m (op.Wait x l p) may so_far =
      let new = begun m.world l in
      record { size = length-set m.world.legs.held (number_of x) (Some new) ∙ so_far.size; stays = wrote m.world.legs x new so_far.size (may.0, λ same. from_now m.world.holding.next false l (may.1 same)) so_far.stays }
  one_kept m (op.Expect x l message) may so_far =
      let new = begun m.world l in
      record { size = length-set m.world.legs.held (number_of x) (Some new) ∙ so_far.size; stays = wrote m.world.legs x new so_far.size (may.0, λ same. from_now m.world.holding.next false l (may.1 same)) so_far.stays }
  one_kept m (op.Repeat h octets) may so_far =
      let new = retransmitted_from m.world.holding.next h.leg in
      record { size = length-set m.world.legs.held (number_of h.slot) (Some new) ∙ so_far.size; stays = wrote m.world.legs h.slot new so_far.size (may.0, λ same. from_now m.world.holding.next true h.leg (may.1 same)) so_far.stays }
  one_kept m (op.Await x l) may so_far =
      let new = retransmitted_from m.world.holding.next l in
      record { size = length-set m.world.legs.held (number_of x) (Some new) ∙ so_far.size; stays = wrote m.world.legs x new so_far.size (may.0, λ same. from_now m.world.holding.next true l (may.1 same)) so_far.stays }
  one_kept m (op.Remove x condition) may so_far = record {
    size = length-set m.world.legs.held (number_of x) None ∙ so_far.size;
    stays = (so_far.stays.0, leg_at-with_entry_else d.external m.world.legs x z None may.0 in_z may.1 ∙ so_far.stays.1, so_far.stays.2);
  }
  one_kept m (op.Send line message) may so_far = record { size = so_far.size; stays = so_far.stays }

  all_kept : (m : Making) (os : List Operation) → KeepAll os → IsKept m.world → IsKept (making_after_all d m os).world
  all_kept m [] may so_far = so_far
  all_kept m (o ∷ os) may so_far = all_kept (making_after d m o) os may.1 (one_kept m o may.0 so_far)

-- ---- acts that keep a call

abbrev IsHarmless : Act → Type 0
IsHarmless act.Nothing = Unit {0}
IsHarmless act.Unexpected = Unit {0}
IsHarmless act.Enquiry = Unit {0}
IsHarmless act.Proceeding = Unit {0}
IsHarmless act.Alerting = Unit {0}
IsHarmless act.Answer = Unit {0}
IsHarmless act.Digits = ⊥
IsHarmless (act.Disconnect cause) = ⊥
IsHarmless (act.Release cause) = ⊥
IsHarmless (act.ReleaseComplete cause) = ⊥
IsHarmless (act.Report reported) = ⊥

module _ (s : Setting) (w : World) (stands : CallsStand s w) (z : Slot) (leg : Leg) (in_z : IsExternal s.dimensions.external z) (at_z : leg_at w.legs z ≡ Some leg) where
  abbrev Keep : List Operation → Type 0
  Keep os = KeepAll s.dimensions z in_z leg os

  -- an answered leg
  put_keeps : (x : Slot) (l : Leg) → Writes s.dimensions z in_z leg x l → Keeps s.dimensions z in_z leg (answered w.legs x l)
  put_keeps x l may = answered_does (Keeps s.dimensions z in_z leg) w.legs x l may may

  -- the leg of a slot in another state
  other_state : (k : HeldLeg) (state : ℕ) → leg_at w.legs k.slot ≡ Some k.leg → z ≡ k.slot → IsSameCall leg (in_state state k.leg)
  other_state k state at same =
      let is : leg ≡ k.leg = one_leg (leg_at w.legs k.slot) leg k.leg (sym (ap (leg_at w.legs) same) ∙ at_z) at in
      record { side = ap (λ (l : Leg). l.side) (sym is); reference = ap (λ (l : Leg). l.reference) (sym is); peer = ap (λ (l : Leg). l.peer) (sym is) }

  module _ (h : HeldLeg) (in_h : IsExternal s.dimensions.external h.slot) (at : leg_at w.legs h.slot ≡ Some h.leg) where
    own : (state : ℕ) → IsExternal s.dimensions.external h.slot × (z ≡ h.slot → IsSameCall leg (in_state state h.leg))
    own state = (in_h, other_state h state at)

    peer_keeps : (p : Peer) (does : HeldLeg → List Operation) → h.leg.peer ≡ p → ((k : HeldLeg) → IsExternal s.dimensions.external k.slot → leg_at w.legs k.slot ≡ Some k.leg → Keep (does k))
        → Keep (with_peer (peer_of w.legs p) does)
    peer_keeps peer.Alone does is each = tt
    peer_keeps (peer.Leg y) does is each =
        let has : HasPeer s.dimensions.external w.legs h.slot h.leg (peer.Leg y) = subst (HasPeer s.dimensions.external w.legs h.slot h.leg) is (stands.legs.each h.slot h.leg in_h at).peer in
        subst (λ (o : Option HeldLeg). Keep (with_peer o does)) (sym (held_there w.legs y has.1.0 has.1.1)) (each (record { slot = y; leg = has.1.0 }) has.0 has.1.1)
    peer_keeps (peer.Room room) does is each = tt

    course_keeps : (m : Message) (a : Act) → IsHarmless a → Keep (course_of s w h m a).operations
    course_keeps m act.Nothing can = tt
    course_keeps m act.Unexpected can = (tt, tt)
    course_keeps m act.Enquiry can = (tt, tt)
    course_keeps m act.Proceeding can = (own incoming_call_proceeding, tt)
    course_keeps m act.Alerting can = peer_keeps h.leg.peer (on_alerting s.tones h) refl (λ k in_k at_k. (own 7, ((in_k, other_state k 4 at_k), (tt, (tt, tt)))))
    course_keeps m act.Answer can =
        peer_keeps h.leg.peer (on_connect w.legs h) refl (λ k in_k at_k. (tt, (tt, (put_keeps h.slot (in_state active h.leg) (own active), (put_keeps k.slot (in_state active k.leg) (in_k, other_state k active at_k), (tt, (tt, tt)))))))
    course_keeps m act.Digits can = absurd can
    course_keeps m (act.Disconnect cause) can = absurd can
    course_keeps m (act.Release cause) can = absurd can
    course_keeps m (act.ReleaseComplete cause) can = absurd can
    course_keeps m (act.Report reported) can = absurd can

    pub stays_after : (os : List Operation) → Keep os → Stays (making_after_all s.dimensions (making_at w) os).world z leg
    stays_after os keep = (all_kept s.dimensions z in_z leg (making_at w) os keep (record { size = stands.legs.count; stays = (leg, at_z, same_call leg) })).stays

    pub stays_by : (m : Message) (a : Act) → IsHarmless a → Stays (making_after_all s.dimensions (making_at w) (course_of s w h m a).operations).world z leg
    stays_by m a can = stays_after (course_of s w h m a).operations (course_keeps m a can)

    -- the leg whose user reported the same state
    pub agreed_stays : Stays (making_after_all s.dimensions (making_at w) (state_agrees h)).world z leg
    agreed_stays = stays_after (state_agrees h) (
      (
        in_h,
        λ same.
            let is = other_state h h.leg.state at same in
            record { side = is.side; reference = is.reference; peer = is.peer },
      ),
      tt,
    )

-- ---- what an act states of its message

abbrev Means : HeldLeg → Message → Act → Type 0
Means h m act.Nothing = Unit {0}
Means h m act.Unexpected = Unit {0}
Means h m act.Enquiry = Unit {0}
Means h m act.Proceeding = Unit {0}
Means h m act.Alerting = Unit {0}
Means h m act.Answer = Unit {0}
Means h m act.Digits = Unit {0}
Means h m (act.Disconnect cause) = IsClearing h m
Means h m (act.Release cause) = IsClearing h m
Means h m (act.ReleaseComplete cause) = IsClearing h m
Means h m (act.Report reported) = (m.kind ≡ kind.Status) × (call_state_in m.elements ≡ Some reported) × (h.leg.state ≡ active)

module _ (h : HeldLeg) (m : Message) where
  either_means : (b : Bool) (a c : Act) → Means h m a → Means h m c → Means h m (if b then a else c)
  either_means true a c one other = one
  either_means false a c one other = other

  expected_means : (states : List ℕ) (state : ℕ) (a : Act) → Means h m a → Means h m (expected_in states state a)
  expected_means states state a means = either_means (is_among states state) a act.Unexpected means tt

  null_means : (reported : ℕ) (b : Bool) (a : Act) → (reported == null) ≡ b → m.kind ≡ kind.Status → call_state_in m.elements ≡ Some reported → Means h m a
      → Means h m (if b then act.ReleaseComplete temporary_failure else a)
  null_means reported true a is k told means = By_status k (told ∙ ap (λ n. Some n) (eqb-true reported null is))
  null_means reported false a is k told means = means

  report_means : (reported : ℕ) (b : Bool) → (h.leg.state == active) ≡ b → m.kind ≡ kind.Status → call_state_in m.elements ≡ Some reported → Means h m (if b then act.Report reported else act.Nothing)
  report_means reported true is k told = (k, told, eqb-true h.leg.state active is)
  report_means reported false is k told = tt

  status_means : (r : Option ℕ) → m.kind ≡ kind.Status → call_state_in m.elements ≡ r → Means h m (act_of_status h.leg.state r)
  status_means None k told = tt
  status_means (Some reported) k told =
      null_means reported (reported == null) (if h.leg.state == active then act.Report reported else act.Nothing) refl k told (report_means reported (h.leg.state == active) refl k told)

  kind_means : (k : MessageKind) (cause : ℕ) → m.kind ≡ k → Means h m (act_of h.leg.state k cause (call_state_in m.elements))
  kind_means kind.CallProceeding cause is = expected_means (call_present ∷ []) h.leg.state act.Proceeding tt
  kind_means kind.Alerting cause is = expected_means (call_present ∷ incoming_call_proceeding ∷ []) h.leg.state act.Alerting tt
  kind_means kind.Connect cause is = expected_means (call_present ∷ call_received ∷ incoming_call_proceeding ∷ []) h.leg.state act.Answer tt
  kind_means kind.ConnectAcknowledge cause is = expected_means (active ∷ []) h.leg.state act.Nothing tt
  kind_means kind.Progress cause is = expected_means every_state h.leg.state act.Nothing tt
  kind_means kind.Notify cause is = expected_means every_state h.leg.state act.Nothing tt
  kind_means kind.Facility cause is = expected_means every_state h.leg.state act.Nothing tt
  kind_means kind.UserInformation cause is = expected_means every_state h.leg.state act.Nothing tt
  kind_means kind.Setup cause is = expected_means every_state h.leg.state act.Nothing tt
  kind_means kind.Disconnect cause is = expected_means before_release_request h.leg.state (act.Disconnect cause) (By_disconnect is)
  kind_means kind.Release cause is =
      either_means (h.leg.state == release_request) (act.ReleaseComplete cause) (expected_in before_release_request h.leg.state (act.Release cause)) (By_release is)
      (expected_means before_release_request h.leg.state (act.Release cause) (By_release is))
  kind_means kind.ReleaseComplete cause is = expected_means every_state h.leg.state (act.ReleaseComplete cause) (By_release_complete is)
  kind_means kind.Status cause is = expected_means every_state h.leg.state (act_of_status h.leg.state (call_state_in m.elements)) (status_means (call_state_in m.elements) is refl)
  kind_means kind.StatusEnquiry cause is = expected_means every_state h.leg.state act.Enquiry tt
  kind_means kind.SetupAcknowledge cause is = tt
  kind_means kind.Restart cause is = tt
  kind_means kind.RestartAcknowledge cause is = tt
  kind_means kind.Information cause is =
      either_means (h.leg.state == overlap_sending) act.Digits (expected_in (outgoing_call_proceeding ∷ call_delivered ∷ active ∷ []) h.leg.state act.Nothing) tt
      (expected_means (outgoing_call_proceeding ∷ call_delivered ∷ active ∷ []) h.leg.state act.Nothing tt)
  kind_means (kind.Unknown octet) cause is = tt

  act_means : Means h m (act_on h.leg.state m)
  act_means = kind_means m.kind (clearing_cause m.elements) refl

-- ---- an event

module _ (s : Setting) (w : World) (line : ℕ) (planned : IsPlanned s) (stands : CallsStand s w) (x y : Slot) (caller called : Leg) (c : AreCalling s.dimensions.external w x y caller called) where
  abbrev LastsIn : World → Type 0
  LastsIn v = Lasts s v x y caller called

  last_both : (v : World) → CallsStand s v → Stays v x caller → Stays v y called → LastsIn v
  last_both v stands_v a b = both_last s v stands_v x y caller called c.in_x c.in_y c.call a b

  -- both slots are as they were
  same_legs : (v : World) → CallsStand s v → leg_at v.legs x ≡ leg_at w.legs x → leg_at v.legs y ≡ leg_at w.legs y → LastsIn v
  same_legs v stands_v same_x same_y = last_both v stands_v (caller, same_x ∙ c.at_x, same_call caller) (called, same_y ∙ c.at_y, same_call called)

  -- ---- a change of the data link

  resumed_same : (leg : Leg) (b e o r : Bool) (other : Leg) → o ≡ false
      → IsSameCall leg (if b then (if e then begun w (with_enquiry true leg) else if o then other else if r then retransmitted_from w.holding.next leg else leg) else leg)
  resumed_same leg true true o r other not_so = record { side = refl; reference = refl; peer = refl }
  resumed_same leg true false true r other not_so = absurd cc
  resumed_same leg true false false true other not_so = record { side = refl; reference = refl; peer = refl }
  resumed_same leg true false false false other not_so = same_call leg
  resumed_same leg false e o r other not_so = same_call leg

  pub up_lasts : line < s.dimensions.external → LastsIn (next s w (LinkUp line))
  up_lasts exists =
      let can : HasLine s w line = record { stands = stands; line_exists = exists } in
      let overlap = unmatched caller.state called.state c.call.matched in
      last_both (next s w (LinkUp line)) (happened_kept s w (LinkUp line) planned exists stands)
      (resumed_on line w x caller, legs_are_resumed s w line can x c.in_x ∙ ap (option_map (resumed_on line w x)) c.at_x, resumed_same caller _ _ _ _ _ (not_state caller.state overlap_sending overlap.0))
      (resumed_on line w y called, legs_are_resumed s w line can y c.in_y ∙ ap (option_map (resumed_on line w y)) c.at_y, resumed_same called _ _ _ _ _ (not_state called.state overlap_sending overlap.1))

  waits_same : (leg : Leg) (b : Bool) → IsSameCall leg (if b then leg else retransmitted_from w.holding.next (with_enquiry false leg))
  waits_same leg true = same_call leg
  waits_same leg false = record { side = refl; reference = refl; peer = refl }

  left_same : (leg other : Leg) (b e : Bool) → e ≡ true → IsSameCall leg (if b && not e then other else leg)
  left_same leg other true true is = same_call leg
  left_same leg other false e is = same_call leg
  left_same leg other true false is = absurd cc

  is_active : (leg : Leg) → leg.state ≡ active → (leg.state == active) ≡ true
  is_active leg is = grind (arith, nat_tests, is)

  down_stays : line < s.dimensions.external → (z p : Slot) (leg : Leg) → IsExternal s.dimensions.external z → leg_at w.legs z ≡ Some leg → leg.peer ≡ peer.Leg p → leg.state ≡ active → Stays (next s w (LinkDown line)) z leg
  down_stays exists z p leg in_z at names is =
      let can : HasLine s w line = record { stands = stands; line_exists = exists } in
      elim (true_or_false (z.line == line)) [
        | inl on ↦ (waiting_for_link w leg, active_wait s w line can z leg in_z (eqb-true z.line line on) at is, waits_same leg leg.resent)
        | inr off ↦ (
          left_by_failure line w leg leg.peer,
          other_lines_are_left s w line can z leg in_z (λ e. grind (arith, nat_tests, off, e)) at,
          subst (λ (q : Peer). IsSameCall leg (left_by_failure line w leg q)) (sym names) (left_same leg _ (p.line == line) (leg.state == active) (is_active leg is)),
        )
      ]

  pub down_lasts : line < s.dimensions.external → caller.state ≡ active → LastsIn (next s w (LinkDown line))
  down_lasts exists is =
      last_both (next s w (LinkDown line)) (happened_kept s w (LinkDown line) planned exists stands)
      (down_stays exists x y caller c.in_x c.at_x c.call.there is)
      (down_stays exists y x called c.in_y c.at_y c.call.back ((call_active Caller x y caller called c.call).0 is))

  -- ---- the restart of a line

  not_their_own : (x.line ≢ line) → (y.line ≢ line) → ¬ (IsTheirOwn s w x y caller called (RestartLine line))
  not_their_own off_x off_y (inl on) = elim on [
    | inl same ↦ off_x (sym same)
    | inr same ↦ off_y (sym same)
  ]
  not_their_own off_x off_y (inr runs) = elim runs [
    | inl never ↦ never
    | inr never ↦ never
  ]

  pub others_last : line < s.dimensions.external → (x.line ≢ line) → (y.line ≢ line) → LastsIn (next s w (RestartLine line))
  others_last exists off_x off_y =
      let stay = slots_stay s w planned stands x y caller called c (RestartLine line) exists (not_their_own off_x off_y) in
      same_legs (next s w (RestartLine line)) (happened_kept s w (RestartLine line) planned exists stands) stay.0.leg stay.1.leg

  -- a call that lasts has a leg at both slots, and no leg is left on the line
  none_left : line < s.dimensions.external → LastsIn (next s w (RestartLine line)) → (x.line ≢ line) × (y.line ≢ line)
  none_left exists lasts =
      let after : World = next s w (RestartLine line) in
      let empty = line_is_empty s w line (record { stands = stands; line_exists = exists }) in (
        λ on. let wrong : None ≡ Some lasts.0 = sym (empty x c.in_x on) ∙ lasts.2.at_x in cc,
        λ on. let wrong : None ≡ Some lasts.1 = sym (empty y c.in_y on) ∙ lasts.2.at_y in cc,
      )

  pub restart_ends : line < s.dimensions.external → LastsIn (next s w (RestartLine line)) ↔ ((x.line ≢ line) × (y.line ≢ line))
  restart_ends exists = (none_left exists, λ off. others_last exists off.0 off.1)

  -- ---- a message

  module _ (octets : List ℕ) (exists : line < s.dimensions.external) where
    abbrev Ends : Type 0
    Ends = IsEnding w x y line octets

    module _ (h : HeldLeg) (m : Message) (asks : request_of w.legs line octets ≡ For_leg h m) where
      at : leg_at w.legs h.slot ≡ Some h.leg
      at = (received_stands w.legs line octets h m asks).at

      in_h : IsExternal s.dimensions.external h.slot
      in_h = let there = received_stands w.legs line octets h m asks in (subst (λ n. n < s.dimensions.external) (sym there.among.0) exists, there.among.1)

      abbrev after : Act → World
      after a = (making_after_all s.dimensions (making_at w) (course_of s w h m a).operations).world

      harmless : (a : Act) → IsHarmless a → CallsStand s (after a) → LastsIn (after a)
      harmless a can stands_v = last_both (after a) stands_v (stays_by s w stands x caller c.in_x c.at_x h in_h at m a can) (stays_by s w stands y called c.in_y c.at_y h in_h at m a can)

      -- the leg of another call
      odd_x : (x ≡ h.slot → ⊥) → (y ≡ h.slot → ⊥) → IsStrange w x h.slot
      odd_x off_x off_y = record {
        apart = off_x;
        far = λ leg p at_z names e.
            let is = one_leg (leg_at w.legs x) leg caller at_z c.at_x in
            let both : peer.Leg p ≡ peer.Leg y = sym names ∙ ap (λ (l : Leg). l.peer) is ∙ c.call.there in
            let there : p ≡ y = cc in
            off_y (sym there ∙ e);
      }

      odd_y : (x ≡ h.slot → ⊥) → (y ≡ h.slot → ⊥) → IsStrange w y h.slot
      odd_y off_x off_y = record {
        apart = off_y;
        far = λ leg p at_z names e.
            let is = one_leg (leg_at w.legs y) leg called at_z c.at_y in
            let both : peer.Leg p ≡ peer.Leg x = sym names ∙ ap (λ (l : Leg). l.peer) is ∙ c.call.back in
            let there : p ≡ x = cc in
            off_x (sym there ∙ e);
      }

      elsewhere : (a : Act) → (x ≡ h.slot → ⊥) → (y ≡ h.slot → ⊥) → CallsStand s (after a) → LastsIn (after a)
      elsewhere a off_x off_y stands_v =
          let used_x = used_by_leg w x caller c.at_x in
          let used_y = used_by_leg w y called c.at_y in
          same_legs (after a) stands_v
          (by_skip s w x planned stands c.in_x used_x (course_of s w h m a).operations (act_skip s w x planned stands c.in_x used_x h in_h at (odd_x off_x off_y) m a) stands_v.circuits).leg
          (by_skip s w y planned stands c.in_y used_y (course_of s w h m a).operations (act_skip s w y planned stands c.in_y used_y h in_h at (odd_y off_x off_y) m a) stands_v.circuits).leg

      -- a leg of the call, or of another
      own_or_other : (h.slot ≡ x) ⊎ (h.slot ≡ y) ⊎ ((x ≡ h.slot → ⊥) × (y ≡ h.slot → ⊥))
      own_or_other = elim (same_or_apart h.slot x) [
        | inl same ↦ inl same
        | inr off_x ↦ elim (same_or_apart h.slot y) [
          | inl same ↦ inr (inl same)
          | inr off_y ↦ inr (inr (λ e. off_x (sym e), λ e. off_y (sym e)))
        ]
      ]

      cleared : (a : Act) → IsClearing h m → CallsStand s (after a) → LastsIn (after a) ⊎ Ends
      cleared a is stands_v = elim own_or_other [
        | inl same ↦ inr (Of_leg h m asks (inl same) is)
        | inr rest ↦ elim rest [
          | inl same ↦ inr (Of_leg h m asks (inr same) is)
          | inr off ↦ inl (elsewhere a off.0 off.1 stands_v)
        ]
      ]

      -- the user of a leg of the call reports its state
      abbrev after_report : Bool → Bool → World
      after_report asked same =
          (making_after_all s.dimensions (making_at w) (if asked then (if same then only (state_agrees h) else record { operations = state_differs s w h; cause = Some message_not_compatible_with_call_state }) else nothing).operations).world

      by_report : (reported : ℕ) → act_on h.leg.state m ≡ act.Report reported → (h.slot ≡ x) ⊎ (h.slot ≡ y) → (asked same : Bool) → h.leg.enquired ≡ asked → (reported == active) ≡ same
          → CallsStand s (after_report asked same) → LastsIn (after_report asked same) ⊎ Ends
      by_report reported acts which true true asked same stands_v =
          inl (last_both (after_report true true) stands_v (agreed_stays s w stands x caller c.in_x c.at_x h in_h at) (agreed_stays s w stands y called c.in_y c.at_y h in_h at))
      by_report reported acts which true false asked differs stands_v =
          let means = subst (Means h m) acts (act_means h m) in
          inr (Of_leg h m asks which (By_report reported means.0 means.1 (λ e. grind (arith, nat_tests, differs, e)) means.2 asked))
      by_report reported acts which false same asked differs stands_v = inl (same_legs w stands refl refl)

      reported_lasts : (reported : ℕ) → act_on h.leg.state m ≡ act.Report reported → CallsStand s (after (act.Report reported)) → LastsIn (after (act.Report reported)) ⊎ Ends
      reported_lasts reported acts stands_v = elim own_or_other [
        | inl same ↦ by_report reported acts (inl same) h.leg.enquired (reported == active) refl refl stands_v
        | inr rest ↦ elim rest [
          | inl same ↦ by_report reported acts (inr same) h.leg.enquired (reported == active) refl refl stands_v
          | inr off ↦ inl (elsewhere (act.Report reported) off.0 off.1 stands_v)
        ]
      ]

      -- digits come for a leg without another leg
      overlap : act_on h.leg.state m ≡ act.Digits → h.leg.state ≡ overlap_sending
      overlap acts = digits_overlap h.leg m acts

      dialled : act_on h.leg.state m ≡ act.Digits → CallsStand s (after act.Digits) → LastsIn (after act.Digits)
      dialled acts stands_v =
          let apart = unmatched caller.state called.state c.call.matched in
          elim own_or_other [
            | inl same ↦ absurd (apart.0 (ap (λ (l : Leg). l.state) (one_leg (leg_at w.legs x) caller h.leg c.at_x (sym (ap (leg_at w.legs) same) ∙ at)) ∙ overlap acts))
            | inr rest ↦ elim rest [
              | inl same ↦ absurd (apart.1 (ap (λ (l : Leg). l.state) (one_leg (leg_at w.legs y) called h.leg c.at_y (sym (ap (leg_at w.legs) same) ∙ at)) ∙ overlap acts))
              | inr off ↦ elsewhere act.Digits off.0 off.1 stands_v
            ]
          ]

      leg_lasts : (a : Act) → act_on h.leg.state m ≡ a → CallsStand s (after a) → LastsIn (after a) ⊎ Ends
      leg_lasts act.Nothing acts stands_v = inl (harmless act.Nothing tt stands_v)
      leg_lasts act.Unexpected acts stands_v = inl (harmless act.Unexpected tt stands_v)
      leg_lasts act.Enquiry acts stands_v = inl (harmless act.Enquiry tt stands_v)
      leg_lasts act.Proceeding acts stands_v = inl (harmless act.Proceeding tt stands_v)
      leg_lasts act.Alerting acts stands_v = inl (harmless act.Alerting tt stands_v)
      leg_lasts act.Answer acts stands_v = inl (harmless act.Answer tt stands_v)
      leg_lasts act.Digits acts stands_v = inl (dialled acts stands_v)
      leg_lasts (act.Disconnect cause) acts stands_v = cleared (act.Disconnect cause) (subst (Means h m) acts (act_means h m)) stands_v
      leg_lasts (act.Release cause) acts stands_v = cleared (act.Release cause) (subst (Means h m) acts (act_means h m)) stands_v
      leg_lasts (act.ReleaseComplete cause) acts stands_v = cleared (act.ReleaseComplete cause) (subst (Means h m) acts (act_means h m)) stands_v
      leg_lasts (act.Report reported) acts stands_v = reported_lasts reported acts stands_v

    -- a new call, or a message without a leg
    by_list : (os : List Operation) → ((z : Slot) (leg : Leg) (in_z : IsExternal s.dimensions.external z) → leg_at w.legs z ≡ Some leg → CallsStand s (making_after_all s.dimensions (making_at w) os).world
        → leg_at (making_after_all s.dimensions (making_at w) os).world.legs z ≡ leg_at w.legs z) → CallsStand s (making_after_all s.dimensions (making_at w) os).world → LastsIn (making_after_all s.dimensions (making_at w) os).world
    by_list os same stands_v = same_legs (making_after_all s.dimensions (making_at w) os).world stands_v (same x caller c.in_x c.at_x stands_v) (same y called c.in_y c.at_y stands_v)

    called_lasts : (m : Message) → CallsStand s (outcome_for s w line (New_call m)).making.world → LastsIn (outcome_for s w line (New_call m)).making.world
    called_lasts m = by_list (setup s w line m (refusal s w line m)) (λ z leg in_z at stands_v.
        let used = used_by_leg w z leg at in
        (by_skip s w z planned stands in_z used (setup s w line m (refusal s w line m)) (setup_skip s w z planned stands in_z used line exists m (refusal s w line m)) stands_v.circuits).leg)

    answered_lasts : (m : Message) → CallsStand s (outcome_for s w line (On_no_call m)).making.world → LastsIn (outcome_for s w line (On_no_call m)).making.world
    answered_lasts m = by_list (answer_back line (answer_without_call m)) (λ z leg in_z at stands_v.
        (by_skip s w z planned stands in_z (used_by_leg w z leg at) (answer_back line (answer_without_call m)) (answer_skip s w z stands in_z line (answer_without_call m)) stands_v.circuits).leg)

    -- a RESTART of neither slot
    module _ (r : Restart) (asks : request_of w.legs line octets ≡ Restarts r) where
      restart : IsRestart s w line octets r
      restart = record { stands = stands; line_exists = exists; restarts = asks }

      with_same : (leg other : Leg) (b : Bool) → b ≡ false → IsSameCall leg (if b then other else leg)
      with_same leg other true not_so = absurd cc
      with_same leg other false not_so = same_call leg

      restart_stays : (z p : Slot) (leg : Leg) → IsExternal s.dimensions.external z → leg_at w.legs z ≡ Some leg → leg.peer ≡ peer.Leg p → restarts_slot r line z ≡ false → restarts_slot r line p ≡ false
          → Stays (after_message s w line octets) z leg
      restart_stays z p leg in_z at names off_z off_p = (
        left_with r line w leg leg.peer,
        leg_at_restarted_others s w line octets r restart z leg in_z off_z at,
        subst (λ (q : Peer). IsSameCall leg (left_with r line w leg q)) (sym names) (with_same leg _ (restarts_slot r line p) off_p),
      )

      restart_lasts : CallsStand s (after_message s w line octets) → LastsIn (after_message s w line octets) ⊎ Ends
      restart_lasts stands_v = elim (true_or_false (restarts_slot r line x)) [
        | inl on_x ↦ inr (Of_slot r asks (inl on_x))
        | inr off_x ↦ elim (true_or_false (restarts_slot r line y)) [
          | inl on_y ↦ inr (Of_slot r asks (inr on_y))
          | inr off_y ↦ inl (last_both (after_message s w line octets) stands_v (restart_stays x y caller c.in_x c.at_x c.call.there off_x off_y) (restart_stays y x called c.in_y c.at_y c.call.back off_y off_x))
        ]
      ]

    request_lasts : (r : Request) → request_of w.legs line octets ≡ r → CallsStand s (outcome_for s w line r).making.world → LastsIn (outcome_for s w line r).making.world ⊎ Ends
    request_lasts (For_leg h m) asks stands_v = leg_lasts h m asks (act_on h.leg.state m) refl stands_v
    request_lasts (New_call m) asks stands_v = inl (called_lasts m stands_v)
    request_lasts (On_no_call m) asks stands_v = inl (answered_lasts m stands_v)
    request_lasts (Restarts r) asks stands_v =
        subst (λ (q : Request). LastsIn (outcome_for s w line q).making.world ⊎ Ends) asks
        (restart_lasts r asks (subst (λ (q : Request). CallsStand s (outcome_for s w line q).making.world) (sym asks) stands_v))
    request_lasts (Confirms r) asks stands_v =
        let v = (outcome_for s w line (Confirms r)).making.world in
        let same = confirmed_held s.dimensions s.tones r line w in
        inl (same_legs v stands_v (ap (look x) same) (ap (look y) same))
    request_lasts Unanswered asks stands_v = inl (same_legs w stands refl refl)

    pub message_lasts : CallsStand s (after_message s w line octets) → LastsIn (after_message s w line octets) ⊎ Ends
    message_lasts stands_v = request_lasts (request_of w.legs line octets) refl stands_v
