-- A message has a record for each call that it ends, and no other.
use Rattle.std.proofs.Common.{◌≡◌, ℕ, zero, suc, ◌*◌, ◌<◌, ◌≤◌, Bool, true, false, ◌⊎◌, inl, inr, List, [], ◌++◌, length, Option, Some, None, refl, sym, ◌∙◌, ap, subst, arith, if◌then◌else◌}
use Rattle.std.specs.Prelude.{◌==◌, Contains, option_and_then, unwrap_or}
use Rattle.std.specs.List.{cons_option}
use Rattle.std.proofs.lemmas.List.Elements.{Contains-append_left, Contains-append_right, Contains-append_cases}
use Rattle.circuit_model.specs.declared.channel.Slot.{Slot}
use Rattle.circuit_model.specs.Circuits.{heard_by}
use Rattle.circuit_model.specs.Extent.{IsExternal}
use Rattle.circuit_model.proofs.Age.{none_in_nil}
use Rattle.circuit_model.proofs.Slots.{true_or_false}
use Rattle.q931_codec.specs.CallStates.{active}
use Rattle.q931_codec.specs.Causes.{message_not_compatible_with_call_state, temporary_failure}
use Rattle.q931_codec.specs.declared.message.Message.{Message}
use Rattle.call_states.specs.Acts.{act_on}
use Rattle.call_states.specs.declared.act.Act.{Act}
use Rattle.call_states.specs.declared.act.Act.TheVariants as act
use Rattle.call_states.specs.declared.condition.Condition.TheVariants.{Idle}
use Rattle.call_states.specs.declared.leg.HeldLeg.{HeldLeg}
use Rattle.call_states.specs.declared.leg.Leg.{Leg}
use Rattle.call_states.specs.declared.leg.Peer.TheVariants as peer
use Rattle.clearing_rules.specs.declared.scope.Restart.{Restart}
use Rattle.clearing_rules.specs.Restarting.{is_restarted}
use Rattle.exchange_events.specs.declared.record.CallRecord.{CallRecord}
use Rattle.exchange_events.specs.Sizes.{Setting}
use Rattle.call_profile.specs.CallRecords.{is_calling, record_of, records}
use Rattle.call_profile.specs.Calls.{Request, For_leg, New_call, On_no_call, Restarts, Confirms, Unanswered, request_of, outcome_for, after_message, answer_to, course_on, making_by}
use Rattle.call_profile.specs.EndedCalls.{cause_of_act_at, record_ended}
use Rattle.call_profile.specs.Legs.{leg_at, held_at}
use Rattle.call_profile.specs.Operations.{making_after_all}
use Rattle.call_laws.specs.Recorded.{Arrive, HasEnded, IsRecordOf, IsRecorded, cause_of_clearing}
use Rattle.call_profile.specs.Restarts.{MessageOutcome, restarts_slot, restart_leg, outcome_at_slot, outcome_below, restart_rule}
use Rattle.call_profile.specs.World.{World}
use Rattle.call_profile.proofs.BesideLemmas.{same_or_apart}
use Rattle.call_laws.proofs.ConfirmedLineLemmas.{confirmed_held, confirmed_records, records_of_none}
use Rattle.call_profile.proofs.ClearingLemmas.{Kept}
use Rattle.call_profile.proofs.NamedLegLemmas.{received_stands}
use Rattle.call_laws.proofs.NoCallEndedLemmas.{records_answer_ends_none}
use Rattle.call_profile.proofs.RecordOfActLemmas.{records_leg_ends, leg_records, records_of_act, told_cause, disconnected_silent}
use Rattle.call_laws.proofs.RecordedCallLemmas.{EndsBy, record_ends, end_recorded, calling_record, record_same, record_cause}
use Rattle.call_profile.proofs.RefusalLemmas.{no_records}
use Rattle.call_laws.proofs.RestartedLegLemmas.{IsRestartedAt, peer_after, slot_done}
use Rattle.call_laws.proofs.RestartedLineLemmas.{AreRestartedBelow, named_or_not, step_below, start_below}
use Rattle.call_profile.proofs.SetupRecordLemmas.{records_setup_ends_none}
use Rattle.call_profile.proofs.RestartedSlotLemmas.{below_none, below_more}

-- ---- records of the calls that ended

-- the record of each call that ended between two worlds is there, with the cause that its caller's leg gives, and no
-- other
pub record AreEndedBy (external : ℕ) (before afterwards : World) (cause : HeldLeg → ℕ) (told : List CallRecord) : Type 0 where
  pub ends : (c : CallRecord) → Contains told c → EndsBy external before afterwards cause c
  pub recorded : (h : HeldLeg) (c : CallRecord) → HasEnded external before afterwards h → record_of before (cause h) h ≡ Some c → Contains told c

-- with one cause for all
abbrev pub AreOfEnded : ℕ → World → World → ℕ → List CallRecord → Type 0
AreOfEnded external before afterwards cause told = AreEndedBy external before afterwards (λ h. cause) told

pub of_records : (external : ℕ) (u v : World) (cause : ℕ) → length u.legs.held ≡ 30 * external → AreOfEnded external u v cause (records u v cause)
of_records external u v cause size = record { ends = record_ends external u v cause size; recorded = end_recorded external u v cause size }

-- ---- one slot is restarted

-- a leg that calls is as it was, and hears what it heard
abbrev pub CallsOn : ℕ → World → World → Type 0
CallsOn external w v = (x : Slot) (leg : Leg) → IsExternal external x → leg_at v.legs x ≡ Some leg → is_calling (Some leg) ≡ true
    → (leg_at w.legs x ≡ Some leg) × (heard_by v.holding.circuits x ≡ heard_by w.holding.circuits x)

module _ (external : ℕ) (r : Restart) (line : ℕ) (u v : World) (x : Slot) (done : IsRestartedAt external r temporary_failure line u v x) where
  -- the leg at a slot calls no more, or all is as it was
  abbrev Became : Slot → Type 0
  Became z = (is_calling (leg_at v.legs z) ≡ false)
      ⊎ ((leg_at v.legs z ≡ leg_at u.legs z) × ((l : Leg) → leg_at u.legs z ≡ Some l → heard_by v.holding.circuits z ≡ heard_by u.holding.circuits z))

  peer_silent : (z : Slot) (l : Leg) → is_calling (peer_after r temporary_failure line u.holding.next z l) ≡ false
  peer_silent z l = elim (true_or_false (restarts_slot r line z)) [
    | inl too ↦ rw too refl
    | inr not_so ↦ rw not_so (disconnected_silent u.holding.next temporary_failure l)
  ]

  by_leg : (z : Slot) → IsExternal external z → (z ≡ x → ⊥) → (o : Option Leg) → leg_at u.legs z ≡ o → Became z
  by_leg z in_z apart None at = inr (
    done.legs z in_z apart (λ other at_other is. let wrong : None ≡ Some other = sym at ∙ at_other in cc),
    λ l at_l. let wrong : None ≡ Some l = sym at ∙ at_l in absurd cc,
  )
  by_leg z in_z apart (Some l) at = elim (named_or_not l.peer x) [
    | inl named ↦ inl (ap is_calling (done.other_leg z l in_z at named) ∙ peer_silent z l)
    | inr other ↦
        let not_named : (k : Leg) → leg_at u.legs z ≡ Some k → k.peer ≡ peer.Leg x → ⊥ = λ k at_k is.
        let e : Some l ≡ Some k = sym at ∙ at_k in
        let same : l ≡ k = cc in
        other (ap (λ (m : Leg). m.peer) same ∙ is) in
        inr (done.legs z in_z apart not_named, λ k at_k. done.heard z k in_z at_k apart (not_named k at_k))
  ]

  became : (z : Slot) → IsExternal external z → Became z
  became z in_z = elim (same_or_apart z x) [
    | inl same ↦ inl (ap (λ (q : Slot). is_calling (leg_at v.legs q)) same ∙ ap is_calling done.here)
    | inr apart ↦ by_leg z in_z apart (leg_at u.legs z) refl
  ]

  pub stays_silent : (z : Slot) → IsExternal external z → is_calling (leg_at u.legs z) ≡ false → is_calling (leg_at v.legs z) ≡ false
  stays_silent z in_z silent = elim (became z in_z) [
    | inl stopped ↦ stopped
    | inr same ↦ ap is_calling same.0 ∙ silent
  ]

  pub calls_on : CallsOn external u v
  calls_on z l in_z at calls = elim (became z in_z) [
    | inl stopped ↦ let wrong : false ≡ true = sym stopped ∙ ap is_calling at ∙ calls in absurd cc
    | inr same ↦ let before : leg_at u.legs z ≡ Some l = sym same.0 ∙ at in (before, same.1 l before)
  ]

-- ---- one slot after another

module _ (external : ℕ) (w u v : World) (cause : HeldLeg → ℕ)
    (called_before : (x : Slot) (leg : Leg) → IsExternal external x → leg_at u.legs x ≡ Some leg → is_calling (Some leg) ≡ true → leg_at w.legs x ≡ Some leg)
    (same_record : (h : HeldLeg) → HasEnded external u v h → record_of u (cause h) h ≡ record_of w (cause h) h)
    (silent : (z : Slot) → IsExternal external z → is_calling (leg_at u.legs z) ≡ false → is_calling (leg_at v.legs z) ≡ false)
    (before later : List CallRecord) (old : AreEndedBy external w u cause before) (new : AreEndedBy external u v cause later) where
  old_ends : (c : CallRecord) → EndsBy external w u cause c → EndsBy external w v cause c
  old_ends c e = (e.0, record { within = e.1.within; at = e.1.at; calls = e.1.calls; stops = silent e.0.slot e.1.within e.1.stops }, e.2)

  new_ends : (c : CallRecord) → EndsBy external u v cause c → EndsBy external w v cause c
  new_ends c e =
      let h = e.0 in (
        h,
        record { within = e.1.within; at = called_before h.slot h.leg e.1.within e.1.at e.1.calls; calls = e.1.calls; stops = e.1.stops },
        sym (same_record h e.1) ∙ e.2,
      )

  recorded_by : (h : HeldLeg) (c : CallRecord) → HasEnded external w v h → record_of w (cause h) h ≡ Some c → (o : Option Leg) → leg_at u.legs h.slot ≡ o → is_calling o ≡ true → Contains (before ++ later) c
  recorded_by h c ended e None at calls = absurd cc
  recorded_by h c ended e (Some k) at calls =
      let both : Some k ≡ Some h.leg = sym (called_before h.slot k ended.within at calls) ∙ ended.at in
      let same : k ≡ h.leg = cc in
      let here : leg_at u.legs h.slot ≡ Some h.leg = at ∙ ap (λ (l : Leg). Some l) same in
      let over : HasEnded external u v h = record { within = ended.within; at = here; calls = ended.calls; stops = ended.stops } in
      Contains-append_right before later c (new.recorded h c over (same_record h over ∙ e))

  pub both_of_ended : AreEndedBy external w v cause (before ++ later)
  both_of_ended = record {
    ends = λ c inside. elim (Contains-append_cases before later c inside) [
      | inl one ↦ old_ends c (old.ends c one)
      | inr other ↦ new_ends c (new.ends c other)
    ];
    recorded = λ h c ended e. elim (true_or_false (is_calling (leg_at u.legs h.slot))) [
      | inl calls ↦ recorded_by h c ended e (leg_at u.legs h.slot) refl calls
      | inr stopped ↦ Contains-append_left before later c (old.recorded h c (record { within = ended.within; at = ended.at; calls = ended.calls; stops = stopped }) e)
    ];
  }

module _ (s : Setting) (r : Restart) (line : ℕ) (w : World) (below : line < s.dimensions.external) (kept : Kept s.dimensions s.tones w) where
  abbrev external : ℕ
  external = s.dimensions.external

  -- what the slots below a place have left, and the records of the calls that they ended
  record So_far (n : ℕ) (a : MessageOutcome) : Type 0 where
    legs : AreRestartedBelow s r line w n a.making.world
    calls : CallsOn external w a.making.world
    recorded : AreOfEnded external w a.making.world temporary_failure a.recorded

  first : So_far 0 (outcome_below s.dimensions (restart_rule s.tones r) line w 0)
  first = subst (So_far 0) (sym (below_none s.dimensions (restart_rule s.tones r) line w)) (record {
    legs = start_below s r line w below kept;
    calls = λ x leg in_x at calls. (at, refl);
    recorded = record {
      ends = λ c inside. absurd (none_in_nil c inside);
      recorded = λ h c ended e. let wrong : true ≡ false = sym ended.calls ∙ sym (ap is_calling ended.at) ∙ ended.stops in absurd cc;
    };
  })

  module _ (n : ℕ) (small : n < 30) (a : MessageOutcome) (so_far : So_far n a) where
    abbrev here : Slot
    here = record { line = line; place = n }

    abbrev u : World
    u = a.making.world

    abbrev next_one : MessageOutcome
    next_one = outcome_at_slot s.dimensions (restart_rule s.tones r) here a

    abbrev v : World
    v = next_one.making.world

    step_by : ((z : Slot) → IsExternal external z → is_calling (leg_at u.legs z) ≡ false → is_calling (leg_at v.legs z) ≡ false) → CallsOn external u v → So_far (suc n) next_one
    step_by silent calls_on_here = record {
      legs = step_below s r line w below n small a so_far.legs;
      calls = λ x leg in_x at calls.
          let now = calls_on_here x leg in_x at calls in
          let before = so_far.calls x leg in_x now.0 calls in
          (before.0, now.1 ∙ before.1);
      recorded = both_of_ended external w u v (λ h. temporary_failure) (λ x leg in_x at calls. (so_far.calls x leg in_x at calls).0)
          (λ h e. record_same u w temporary_failure h so_far.legs.next (so_far.calls h.slot h.leg e.within e.at e.calls).1) silent a.recorded (records u v temporary_failure)
          so_far.recorded (of_records external u v temporary_failure so_far.legs.kept.1.count);
    }

    step : So_far (suc n) next_one
    step = elim (true_or_false (is_restarted r n)) [
      | inl restarted ↦
          let done = slot_done s.dimensions s.tones r line a.making here refl so_far.legs.kept (below, small) restarted in
          step_by (stays_silent external r line u v here done) (calls_on external r line u v here done)
      | inr not_so ↦
          let same : v ≡ u = ap (λ (b : Bool). (making_after_all s.dimensions a.making (if b then restart_leg s.tones temporary_failure Idle r u.legs (held_at u.legs here) else [])).world) not_so in
          step_by
          (λ z in_z silent. ap (λ (q : World). is_calling (leg_at q.legs z)) same ∙ silent)
          (λ z l in_z at calls. (sym (ap (λ (q : World). leg_at q.legs z) same) ∙ at, ap (λ (q : World). heard_by q.holding.circuits z) same))
    ]

  all_so_far : (n : ℕ) → n ≤ 30 → So_far n (outcome_below s.dimensions (restart_rule s.tones r) line w n)
  all_so_far zero small = first
  all_so_far (suc n) small =
      subst (So_far (suc n)) (sym (below_more s.dimensions (restart_rule s.tones r) line w n)) (step n (omega (arith, small)) (outcome_below s.dimensions (restart_rule s.tones r) line w n) (all_so_far n (omega (arith, small))))

  pub restart_recorded : AreOfEnded external w (outcome_for s w line (Restarts r)).making.world temporary_failure (outcome_for s w line (Restarts r)).recorded
  restart_recorded = (all_so_far 30 (omega arith)).recorded

-- ---- a message, by what it asks for

-- the records are of the calls that ended, with the cause that is given; or no cause is, and there are none
abbrev pub IsAccounted : ℕ → World → World → Option ℕ → List CallRecord → Type 0
IsAccounted external w v given told = (cause : ℕ) × AreOfEnded external w v cause told × ((given ≡ Some cause) ⊎ (told ≡ []))

report_clears : (w : World) (h : HeldLeg) (asked same : Bool)
    → let given : Option ℕ = (if asked then (if same then None else Some message_not_compatible_with_call_state) else None) in
    (given ≡ Some (unwrap_or given 0)) ⊎ (cons_option (option_and_then (record_ended w h) given) [] ≡ [])
report_clears w h true true = inr refl
report_clears w h true false = inl refl
report_clears w h false same = inr refl

act_clears : (w : World) (h : HeldLeg) (a : Act) → (cause_of_act_at h.leg a ≡ Some (told_cause h.leg a)) ⊎ (records_of_act w h a ≡ [])
act_clears w h act.Nothing = inr refl
act_clears w h act.Unexpected = inr refl
act_clears w h act.Enquiry = inr refl
act_clears w h act.Proceeding = inr refl
act_clears w h act.Alerting = inr refl
act_clears w h act.Answer = inr refl
act_clears w h act.Digits = inr refl
act_clears w h (act.Disconnect cause) = inl refl
act_clears w h (act.Release cause) = inl refl
act_clears w h (act.ReleaseComplete cause) = inl refl
act_clears w h (act.Report reported) = report_clears w h h.leg.enquired (reported == active)

module _ (s : Setting) (w : World) (line : ℕ) (octets : List ℕ) (may : Arrive s w line octets) where
  abbrev size : length w.legs.held ≡ 30 * s.dimensions.external
  size = may.stands.legs.count

  leg_accounted : (h : HeldLeg) (m : Message) → request_of w.legs line octets ≡ For_leg h m
      → IsAccounted s.dimensions.external w (outcome_for s w line (For_leg h m)).making.world (cause_of_act_at h.leg (act_on h.leg.state m)) (outcome_for s w line (For_leg h m)).recorded
  leg_accounted h m is =
      let named = received_stands w.legs line octets h m is in
      let on = named.among in
      let within : IsExternal s.dimensions.external h.slot = (subst (λ n. n < s.dimensions.external) (sym on.0) may.fits.0, on.1) in
      let v = (making_by s w (course_on s w h m)).world in
      let cause = told_cause h.leg (act_on h.leg.state m) in
      let told = leg_records s w h m may.planned may.stands within named.at in (
        cause,
        subst (AreOfEnded s.dimensions.external w v cause) (records_leg_ends s w h m may.planned may.stands within named.at ∙ sym told) (of_records s.dimensions.external w v cause size),
        elim (act_clears w h (act_on h.leg.state m)) [
          | inl clears ↦ inl clears
          | inr none ↦ inr (told ∙ none)
        ],
      )

  -- no call ended, and none is recorded
  none_accounted : (v : World) (given : Option ℕ) → records w v 0 ≡ [] → IsAccounted s.dimensions.external w v given []
  none_accounted v given none = (0, subst (AreOfEnded s.dimensions.external w v 0) none (of_records s.dimensions.external w v 0 size), inr refl)

  request_accounted : (q : Request) → request_of w.legs line octets ≡ q
      → IsAccounted s.dimensions.external w (outcome_for s w line q).making.world (cause_of_clearing q) (outcome_for s w line q).recorded
  request_accounted (For_leg h m) is = leg_accounted h m is
  request_accounted (New_call m) is = none_accounted (outcome_for s w line (New_call m)).making.world None (records_setup_ends_none s w line m may.planned may.stands may.fits.0)
  request_accounted (On_no_call m) is = none_accounted (outcome_for s w line (On_no_call m)).making.world None (records_answer_ends_none s w line m)
  request_accounted (Restarts r) is = (temporary_failure, restart_recorded s r line w may.fits.0 (may.stands.circuits, may.stands.legs), inl refl)
  request_accounted (Confirms r) is =
      let v = (outcome_for s w line (Confirms r)).making.world in
      subst (IsAccounted s.dimensions.external w v None) (sym (confirmed_records s.dimensions s.tones r line w))
      (none_accounted v None (records_of_none w v 0 (confirmed_held s.dimensions s.tones r line w)))
  request_accounted Unanswered is = none_accounted w None (no_records w 0)

  all_accounted : IsAccounted s.dimensions.external w (after_message s w line octets) (cause_of_clearing (request_of w.legs line octets)) (answer_to s w line octets).records
  all_accounted = request_accounted (request_of w.legs line octets) refl

  pub record_is : (c : CallRecord) → Contains (answer_to s w line octets).records c → (h : HeldLeg) × IsRecordOf s w line octets h c
  record_is c inside =
      let e = all_accounted.1.ends c inside in
      let same = record_cause w all_accounted.0 e.0 c e.2 in (
        e.0,
        elim all_accounted.2 [
          | inl given ↦ record { ended = e.1; cause = given ∙ ap (λ (n : ℕ). Some n) (sym same); is = subst (λ n. record_of w n e.0 ≡ Some c) (sym same) e.2 }
          | inr none ↦ absurd (none_in_nil c (subst (λ (told : List CallRecord). Contains told c) none inside))
        ],
      )

  pub ended_is_recorded : (h : HeldLeg) → HasEnded s.dimensions.external w (after_message s w line octets) h → IsRecorded s w line octets h
  ended_is_recorded h ended =
      let found = calling_record s.dimensions.external w all_accounted.0 h (may.stands.legs.each h.slot h.leg ended.within ended.at).peer ended.calls in
      let c = found.0 in
      let inside = all_accounted.1.recorded h c ended found.1 in
      let same = found.2 in
      elim all_accounted.2 [
        | inl given ↦ (
          c,
          record { ended = ended; cause = given ∙ ap (λ (n : ℕ). Some n) (sym same); is = subst (λ n. record_of w n h ≡ Some c) (sym same) found.1 },
          inside,
        )
        | inr none ↦ absurd (none_in_nil c (subst (λ (told : List CallRecord). Contains told c) none inside))
      ]
