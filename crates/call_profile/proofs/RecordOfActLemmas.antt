-- The records of what an act ends: the caller's for an act that clears a call, none for any other.
use Rattle.std.proofs.Common.{◌≡◌, ℕ, ◌*◌, Bool, true, false, ◌&&◌, inl, inr, List, [], length, Option, Some, None, refl, sym, ◌∙◌, ap, subst, eqb-true}
use Rattle.std.specs.Prelude.{◌==◌, if◌then◌else◌, option_and_then, unwrap_or, slice_set}
use Rattle.std.specs.List.{cons_option}
use Rattle.circuit_model.specs.declared.channel.Slot.{Slot}
use Rattle.circuit_model.specs.Extent.{IsExternal}
use Rattle.control_memory.specs.Layout.{number_of}
use Rattle.q931_codec.specs.declared.message.Message.{Message}
use Rattle.q931_codec.specs.CallStates.{overlap_sending, call_delivered, call_received, incoming_call_proceeding, active}
use Rattle.q931_codec.specs.Causes.{message_not_compatible_with_call_state}
use Rattle.q931_codec.specs.Contents.{call_state_in}
use Rattle.call_states.specs.declared.condition.Condition.TheVariants.{Idle}
use Rattle.call_states.specs.Acts.{act_of, act_on, clearing_cause, is_among}
use Rattle.call_states.specs.declared.act.Act.{Act}
use Rattle.call_states.specs.declared.act.Act.TheVariants as act
use Rattle.call_states.specs.declared.leg.Leg.{Leg}
use Rattle.call_states.specs.declared.leg.Peer.{Peer}
use Rattle.call_states.specs.declared.leg.Peer.TheVariants as peer
use Rattle.call_states.specs.declared.leg.Side.{Side}
use Rattle.call_states.specs.declared.leg.Side.TheVariants.{Caller, Called}
use Rattle.call_states.proofs.Causes.{cause_fits}
use Rattle.tone_rules.specs.declared.tones.Tones.{Tones}
use Rattle.call_states.specs.declared.leg.HeldLeg.{HeldLeg}
use Rattle.exchange_events.specs.declared.record.CallRecord.{CallRecord}
use Rattle.call_profile.specs.ActCourse.{course_of}
use Rattle.call_profile.specs.Acts.{in_state, in_release_request, in_disconnect_indication, with_enquiry, peer_of, with_peer, clear_with, on_disconnect, on_release, remove_leg, on_alerting, on_connect}
use Rattle.call_profile.specs.CallRecords.{is_calling, records, records_by}
use Rattle.call_profile.specs.Calls.{making_by}
use Rattle.call_profile.specs.Course.{Course, only, nothing}
use Rattle.call_profile.specs.EndedCalls.{caller_in, cause_of_act_at, record_calling, record_ended, record_of_act}
use Rattle.call_profile.specs.LegStanding.{CallsStand, LegsStand, HasPeer, IsInCall, AreOneCall}
use Rattle.exchange_events.specs.Sound.{IsPlanned}
use Rattle.call_profile.specs.Legs.{Legs, is_down, waiting_from, leg_at, with_entry}
use Rattle.call_profile.specs.Operations.{Operation, Making, begun, making_at, making_after_all}
use Rattle.exchange_events.specs.Sizes.{Setting, Dimensions}
use Rattle.call_profile.specs.World.{World}
use Rattle.call_profile.proofs.AnsweredLegLemmas.{answered_from, connected, making_connected}
use Rattle.call_profile.proofs.AnsweringLemmas.{ringing, caller_of}
use Rattle.call_profile.proofs.BesideLemmas.{look, leg_at-with_entry_here, leg_at-with_entry_else, same_or_apart}
use Rattle.call_profile.proofs.OneLegClearedLemmas.{IsLeft}
use Rattle.call_profile.proofs.ClearingLemmas.{held_there, peers_apart}
use Rattle.call_profile.proofs.DigitsRecordLemmas.{records_digits_end_none}
use Rattle.call_profile.proofs.EndedCallLemmas.{GoesOn, no_record_where_calling, one_record}
use Rattle.call_profile.proofs.MessageToLegLemmas.{Asked, Asked-act_of, two_ring, one_rings, with_caller}
use Rattle.call_profile.proofs.RefusalLemmas.{no_records}
use Rattle.call_profile.proofs.ReportLemmas.{state_agrees, state_differs}
use Rattle.call_profile.proofs.TwoStatesLemmas.{gone_to}
use Rattle.call_profile.proofs.LegTableLemmas.{leg_at_both_else, leg_at_both_first, leg_at_both_second}

-- the record of what an act ends, as a list
abbrev pub records_of_act : World → HeldLeg → Act → List CallRecord
records_of_act w h a = cons_option (record_of_act w h a) []

-- the cause of an act that clears the call of a leg; any cause would do for another act, which has no records
abbrev pub told_cause : Leg → Act → ℕ
told_cause leg a = unwrap_or (cause_of_act_at leg a) 0

-- ---- legs that don't call

-- a called leg doesn't
not_called : (leg : Leg) → leg.side ≡ Called → is_calling (Some leg) ≡ false
not_called leg is = rw is refl

pub called_silent : (legs after : Legs) (x : Slot) (leg : Leg) → leg_at legs x ≡ Some leg → leg.side ≡ Called → GoesOn legs after x
called_silent legs after x leg at is calls =
    let e : is_calling (Some leg) ≡ true = sym (ap is_calling at) ∙ calls in
    let f = not_called leg is in
    absurd cc

-- nor does one that is alone
and_false : (b : Bool) → (b && false) ≡ false
and_false true = refl
and_false false = refl

left_silent : (leg : Leg) (next : ℕ) (o : Option Leg) → IsLeft next leg o → is_calling o ≡ false
left_silent leg next o (inl gone) = rw gone refl
left_silent leg next o (inr waits) = rw waits (and_false _)

pub disconnected_silent : (next cause : ℕ) (leg : Leg) → is_calling (Some (waiting_from next (in_disconnect_indication cause leg))) ≡ false
disconnected_silent next cause leg = and_false _

pub same_goes_on : (before after : Legs) (x : Slot) → leg_at after x ≡ leg_at before x → GoesOn before after x
same_goes_on before after x same calls = ap is_calling same ∙ calls

-- ---- once the leg's slot is cleared, and the leg calls no more

module _ (d : Dimensions) (tones : Tones) (w : World) (x : Slot) (leg : Leg) (o : Option Leg) (cause : ℕ) (stand : LegsStand d.external tones w)
    (within : IsExternal d.external x) (at : leg_at w.legs x ≡ Some leg) (silent : is_calling o ≡ false)
    (m : Making) (legs : m.world.legs.held ≡ (with_entry w.legs x o).held) where
  abbrev one : Leg → Slot → List CallRecord
  one l z = cons_option (record_calling w cause (record { slot = z; leg = l })) []

  -- without a peer
  alone_else : (z : Slot) → IsExternal d.external z → (z ≡ x → ⊥) → GoesOn w.legs m.world.legs z
  alone_else z in_z apart = same_goes_on w.legs m.world.legs z (ap (look z) legs ∙ leg_at-with_entry_else d.external w.legs x z o within in_z apart)

  alone_over : is_calling (leg_at m.world.legs x) ≡ false
  alone_over = ap (λ os. is_calling (look x os)) legs ∙ ap is_calling (leg_at-with_entry_here d.external w.legs x o stand.count within) ∙ silent

  records_alone_caller : records w m.world cause ≡ one leg x
  records_alone_caller = one_record d.external w m.world cause x leg stand.count within at alone_over alone_else

  records_alone_called : leg.side ≡ Called → records w m.world cause ≡ []
  records_alone_called is = no_record_where_calling d.external w m.world cause stand.count (λ z in_z. elim (same_or_apart z x) [
    | inl same ↦ subst (GoesOn w.legs m.world.legs) (sym same) (called_silent w.legs m.world.legs x leg at is)
    | inr apart ↦ alone_else z in_z apart
  ])

  pub alone_records : (side : Side) → leg.side ≡ side → records w m.world cause ≡ cons_option (option_and_then (record_calling w cause) (caller_in side (record { slot = x; leg = leg }) None)) []
  alone_records Caller is = records_alone_caller
  alone_records Called is = records_alone_called is

  -- with the other leg of its call, which calls no more either
  module _ (v : World) (y : Slot) (other : Leg) (p : Option Leg) (in_y : IsExternal d.external y) (at_y : leg_at w.legs y ≡ Some other) (apart : y ≡ x → ⊥)
      (over : is_calling p ≡ false) (both : v.legs.held ≡ (with_entry m.world.legs y p).held) where
    both_legs : v.legs.held ≡ (with_entry (with_entry w.legs x o) y p).held
    both_legs = both ∙ ap (λ (os : List (Option Leg)). slice_set os (number_of y) p) legs

    both_others : (z : Slot) → IsExternal d.external z → (z ≡ x → ⊥) → (z ≡ y → ⊥) → GoesOn w.legs v.legs z
    both_others z in_z not_x not_y =
        same_goes_on w.legs v.legs z
        (ap (look z) both_legs ∙ leg_at_both_else d.external w.legs x y o p stand.count within in_y apart z in_z not_x not_y)

    both_over_x : is_calling (leg_at v.legs x) ≡ false
    both_over_x =
        ap (λ os. is_calling (look x os)) both_legs
        ∙ ap is_calling (leg_at_both_first d.external w.legs x y o p stand.count within in_y apart)
        ∙ silent

    both_over_y : is_calling (leg_at v.legs y) ≡ false
    both_over_y =
        ap (λ os. is_calling (look y os)) both_legs
        ∙ ap is_calling (leg_at_both_second d.external w.legs x y o p stand.count within in_y apart)
        ∙ over

    -- the leg is the caller's, or its peer is
    records_both_caller : other.side ≡ Called → records w v cause ≡ one leg x
    records_both_caller is = one_record d.external w v cause x leg stand.count within at both_over_x (λ z in_z not_x. elim (same_or_apart z y) [
      | inl same ↦ subst (GoesOn w.legs v.legs) (sym same) (called_silent w.legs v.legs y other at_y is)
      | inr not_y ↦ both_others z in_z not_x not_y
    ])

    records_both_called : leg.side ≡ Called → records w v cause ≡ one other y
    records_both_called is = one_record d.external w v cause y other stand.count in_y at_y both_over_y (λ z in_z not_y. elim (same_or_apart z x) [
      | inl same ↦ subst (GoesOn w.legs v.legs) (sym same) (called_silent w.legs v.legs x leg at is)
      | inr not_x ↦ both_others z in_z not_x not_y
    ])

    pub both_records : (side : Side) → leg.side ≡ side → IsInCall side x leg y other
        → records w v cause ≡ cons_option (option_and_then (record_calling w cause) (caller_in side (record { slot = x; leg = leg }) (Some (record { slot = y; leg = other })))) []
    both_records Caller is call = records_both_caller call.is_called
    both_records Called is call = records_both_called is

  peer_records : (p : Peer) → leg.peer ≡ p → HasPeer d.external w.legs x leg p
      → records w (making_after_all d m (with_peer (peer_of w.legs p) (clear_with tones cause))).world cause
      ≡ cons_option (option_and_then (record_calling w cause) (caller_in leg.side (record { slot = x; leg = leg }) (peer_of w.legs p))) []
  peer_records peer.Alone is has = alone_records leg.side refl
  peer_records (peer.Leg y) is has =
      rw (held_there w.legs y has.1.0 has.1.1)
      (both_records (making_after_all d m (clear_with tones cause (record { slot = y; leg = has.1.0 }))).world y has.1.0 (Some (begun m.world (in_disconnect_indication cause has.1.0))) has.0 has.1.1
      (peers_apart w.legs x y leg has.1.0 at has.1.1 has.1.2) (disconnected_silent m.world.holding.next cause has.1.0) refl leg.side refl has.1.2)
  peer_records (peer.Room room) is has = alone_records leg.side refl

  pub cleared_records : records w (making_after_all d m (with_peer (peer_of w.legs leg.peer) (clear_with tones cause))).world cause
      ≡ cons_option (record_ended w (record { slot = x; leg = leg }) cause) []
  cleared_records = peer_records leg.peer refl (stand.each x leg within at).peer

-- it waits for its release, or is gone
pub clearing_records : (d : Dimensions) (tones : Tones) (w : World) (x : Slot) (leg : Leg) (o : Option Leg) (cause : ℕ) → LegsStand d.external tones w → IsExternal d.external x
    → leg_at w.legs x ≡ Some leg → IsLeft w.holding.next leg o → (m : Making) → m.world.legs.held ≡ (with_entry w.legs x o).held
    → records w (making_after_all d m (with_peer (peer_of w.legs leg.peer) (clear_with tones cause))).world cause ≡ cons_option (record_ended w (record { slot = x; leg = leg }) cause) []
clearing_records d tones w x leg o cause stand within at left = cleared_records d tones w x leg o cause stand within at (left_silent leg w.holding.next o left)

-- ---- where a call goes on

-- the called leg at x is in another state, and so is its caller's, which calls on
module _ (external : ℕ) (w v : World) (x y : Slot) (leg other : Leg) (cause : ℕ) (size : length w.legs.held ≡ 30 * external)
    (in_x : IsExternal external x) (at_x : leg_at w.legs x ≡ Some leg) (is_called : leg.side ≡ Called) where
  records_called_alone : (o : Option Leg) → v.legs.held ≡ (with_entry w.legs x o).held → records w v cause ≡ []
  records_called_alone o legs = no_record_where_calling external w v cause size (λ z in_z. elim (same_or_apart z x) [
    | inl same ↦ subst (GoesOn w.legs v.legs) (sym same) (called_silent w.legs v.legs x leg at_x is_called)
    | inr not_x ↦ same_goes_on w.legs v.legs z (ap (look z) legs ∙ leg_at-with_entry_else external w.legs x z o in_x in_z not_x)
  ])

  records_caller_too : (o : Option Leg) (new : Leg) → IsExternal external y → (y ≡ x → ⊥) → is_calling (Some new) ≡ true
      → v.legs.held ≡ (with_entry (with_entry w.legs x o) y (Some new)).held → records w v cause ≡ []
  records_caller_too o new in_y apart calls legs = no_record_where_calling external w v cause size (λ z in_z. elim (same_or_apart z x) [
    | inl same ↦ subst (GoesOn w.legs v.legs) (sym same) (called_silent w.legs v.legs x leg at_x is_called)
    | inr not_x ↦ elim (same_or_apart z y) [
      | inl same ↦ subst (GoesOn w.legs v.legs) (sym same) (λ before.
          ap (λ os. is_calling (look y os)) legs ∙ ap is_calling (leg_at_both_second external w.legs x y o (Some new) size in_x in_y apart) ∙ calls)
      | inr not_y ↦ same_goes_on w.legs v.legs z (ap (look z) legs ∙ leg_at_both_else external w.legs x y o (Some new) size in_x in_y apart z in_z not_x not_y)
    ]
  ])

delivered_calls : (w : World) (leg : Leg) → leg.side ≡ Caller → is_calling (Some (gone_to w call_delivered leg)) ≡ true
delivered_calls w leg is = rw is refl

active_calls : (next : ℕ) (down : Bool) (leg : Leg) → leg.side ≡ Caller → is_calling (Some (answered_from down next (in_state active leg))) ≡ true
active_calls next down leg is = rw is refl

-- ---- the acts

module _ (s : Setting) (w : World) (h : HeldLeg) (m : Message) (planned : IsPlanned s) (stands : CallsStand s w)
    (within : IsExternal s.dimensions.external h.slot) (at : leg_at w.legs h.slot ≡ Some h.leg) where
  abbrev stand : LegsStand s.dimensions.external s.tones w
  stand = stands.legs

  abbrev caller_there : Type 0
  caller_there = (y : Slot) × (h.leg.peer ≡ peer.Leg y) × IsExternal s.dimensions.external y × ((other : Leg) × (leg_at w.legs y ≡ Some other) × AreOneCall y other h.slot h.leg)

  has_caller : is_among ringing h.leg.state ≡ true → caller_there
  has_caller rings = caller_of s.dimensions.external s.tones w h.slot h.leg rings h.leg.peer (stand.each h.slot h.leg within at).peer

  apart_from : (c : caller_there) → c.0 ≡ h.slot → ⊥
  apart_from c = peers_apart w.legs h.slot c.0 h.leg c.3.0 at c.3.1 (subst (λ (side : Side). IsInCall side h.slot h.leg c.0 c.3.0) (sym c.3.2.is_called) c.3.2)

  progress_records : (os : HeldLeg → List Operation) (c : caller_there)
      → records w (making_after_all s.dimensions (making_at w) (os (record { slot = c.0; leg = c.3.0 }))).world 0 ≡ []
      → records w (making_after_all s.dimensions (making_at w) (with_peer (peer_of w.legs h.leg.peer) os)).world 0 ≡ []
  progress_records os c none =
      ap (λ (list : List Operation). records w (making_after_all s.dimensions (making_at w) list).world 0) (with_caller w.legs h.leg.peer c.0 c.3.0 os c.1 c.3.1) ∙ none

  -- a user reports its state
  abbrev report_cause : Bool → Bool → Option ℕ
  report_cause asked same = if asked then (if same then None else Some message_not_compatible_with_call_state) else None

  abbrev report_course : Bool → Bool → Course
  report_course asked same =
      if asked then (if same then only (state_agrees h) else record { operations = state_differs s w h; cause = Some message_not_compatible_with_call_state }) else nothing

  same_state_goes_on : (z : Slot) → IsExternal s.dimensions.external z → GoesOn w.legs (making_by s w (report_course true true)).world.legs z
  same_state_goes_on z in_z =
      let v : World = (making_by s w (report_course true true)).world in
      let o : Option Leg = Some (begun w (with_enquiry false h.leg)) in
      elim (same_or_apart z h.slot) [
        | inl same ↦ subst (GoesOn w.legs v.legs) (sym same) (λ calls.
            let goes : is_calling (Some h.leg) ≡ true = sym (ap is_calling at) ∙ calls in
            ap is_calling (leg_at-with_entry_here s.dimensions.external w.legs h.slot o stand.count within) ∙ goes)
        | inr apart ↦ same_goes_on w.legs v.legs z (leg_at-with_entry_else s.dimensions.external w.legs h.slot z o within in_z apart)
      ]

  other_state_records : records w (making_by s w (report_course true false)).world message_not_compatible_with_call_state ≡ cons_option (record_ended w h message_not_compatible_with_call_state) []
  other_state_records =
      let cause : ℕ = message_not_compatible_with_call_state in
      cleared_records s.dimensions s.tones w h.slot h.leg (Some (begun w (in_disconnect_indication cause h.leg))) cause stand within at (disconnected_silent w.holding.next cause h.leg)
      (making_after_all s.dimensions (making_at w) (clear_with s.tones cause h)) refl

  report_records : (reported : ℕ) (asked same : Bool) → records w (making_by s w (report_course asked same)).world (unwrap_or (report_cause asked same) 0)
      ≡ cons_option (option_and_then (record_ended w h) (report_cause asked same)) []
  report_records reported true true = no_record_where_calling s.dimensions.external w (making_by s w (report_course true true)).world 0 stand.count same_state_goes_on
  report_records reported true false = other_state_records
  report_records reported false same = no_records w 0

  given_report_records : (reported : ℕ) (asked same : Bool) → records_by w (making_by s w (report_course asked same)).world (report_course asked same).cause
      ≡ cons_option (option_and_then (record_ended w h) (report_cause asked same)) []
  given_report_records reported true true = refl
  given_report_records reported true false = other_state_records
  given_report_records reported false same = refl

  act_records : (a : Act) → Asked h.leg.state a → records w (making_by s w (course_of s w h m a)).world (told_cause h.leg a) ≡ records_of_act w h a
  act_records act.Nothing asks = no_records w 0
  act_records act.Unexpected asks = no_records w 0
  act_records act.Enquiry asks = no_records w 0
  act_records act.Proceeding asks =
      let c = has_caller (one_rings h.leg.state asks) in
      records_called_alone s.dimensions.external w (making_by s w (course_of s w h m act.Proceeding)).world h.slot c.0 h.leg c.3.0 0 stand.count within at c.3.2.is_called
      (Some (gone_to w incoming_call_proceeding h.leg)) refl
  act_records act.Alerting asks =
      let c = has_caller (two_ring h.leg.state asks) in
      let y = c.0 in
      let other = c.3.0 in
      progress_records (on_alerting s.tones h) c
      (records_caller_too s.dimensions.external w (making_after_all s.dimensions (making_at w) (on_alerting s.tones h (record { slot = y; leg = other }))).world h.slot y h.leg other 0 stand.count within at c.3.2.is_called
      (Some (gone_to w call_received h.leg)) (gone_to w call_delivered other) c.2 (apart_from c) (delivered_calls w other c.3.2.calls) refl)
  act_records act.Answer asks =
      let c = has_caller asks in
      let y = c.0 in
      let other = c.3.0 in
      let k : HeldLeg = record { slot = y; leg = other } in
      let called : Leg = answered_from (is_down w.legs h.slot.line) w.holding.next (in_state active h.leg) in
      let caller : Leg = answered_from (is_down w.legs y.line) w.holding.next (in_state active other) in
      progress_records (on_connect w.legs h) c
      (subst (λ (a : Making). records w a.world 0 ≡ []) (sym (making_connected s.dimensions w h k))
      (records_caller_too s.dimensions.external w (connected s.dimensions w h k).world h.slot y h.leg other 0 stand.count within at c.3.2.is_called
      (Some called) caller c.2 (apart_from c) (active_calls w.holding.next (is_down w.legs y.line) other c.3.2.calls) refl))
  act_records act.Digits asks = records_digits_end_none s w h m planned stands within at (eqb-true h.leg.state overlap_sending asks)
  act_records (act.Disconnect cause) asks =
      clearing_records s.dimensions s.tones w h.slot h.leg (Some (begun w (in_release_request h.leg))) cause stand within at (inr refl) (making_after_all s.dimensions (making_at w) (on_disconnect h)) refl
  act_records (act.Release cause) asks =
      clearing_records s.dimensions s.tones w h.slot h.leg None cause stand within at (inl refl) (making_after_all s.dimensions (making_at w) (on_release h)) refl
  act_records (act.ReleaseComplete cause) asks =
      clearing_records s.dimensions s.tones w h.slot h.leg None cause stand within at (inl refl) (making_after_all s.dimensions (making_at w) (remove_leg Idle h)) refl
  act_records (act.Report reported) asks = report_records reported h.leg.enquired (reported == active)

  given_records : (a : Act) → Asked h.leg.state a → records_by w (making_by s w (course_of s w h m a)).world (course_of s w h m a).cause ≡ records_of_act w h a
  given_records act.Nothing asks = refl
  given_records act.Unexpected asks = refl
  given_records act.Enquiry asks = refl
  given_records act.Proceeding asks = refl
  given_records act.Alerting asks = refl
  given_records act.Answer asks = refl
  given_records act.Digits asks = refl
  given_records (act.Disconnect cause) asks = act_records (act.Disconnect cause) asks
  given_records (act.Release cause) asks = act_records (act.Release cause) asks
  given_records (act.ReleaseComplete cause) asks = act_records (act.ReleaseComplete cause) asks
  given_records (act.Report reported) asks = given_report_records reported h.leg.enquired (reported == active)

  asked_by : Asked h.leg.state (act_of h.leg.state m.kind (clearing_cause m.elements) (call_state_in m.elements))
  asked_by = Asked-act_of h.leg.state m.kind (clearing_cause m.elements) (call_state_in m.elements) (cause_fits m.elements)

-- what a message to a leg ends is what its act ends
module _ (s : Setting) (w : World) (h : HeldLeg) (m : Message) (planned : IsPlanned s) (stands : CallsStand s w)
    (within : IsExternal s.dimensions.external h.slot) (at : leg_at w.legs h.slot ≡ Some h.leg) where
  abbrev asked_act : Act
  asked_act = act_on h.leg.state m

  pub leg_records : records_by w (making_by s w (course_of s w h m asked_act)).world (course_of s w h m asked_act).cause ≡ records_of_act w h asked_act
  leg_records = given_records s w h m planned stands within at asked_act (asked_by s w h m planned stands within at)

  -- and no other call ends by it
  pub records_leg_ends : records w (making_by s w (course_of s w h m asked_act)).world (told_cause h.leg asked_act) ≡ records_of_act w h asked_act
  records_leg_ends = act_records s w h m planned stands within at asked_act (asked_by s w h m planned stands within at)
