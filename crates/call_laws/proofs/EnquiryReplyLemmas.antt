-- The reply of a user to an enquiry: the call goes on, or both its legs are cleared.
use Rattle.std.proofs.Common.{◌≡◌, ◌≢◌, ℕ, ◌<◌, inl, inr, Bool, true, false, List, [], ◌∷◌, ◌++◌, Option, Some, None, refl, sym, ◌∙◌, ap, subst, append-nil, arith, filter, if◌then◌else◌, eqb-true}
use Rattle.std.specs.Prelude.{◌==◌, not}
use Rattle.std.specs.List.{cons_option}
use Rattle.std.proofs.lemmas.Grind.{common_steps}
use Rattle.circuit_model.specs.declared.channel.Slot.{Slot}
use Rattle.circuit_model.specs.declared.circuit.Circuit.{Circuit}
use Rattle.circuit_model.specs.declared.circuit.Circuit.TheVariants.{Tone}
use Rattle.circuit_model.specs.declared.circuit.Kind.{Kind}
use Rattle.circuit_model.specs.Circuits.{names}
use Rattle.circuit_model.specs.Extent.{IsExternal}
use Rattle.circuit_model.specs.Holding.{Holding, Clear as Clear_slot, after, circuits_naming}
use Rattle.circuit_model.proofs.Slots.{filter_filter, naming-idle, same_slot-false, same_slot-refl, true_or_false}
use Rattle.q931_codec.specs.CallStates.{active, null}
use Rattle.q931_codec.specs.Causes.{message_not_compatible_with_call_state}
use Rattle.q931_codec.specs.Contents.{call_state_in}
use Rattle.q931_codec.specs.declared.message.Message.{Message}
use Rattle.call_states.specs.Acts.{act_on, act_of_status, is_among}
use Rattle.call_states.specs.declared.act.Act.{Act}
use Rattle.call_states.specs.declared.act.Act.TheVariants as act
use Rattle.call_states.specs.declared.leg.HeldLeg.{HeldLeg}
use Rattle.call_states.specs.declared.leg.Leg.{Leg}
use Rattle.call_states.specs.declared.leg.Peer.{Peer}
use Rattle.call_states.specs.declared.leg.Peer.TheVariants as peer
use Rattle.call_states.specs.declared.leg.Side.{Side}
use Rattle.call_states.specs.declared.leg.Side.TheVariants.{Caller, Called}
use Rattle.exchange_events.specs.declared.record.CallRecord.{CallRecord}
use Rattle.exchange_events.specs.Sizes.{Setting, Dimensions}
use Rattle.call_profile.specs.ActCourse.{course_of, course_of_report}
use Rattle.call_profile.specs.Acts.{clear_with, in_disconnect_indication, peer_of, tone_of, with_peer}
use Rattle.call_profile.specs.Calls.{outcome_by, outcome_for, outcome_of_octets}
use Rattle.call_profile.specs.Course.{only, nothing}
use Rattle.call_profile.specs.EndedCalls.{record_ended}
use Rattle.call_laws.specs.EnquiryReplies.{HasOnlyTone, IsStatus, IsReply, IsClearedByReply, cleared_as_differing, confirmed, differing_signal, peer_signals, tone_circuits, unchanged}
use Rattle.call_profile.specs.LegStanding.{HasPeer, IsInCall, LegsStand, alone}
use Rattle.call_profile.specs.Legs.{waiting_from, leg_at, with_entry}
use Rattle.call_profile.specs.Operations.{Making, making_at, making_after_all, with_tone}
use Rattle.call_profile.specs.Restarts.{MessageOutcome}
use Rattle.call_profile.specs.World.{World}
use Rattle.call_profile.proofs.BesideLemmas.{leg_at-with_entry_here, leg_at-with_entry_else}
use Rattle.call_profile.proofs.ClearingLemmas.{held_there, peers_apart}
use Rattle.call_profile.proofs.LegTableLemmas.{leg_at_both_else, leg_at_both_first, leg_at_both_second}
use Rattle.call_laws.proofs.LostRecordLemmas.{calling_active, calling_is, ended_caller, ended_called}
use Rattle.call_profile.proofs.NamedLegLemmas.{received_stands}
use Rattle.call_laws.proofs.RecordedCallLemmas.{calling_record}
use Rattle.call_profile.proofs.RecordOfActLemmas.{cleared_records, disconnected_silent}
use Rattle.call_profile.proofs.ReportLemmas.{state_agrees, state_differs}
use Rattle.call_profile.proofs.ToneLemmas.{cleared_is_idle, with_tone_sounding_next}
use Rattle.call_laws.proofs.DroppedLineLemmas.{call_active}

-- ---- the circuits of slots that are cleared, and get a tone

naming_added : (x : Slot) (circuits : List Circuit) (c : Circuit) (b : Bool) → names x c ≡ b → circuits_naming (circuits ++ c ∷ []) x ≡ circuits_naming circuits x ++ (if b then c ∷ [] else [])
naming_added x [] c b is = rw is refl
naming_added x (a ∷ rest) c b is = elim (true_or_false (names x a)) [
  | inl named ↦ rw named (ap (λ (l : List Circuit). a ∷ l) (naming_added x rest c b is))
  | inr other ↦ rw other (naming_added x rest c b is)
]

tone_only : (h : Holding) (x : Slot) (o : Option Kind) → circuits_naming (with_tone (after h (Clear_slot x)) x o).circuits x ≡ tone_circuits h.next x o
tone_only h x None = naming-idle (after h (Clear_slot x)).circuits x (cleared_is_idle h x)
tone_only h x (Some kind) =
    naming_added x (after h (Clear_slot x)).circuits (Tone kind x h.next) true (same_slot-refl x)
    ∙ ap (λ (l : List Circuit). l ++ Tone kind x h.next ∷ []) (naming-idle (after h (Clear_slot x)).circuits x (cleared_is_idle h x))

-- another slot
module _ (h : Holding) (x y : Slot) (apart : x ≡ y → ⊥) where
  without_other : (next : ℕ) (o : Option Kind) → filter (λ c. not (names y c)) (tone_circuits next x o) ≡ tone_circuits next x o
  without_other next None = refl
  without_other next (Some kind) = let other = same_slot-false y x (λ same. apart (sym same)) in rw other refl

  naming_apart : (o : Option Kind) → circuits_naming (with_tone (after h (Clear_slot y)) y o).circuits x ≡ filter (λ c. not (names y c)) (circuits_naming h.circuits x)
  naming_apart None = filter_filter (names x) (λ c. not (names y c)) h.circuits
  naming_apart (Some kind) =
      naming_added x (after h (Clear_slot y)).circuits (Tone kind y h.next) false (same_slot-false x y apart)
      ∙ append-nil (circuits_naming (after h (Clear_slot y)).circuits x)
      ∙ filter_filter (names x) (λ c. not (names y c)) h.circuits

  tone_still : (next : ℕ) (o p : Option Kind) → circuits_naming h.circuits x ≡ tone_circuits next x p → circuits_naming (with_tone (after h (Clear_slot y)) y o).circuits x ≡ tone_circuits next x p
  tone_still next o p is = naming_apart o ∙ ap (filter (λ c. not (names y c))) is ∙ without_other next p

-- ---- the act

not_equal : (n k : ℕ) → n ≢ k → (n == k) ≡ false
not_equal n k apart = grind (arith, common_steps, apart)

-- a STATUS that reports a state, in active or not
reported_act : (state : ℕ) (o : Option ℕ) → o ≢ Some null → (state ≡ active → ⊥) → act_of_status state o ≡ act.Nothing
reported_act state None apart quiet = refl
reported_act state (Some reported) apart quiet =
    let some = not_equal reported null (λ same. apart (ap (λ (n : ℕ). Some n) same)) in
    let other = not_equal state active quiet in
    rw (some, other) refl

module _ (s : Setting) (w : World) (line : ℕ) (octets : List ℕ) (h : HeldLeg) (m : Message) (is : IsStatus s w line octets h m) where
  within : IsExternal s.dimensions.external h.slot
  within = let named = received_stands w.legs line octets h m is.received in (subst (λ n. n < s.dimensions.external) (sym named.among.0) is.line_exists, named.among.1)

  at : leg_at w.legs h.slot ≡ Some h.leg
  at = (received_stands w.legs line octets h m is.received).at

  outcome_is : outcome_of_octets s w line octets ≡ outcome_by s w (course_of s w h m (act_on h.leg.state m))
  outcome_is = ap (outcome_for s w line) is.received

  status_act : act_on h.leg.state m ≡ act_of_status h.leg.state (call_state_in m.elements)
  status_act = rw (is.status, (is.stands.legs.each h.slot h.leg within at).state) refl

  -- a leg in another state than active
  pub quiet_unchanged : (h.leg.state ≡ active → ⊥) → outcome_of_octets s w line octets ≡ unchanged w
  quiet_unchanged quiet = outcome_is ∙ ap (λ (a : Act). outcome_by s w (course_of s w h m a)) (status_act ∙ reported_act h.leg.state (call_state_in m.elements) is.not_null quiet)

  -- a leg in active
  module _ (up : h.leg.state ≡ active) where
    report_by : (o : Option ℕ) → o ≢ Some null → (reported : ℕ) → o ≡ Some reported → act_of_status h.leg.state o ≡ act.Report reported
    report_by None apart reported same = absurd cc
    report_by (Some n) apart reported same =
        let some = not_equal n null (λ null_is. apart (ap (λ (k : ℕ). Some k) null_is)) in
        let equal : n ≡ reported = cc in
        rw (some, up) (ap (λ (k : ℕ). let a : Act = act.Report k in a) equal)

    none_by : (o : Option ℕ) → o ≡ None → act_of_status h.leg.state o ≡ act.Nothing
    none_by None same = refl
    none_by (Some n) same = absurd cc

    course_reported : (reported : ℕ) → call_state_in m.elements ≡ Some reported → outcome_of_octets s w line octets ≡ outcome_by s w (if h.leg.enquired then course_of_report s w h reported else nothing)
    course_reported reported reports =
        outcome_is ∙ ap (λ (a : Act). outcome_by s w (course_of s w h m a)) (status_act ∙ report_by (call_state_in m.elements) is.not_null reported reports)

    unasked_by : h.leg.enquired ≡ false → (o : Option ℕ) → call_state_in m.elements ≡ o → outcome_of_octets s w line octets ≡ unchanged w
    unasked_by never None none = outcome_is ∙ ap (λ (a : Act). outcome_by s w (course_of s w h m a)) (status_act ∙ none_by (call_state_in m.elements) none)
    unasked_by never (Some reported) reports =
        course_reported reported reports ∙ ap (λ (b : Bool). outcome_by s w (if b then course_of_report s w h reported else nothing)) never

  pub unasked_unchanged : (h.leg.state ≡ active → h.leg.enquired ≡ false) → outcome_of_octets s w line octets ≡ unchanged w
  unasked_unchanged never = elim (true_or_false (h.leg.state == active)) [
    | inl same ↦ let up : h.leg.state ≡ active = eqb-true h.leg.state active same in unasked_by up (never up) (call_state_in m.elements) refl
    | inr apart ↦ quiet_unchanged (λ up. grind (arith, common_steps, apart, up))
  ]

-- ---- the reply

module _ (s : Setting) (w : World) (line : ℕ) (octets : List ℕ) (h : HeldLeg) (m : Message) (reported : ℕ) (is : IsReply s w line octets h m reported) where
  abbrev d : Dimensions
  d = s.dimensions

  in_h : IsExternal d.external h.slot
  in_h = within s w line octets h m is.is_status

  at_h : leg_at w.legs h.slot ≡ Some h.leg
  at_h = at s w line octets h m is.is_status

  abbrev stand : LegsStand d.external s.tones w
  stand = is.is_status.stands.legs

  asked_outcome : outcome_of_octets s w line octets ≡ outcome_by s w (course_of_report s w h reported)
  asked_outcome =
      course_reported s w line octets h m is.is_status is.in_active reported is.reports
      ∙ ap (λ (b : Bool). outcome_by s w (if b then course_of_report s w h reported else nothing)) is.asked

  abbrev by_state : Bool → MessageOutcome
  by_state same = outcome_by s w (if same then only (state_agrees h) else record { operations = state_differs s w h; cause = Some message_not_compatible_with_call_state })

  pub confirms : reported ≡ active → outcome_of_octets s w line octets ≡ confirmed w h
  confirms same = let agrees : (reported == active) ≡ true = rw same refl in asked_outcome ∙ ap by_state agrees

  -- ---- another state

  abbrev cause : ℕ
  cause = message_not_compatible_with_call_state

  differing : reported ≢ active → outcome_of_octets s w line octets ≡ by_state false
  differing apart = asked_outcome ∙ ap by_state (not_equal reported active apart)

  abbrev cleared_one : Making
  cleared_one = making_after_all d (making_at w) (clear_with s.tones cause h)

  next_same : cleared_one.world.holding.next ≡ w.holding.next
  next_same = with_tone_sounding_next (after w.holding (Clear_slot h.slot)) h.slot (tone_of s.tones (in_disconnect_indication cause h.leg))

  abbrev own_entry : Option Leg
  own_entry = Some (cleared_as_differing w h.leg)

  abbrev making_for : Peer → Making
  making_for p = making_after_all d (making_at w) (clear_with s.tones cause h ++ with_peer (peer_of w.legs p) (clear_with s.tones cause))

  record LegFacts (p : Peer) (v : World) : Type 0 where
    own : leg_at v.legs h.slot ≡ own_entry
    other : (y : Slot) (leg : Leg) → p ≡ peer.Leg y → leg_at w.legs y ≡ Some leg → leg_at v.legs y ≡ Some (cleared_as_differing w leg)
    others : (z : Slot) → IsExternal d.external z → z ≢ h.slot → p ≢ peer.Leg z → leg_at v.legs z ≡ leg_at w.legs z
    own_circuits : HasOnlyTone s.tones w v h.slot h.leg
    other_circuits : (y : Slot) (leg : Leg) → p ≡ peer.Leg y → leg_at w.legs y ≡ Some leg → HasOnlyTone s.tones w v y leg

  own_tone : HasOnlyTone s.tones w cleared_one.world h.slot h.leg
  own_tone = tone_only w.holding h.slot (tone_of s.tones (in_disconnect_indication cause h.leg))

  alone_facts : (p : Peer) → ((y : Slot) → p ≡ peer.Leg y → ⊥) → LegFacts p cleared_one.world
  alone_facts p alone = record {
    own = leg_at-with_entry_here d.external w.legs h.slot own_entry stand.count in_h;
    other = λ y leg is_y at_y. absurd (alone y is_y);
    others = λ z in_z apart not_peer. leg_at-with_entry_else d.external w.legs h.slot z own_entry in_h in_z apart;
    own_circuits = own_tone;
    other_circuits = λ y leg is_y at_y. absurd (alone y is_y);
  }

  both_facts : (y : Slot) (k : Leg) → IsExternal d.external y → leg_at w.legs y ≡ Some k → (y ≡ h.slot → ⊥)
      → LegFacts (peer.Leg y) (making_after_all d cleared_one (clear_with s.tones cause (record { slot = y; leg = k }))).world
  both_facts y k in_y at_y apart =
      let now : Leg = waiting_from cleared_one.world.holding.next (in_disconnect_indication cause k) in
      let same : now ≡ cleared_as_differing w k = ap (λ (n : ℕ). waiting_from n (in_disconnect_indication cause k)) next_same in
      record {
        own = leg_at_both_first d.external w.legs h.slot y own_entry (Some now) stand.count in_h in_y apart;
        other = λ z leg is_z at_z.
            let is_y : y ≡ z = cc in
            let e : Some k ≡ Some leg = sym at_y ∙ ap (leg_at w.legs) is_y ∙ at_z in
            let leg_is : k ≡ leg = cc in
            ap (leg_at (with_entry (with_entry w.legs h.slot own_entry) y (Some now))) (sym is_y)
            ∙ leg_at_both_second d.external w.legs h.slot y own_entry (Some now) stand.count in_h in_y apart
            ∙ ap (λ (l : Leg). Some l) (same ∙ ap (cleared_as_differing w) leg_is);
        others = λ z in_z not_h not_peer. leg_at_both_else d.external w.legs h.slot y own_entry (Some now) stand.count in_h in_y apart z in_z not_h (λ is_y. not_peer (ap (λ (q : Slot). let p : Peer = peer.Leg q in p) (sym is_y)));
        own_circuits =
            tone_still cleared_one.world.holding h.slot y (λ same. apart (sym same)) w.holding.next (tone_of s.tones (in_disconnect_indication cause k))
            (tone_of s.tones (in_disconnect_indication cause h.leg)) own_tone;
        other_circuits = λ z leg is_z at_z.
            let is_y : y ≡ z = cc in
            let e : Some k ≡ Some leg = sym at_y ∙ ap (leg_at w.legs) is_y ∙ at_z in
            let leg_is : k ≡ leg = cc in
            subst (λ (q : Slot). HasOnlyTone s.tones w (making_after_all d cleared_one (clear_with s.tones cause (record { slot = y; leg = k }))).world q leg) is_y
            (subst (λ (l : Leg). HasOnlyTone s.tones w (making_after_all d cleared_one (clear_with s.tones cause (record { slot = y; leg = k }))).world y l) leg_is
            (tone_only cleared_one.world.holding y (tone_of s.tones (in_disconnect_indication cause k))
            ∙ ap (λ (n : ℕ). tone_circuits n y (tone_of s.tones (in_disconnect_indication cause k))) next_same));
      }

  facts_by : (p : Peer) → HasPeer d.external w.legs h.slot h.leg p → LegFacts p (making_for p).world
  facts_by peer.Alone has = alone_facts peer.Alone (λ y same. cc)
  facts_by (peer.Leg y) has =
      rw (held_there w.legs y has.1.0 has.1.1) (both_facts y has.1.0 has.0 has.1.1 (peers_apart w.legs h.slot y h.leg has.1.0 at_h has.1.1 has.1.2))
  facts_by (peer.Room room) has = alone_facts (peer.Room room) (λ y same. cc)

  sent_by : (o : Option HeldLeg) → (making_after_all d (making_at w) (clear_with s.tones cause h ++ with_peer o (clear_with s.tones cause))).sends ≡ differing_signal s.tones h ∷ peer_signals s.tones o
  sent_by None = refl
  sent_by (Some k) = refl

  -- ---- the record

  abbrev HasRecord : Type 0
  HasRecord = (told : CallRecord) × (record_ended w h cause ≡ Some told)

  has_peer : HasPeer d.external w.legs h.slot h.leg h.leg.peer
  has_peer = (stand.each h.slot h.leg in_h at_h).peer

  caller_recorded : h.leg.side ≡ Caller → HasRecord
  caller_recorded side =
      let calls = calling_active h.leg side is.in_active in
      let found = calling_record d.external w cause h has_peer calls in
      (found.0, ended_caller w cause h (peer_of w.legs h.leg.peer) h.leg.side side ∙ calling_is w cause h calls ∙ found.1)

  alone_never : (state : ℕ) → state ≡ active → is_among alone state ≡ true → ⊥
  alone_never state up among = grind (arith, common_steps, up, among)

  called_recorded : h.leg.side ≡ Called → (p : Peer) → h.leg.peer ≡ p → HasPeer d.external w.legs h.slot h.leg p → HasRecord
  called_recorded side peer.Alone named has = absurd (alone_never h.leg.state is.in_active has)
  called_recorded side (peer.Leg y) named has =
      let other = has.1.0 in
      let k : HeldLeg = record { slot = y; leg = other } in
      let call : IsInCall Called h.slot h.leg y other = subst (λ (one : Side). IsInCall one h.slot h.leg y other) side has.1.2 in
      let calls = calling_active other call.calls ((call_active Called h.slot y h.leg other call).0 is.in_active) in
      let found = calling_record d.external w cause k (stand.each y other has.0 has.1.1).peer calls in
      (found.0, ended_called w cause h k (peer_of w.legs h.leg.peer) h.leg.side side (ap (peer_of w.legs) named ∙ held_there w.legs y other has.1.1) ∙ calling_is w cause k calls ∙ found.1)
  called_recorded side (peer.Room room) named has = let wrong : Called ≡ Caller = sym side ∙ has.0 in absurd cc

  recorded_by : (side : Side) → h.leg.side ≡ side → HasRecord
  recorded_by Caller side = caller_recorded side
  recorded_by Called side = called_recorded side h.leg.peer refl has_peer

  pub clears : reported ≢ active → IsClearedByReply s w h (outcome_of_octets s w line octets)
  clears apart =
      let facts = facts_by h.leg.peer has_peer in
      let told = recorded_by h.leg.side refl in
      subst (IsClearedByReply s w h) (sym (differing apart)) (record {
        own = facts.own;
        other = facts.other;
        others = facts.others;
        own_circuits = facts.own_circuits;
        other_circuits = facts.other_circuits;
        sent = sent_by (peer_of w.legs h.leg.peer);
        told = told.0;
        told_is = told.1;
        recorded =
            cleared_records d s.tones w h.slot h.leg own_entry cause stand in_h at_h (disconnected_silent w.holding.next cause h.leg) cleared_one refl
            ∙ ap (λ (o : Option CallRecord). cons_option o []) told.1;
      })
