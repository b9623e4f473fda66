-- What a change of a data link does, slot by slot, keeps the legs consistent, is permitted, and is recorded.
use Rattle.std.proofs.Common.{◌≡◌, ◌≢◌, ℕ, inl, inr, Bool, true, false, List, [], ◌∷◌, length, Option, Some, None, refl, sym, ◌∙◌, ap, subst, arith, eqb-true, if◌then◌else◌}
use lib.Seq.{set-get_or}
use Rattle.std.proofs.lemmas.Grind.{common_steps}
use Rattle.std.specs.Prelude.{◌==◌, option_map, option_and_then, slice_set}
use Rattle.std.specs.List.{cons_option}
use Rattle.circuit_model.specs.declared.channel.Slot.{Slot}
use Rattle.circuit_model.specs.Circuits.{heard_by}
use Rattle.circuit_model.specs.Extent.{IsExternal}
use Rattle.circuit_model.specs.Holding.{Holding, Valid}
use Rattle.circuit_model.proofs.Slots.{true_or_false}
use Rattle.clearing_rules.specs.declared.scope.Restart.TheVariants.{Channel}
use Rattle.control_memory.specs.Layout.{number_of}
use Rattle.q931_codec.specs.declared.kind.MessageKind.TheVariants as kind
use Rattle.q931_codec.specs.CallStates.{overlap_sending, active, release_request}
use Rattle.q931_codec.specs.Causes.{destination_out_of_order, temporary_failure}
use Rattle.call_states.specs.declared.condition.Condition.TheVariants.{Owed, Unconfirmed}
use Rattle.call_states.specs.Acts.{is_among}
use Rattle.call_states.specs.Status.{FitsMessages}
use Rattle.call_states.specs.declared.leg.HeldLeg.{HeldLeg}
use Rattle.call_states.specs.declared.leg.Leg.{Leg}
use Rattle.call_states.specs.declared.leg.Peer.{Peer}
use Rattle.call_states.specs.declared.leg.Peer.TheVariants as peer
use Rattle.call_states.specs.declared.leg.Side.{Side}
use Rattle.call_states.specs.declared.leg.Side.TheVariants.{Caller, Called}
use Rattle.exchange_events.specs.declared.record.CallRecord.{CallRecord}
use Rattle.exchange_events.specs.Sizes.{Dimensions}
use Rattle.number_plan.specs.declared.plan.Number.{Number}
use Rattle.tone_rules.specs.declared.tones.Tones.{Tones}
use Rattle.call_profile.specs.Acts.{clear_with, in_disconnect_indication, peer_of, with_enquiry}
use Rattle.call_profile.specs.CallRecords.{before_clearing, is_calling, records}
use Rattle.call_profile.specs.EndedCalls.{caller_in, dropped_record, dropped_records, record_calling, record_ended}
use Rattle.call_profile.specs.Expiring.{send_again}
use Rattle.call_profile.specs.KeptMessages.{awaiting_answer}
use Rattle.call_profile.specs.Legs.{Legs, awaits_restart, kept_at, leg_at, retransmitted_from, waiting_from}
use Rattle.call_profile.specs.LegStanding.{HasPeer, LegStands, MayHear, alone}
use Rattle.call_profile.specs.LinkChanges.{being_cleared, whole_line, drop_leg, drop_slot, enquire, restart_channel, resume_held, resume_leg, resume_slot, rule_of, with_line}
use Rattle.call_profile.specs.Operations.{Operation, Making, Await, Remove, begun, making_after, making_after_all, with_legs}
use Rattle.call_profile.specs.Restarts.{restart_leg}
use Rattle.call_profile.specs.Peers.{IsThere}
use Rattle.call_profile.specs.World.{World}
use Rattle.call_profile.proofs.BesideLemmas.{look}
use Rattle.call_profile.proofs.ClearingLemmas.{Kept}
use Rattle.call_profile.proofs.DigitsLemmas.{cleared_kept}
use Rattle.call_profile.proofs.ExpiredLegLemmas.{waits_enquired}
use Rattle.call_profile.proofs.ExpiredRecordLemmas.{records_quiet, is_calling_never, no_caller}
use Rattle.call_profile.proofs.ExpiringLemmas.{again_fine, again_may}
use Rattle.call_profile.proofs.ExpiryStateLemmas.{is_alone}
use Rattle.call_profile.proofs.Permitted.{ArePermitted}
use Rattle.call_profile.proofs.PermittedActLemmas.{clear_permitted, is_there, message_writable}
use Rattle.call_profile.proofs.RefusalLemmas.{no_records}
use Rattle.call_profile.proofs.RestartLemmas.{leg_kept, leg_permitted, records_leg_told, restart_writable}

-- ---- consistency depends on the legs that hold slots, and on the circuits

module _ (d : Dimensions) (tones : Tones) (w v : World) (held : v.legs.held ≡ w.legs.held) (holding : v.holding ≡ w.holding) where
  peer_too : (x : Slot) (leg : Leg) (p : Peer) → HasPeer d.external w.legs x leg p → HasPeer d.external v.legs x leg p
  peer_too x leg peer.Alone has = has
  peer_too x leg (peer.Leg y) has = (has.0, (has.1.0, ap (look y) held ∙ has.1.1, has.1.2))
  peer_too x leg (peer.Room room) has = has

  leg_too : (x : Slot) (leg : Leg) → LegStands d.external tones w x leg → LegStands d.external tones v x leg
  leg_too x leg stands = record {
    state = stands.state;
    reference = stands.reference;
    cause = stands.cause;
    peer = peer_too x leg leg.peer stands.peer;
    hears = subst (λ (h : Holding). MayHear tones leg (heard_by h.circuits x)) (sym holding) stands.hears;
  }

  pub alike_kept : Kept d tones w → Kept d tones v
  alike_kept kept = (
    subst (Valid d.bridges) (sym holding) kept.0,
    record {
      count = ap length held ∙ kept.1.count;
      each = λ x leg in_x at. leg_too x leg (kept.1.each x leg in_x (sym (ap (look x) held) ∙ at));
      one = λ x y a b in_x in_y at_x at_y. kept.1.one x y a b in_x in_y (sym (ap (look x) held) ∙ at_x) (sym (ap (look y) held) ∙ at_y);
    },
  )

-- a line's link is another
pub linked_kept : (d : Dimensions) (tones : Tones) (w : World) (line : ℕ) (down : Bool) → Kept d tones w → Kept d tones (with_line w line down)
linked_kept d tones w line down = alike_kept d tones w (with_line w line down) refl refl

-- ---- a leg

-- the states of a leg that is being cleared
module _ (state : ℕ) (clears : is_among being_cleared state ≡ true) where
  pub cleared_alone : is_among alone state ≡ true
  cleared_alone = grind (arith, common_steps, clears)

  pub cleared_over : is_among before_clearing state ≡ false
  cleared_over = grind (arith, common_steps, clears)

module _ (d : Dimensions) (tones : Tones) (m : Making) (x : Slot) (leg : Leg) (kept : Kept d tones m.world) (within : IsExternal d.external x) (at : leg_at m.world.legs x ≡ Some leg) where
  abbrev h : HeldLeg
  h = record { slot = x; leg = leg }

  abbrev w : World
  w = m.world

  there : IsThere d.external h
  there = is_there d.external tones w h kept.1 within at

  -- the cases of a leg whose link is down, and of one whose link is up
  module _ (P : List Operation → Type 0) where
    pub by_drop : (leg.state ≡ active → P (if leg.resent then [] else Await x (with_enquiry false leg) ∷ []))
        → (is_among being_cleared leg.state ≡ true → P [])
        → (is_among being_cleared leg.state ≡ false → P (restart_leg tones destination_out_of_order Owed whole_line w.legs (Some h)))
        → P (drop_leg tones w.legs (Some h))
    by_drop talks clears goes = elim (true_or_false (leg.state == active)) [
      | inl up ↦ rw up (talks (eqb-true leg.state active up))
      | inr not_up ↦ elim (true_or_false (is_among being_cleared leg.state)) [
        | inl among ↦ rw (not_up, among) (clears among)
        | inr other ↦ rw (not_up, other) (goes other)
      ]
    ]

    pub by_resume : (leg.state ≡ active → P (enquire h)) → (leg.state ≡ overlap_sending → P (clear_with tones temporary_failure h))
        → (leg.state ≡ release_request → P (send_again h (kept_at w.legs x))) → P [] → P (resume_leg tones w.legs h)
    by_resume talks dials clears goes = elim (true_or_false (leg.state == active)) [
      | inl up ↦ rw up (talks (eqb-true leg.state active up))
      | inr not_up ↦ elim (true_or_false (leg.state == overlap_sending)) [
        | inl is ↦ rw (not_up, is) (dials (eqb-true leg.state overlap_sending is))
        | inr other ↦ elim (true_or_false (leg.state == release_request)) [
          | inl asked ↦ rw (not_up, other, asked) (clears (eqb-true leg.state release_request asked))
          | inr quiet ↦ rw (not_up, other, quiet) goes
        ]
      ]
    ]

  abbrev Fine : List Operation → Type 0
  Fine os = Kept d tones (making_after_all d m os).world

  started_fine : (runs : Bool) → Fine (if runs then [] else Await x (with_enquiry false leg) ∷ [])
  started_fine true = kept
  started_fine false = (kept.0, waits_enquired d.external tones w (making_after_all d m (Await x (with_enquiry false leg) ∷ [])).world x leg w.holding.next true false kept.1 within at refl refl)

  pub drop_fine : Fine (drop_leg tones w.legs (Some h))
  drop_fine = by_drop Fine (λ talks. started_fine leg.resent) (λ clears. kept) (λ goes. leg_kept d tones whole_line destination_out_of_order Owed (omega arith) m x leg kept within at)

  enquired_fine : Fine (enquire h)
  enquired_fine = (kept.0, waits_enquired d.external tones w (making_after_all d m (enquire h)).world x leg w.holding.next false true kept.1 within at refl refl)

  digits_fine : leg.state ≡ overlap_sending → Fine (clear_with tones temporary_failure h)
  digits_fine is = cleared_kept d tones w h temporary_failure (omega arith) kept.0 kept.1 within at (is_alone d.external w.legs x leg leg.peer (rw is refl) (kept.1.each x leg within at).peer)

  pub resume_fine : Fine (resume_leg tones w.legs h)
  resume_fine = by_resume Fine (λ talks. enquired_fine) digits_fine (λ clears. again_fine d tones m x leg kept within at (kept_at w.legs x)) kept

  -- ---- permitted

  module _ (plan : List Number) where
    abbrev May : List Operation → Type 0
    May os = ArePermitted d tones plan m os

    told_too : (asked : Bool) → FitsMessages (with_enquiry asked leg)
    told_too asked = record { state = there.told.state; reference = there.told.reference }

    stays_put : (asked : Bool) → leg.state ≡ active → IsExternal d.external x × FitsMessages (with_enquiry asked leg) × (leg.state ≢ overlap_sending) × (is_among awaiting_answer leg.state ≡ false)
    stays_put asked is = (within, told_too asked, (λ dials. let wrong = sym is ∙ dials in absurd cc), rw is refl)

    pub started_may : leg.state ≡ active → (runs : Bool) → May (if runs then [] else Await x (with_enquiry false leg) ∷ [])
    started_may is true = tt
    started_may is false = (stays_put false is, tt)

    pub drop_may : May (drop_leg tones w.legs (Some h))
    drop_may = by_drop May (λ talks. started_may talks leg.resent) (λ clears. tt) (λ goes. leg_permitted d tones whole_line destination_out_of_order Owed (omega arith) m x leg kept within at plan)

    pub enquired_may : leg.state ≡ active → May (enquire h)
    enquired_may is = (stays_put true is, ((within.0, message_writable leg kind.StatusEnquiry there.told tt), tt))

    pub resent_may : May (send_again h (kept_at w.legs x))
    resent_may = again_may d tones m x leg kept within at plan (kept_at w.legs x) refl

    pub resume_may : May (resume_leg tones w.legs h)
    resume_may = by_resume May enquired_may (λ dials. clear_permitted d tones plan m temporary_failure h there (omega arith)) (λ clears. resent_may) tt

  -- ---- recorded

  abbrev Told : ℕ → List Operation → List CallRecord → Type 0
  Told cause os told = records w (making_after_all d m os).world cause ≡ told

  started_told : (runs : Bool) → Told destination_out_of_order (if runs then [] else Await x (with_enquiry false leg) ∷ []) []
  started_told true = no_records w destination_out_of_order
  started_told false = records_quiet d tones m x leg kept within at destination_out_of_order (making_after_all d m (Await x (with_enquiry false leg) ∷ [])).world
      (Some (retransmitted_from w.holding.next (with_enquiry false leg))) refl (λ calls. calls)

  -- a leg that is being cleared has no call
  none_ended : (side : Side) (p : Peer) → p ≡ peer.Alone → is_calling (Some leg) ≡ false → option_and_then (record_calling w destination_out_of_order) (caller_in side h (peer_of w.legs p)) ≡ None
  none_ended Caller p is never = rw never refl
  none_ended Called p is never = rw is refl

  cleared_told : is_among being_cleared leg.state ≡ true → record_ended w h destination_out_of_order ≡ None
  cleared_told clears = none_ended leg.side leg.peer
      (is_alone d.external w.legs x leg leg.peer (cleared_alone leg.state clears) (kept.1.each x leg within at).peer) (no_caller leg (cleared_over leg.state clears))

  pub drop_told : Told destination_out_of_order (drop_leg tones w.legs (Some h)) (cons_option (dropped_record w h) [])
  drop_told = elim (true_or_false (leg.state == active)) [
    | inl up ↦ rw up (started_told leg.resent)
    | inr not_up ↦ elim (true_or_false (is_among being_cleared leg.state)) [
      | inl clears ↦ rw (not_up, clears, cleared_told clears) (no_records w destination_out_of_order)
      | inr other ↦ rw (not_up, other) (records_leg_told d tones whole_line destination_out_of_order Owed (omega arith) m x leg kept within at)
    ]
  ]

  enquired_told : Told temporary_failure (enquire h) []
  enquired_told = records_quiet d tones m x leg kept within at temporary_failure (making_after_all d m (enquire h)).world (Some (waiting_from w.holding.next (with_enquiry true leg))) refl (λ calls. calls)

  digits_told : leg.state ≡ overlap_sending → Told temporary_failure (clear_with tones temporary_failure h) []
  digits_told is =
      let waits : Option Leg = Some (begun w (in_disconnect_indication temporary_failure leg)) in
      records_quiet d tones m x leg kept within at temporary_failure (making_after_all d m (clear_with tones temporary_failure h)).world waits refl (is_calling_never d tones m x leg kept within at waits (rw is refl))

  resent_told : (o : Option (List ℕ)) → Told temporary_failure (send_again h o) []
  resent_told None = no_records w temporary_failure
  resent_told (Some octets) =
      records_quiet d tones m x leg kept within at temporary_failure (making_after_all d m (send_again h (Some octets))).world (Some (retransmitted_from w.holding.next leg)) refl (λ calls. calls)

  pub resume_told : Told temporary_failure (resume_leg tones w.legs h) []
  resume_told = by_resume (λ os. Told temporary_failure os []) (λ talks. enquired_told) digits_told (λ clears. resent_told (kept_at w.legs x)) (no_records w temporary_failure)

-- ---- a slot that no leg holds

module _ (d : Dimensions) (tones : Tones) (m : Making) (x : Slot) (kept : Kept d tones m.world) (within : IsExternal d.external x) (none : leg_at m.world.legs x ≡ None) where
  abbrev emptied : World
  emptied = (making_after d m (Remove x Unconfirmed)).world

  pub held_same : emptied.legs.held ≡ m.world.legs.held
  held_same = ap (slice_set m.world.legs.held (number_of x)) (sym none) ∙ set-get_or m.world.legs.held (number_of x) None

  abbrev restarted : Bool → Bool → List Operation
  restarted awaited whole = if awaited then restart_channel whole x else []

  pub channel_fine : (awaited whole : Bool) → Kept d tones (making_after_all d m (restarted awaited whole)).world
  channel_fine true true = alike_kept d tones m.world emptied held_same refl kept
  channel_fine true false = alike_kept d tones m.world emptied held_same refl kept
  channel_fine false whole = kept

  pub channel_may : (plan : List Number) (awaited whole : Bool) → ArePermitted d tones plan m (restarted awaited whole)
  channel_may plan true true = (within, tt)
  channel_may plan true false = (within, ((within.0, restart_writable (Channel x.place) within.1), tt))
  channel_may plan false whole = tt

  pub channel_told : (awaited whole : Bool) → records m.world (making_after_all d m (restarted awaited whole)).world temporary_failure ≡ []
  channel_told true true = ap (λ held. records m.world (with_legs m.world (record m.world.legs { held = held })) temporary_failure) held_same ∙ no_records m.world temporary_failure
  channel_told true false = ap (λ held. records m.world (with_legs m.world (record m.world.legs { held = held })) temporary_failure) held_same ∙ no_records m.world temporary_failure
  channel_told false whole = no_records m.world temporary_failure

-- ---- a slot

-- what holds of the operations if no leg holds the slot, and of the operations of each leg that may hold it, holds of the operations at the slot
module _ (legs : Legs) (x : Slot) (does : Option HeldLeg → List Operation) (P : List Operation → Type 0) (none : leg_at legs x ≡ None → P (does None))
    (some : (leg : Leg) → leg_at legs x ≡ Some leg → P (does (Some (record { slot = x; leg = leg })))) where
  held_by : (o : Option Leg) → leg_at legs x ≡ o → P (does (option_map (λ (leg : Leg). let held : HeldLeg = record { slot = x; leg = leg } in held) o))
  held_by None at = none at
  held_by (Some leg) at = some leg at

  pub at_held : P (does (option_map (λ (leg : Leg). let held : HeldLeg = record { slot = x; leg = leg } in held) (leg_at legs x)))
  at_held = held_by (leg_at legs x) refl

module _ (d : Dimensions) (tones : Tones) (m : Making) (x : Slot) (kept : Kept d tones m.world) (within : IsExternal d.external x) where
  pub drop_slot_kept : Kept d tones (making_after_all d m (drop_slot tones m.world.legs x)).world
  drop_slot_kept = at_held m.world.legs x (drop_leg tones m.world.legs) (λ os. Kept d tones (making_after_all d m os).world) (λ none. kept) (λ leg at. drop_fine d tones m x leg kept within at)

  pub drop_slot_may : (plan : List Number) → ArePermitted d tones plan m (drop_slot tones m.world.legs x)
  drop_slot_may plan = at_held m.world.legs x (drop_leg tones m.world.legs) (ArePermitted d tones plan m) (λ none. tt) (λ leg at. drop_may d tones m x leg kept within at plan)

  pub resume_slot_kept : (whole : Bool) → Kept d tones (making_after_all d m (resume_slot tones whole m.world.legs x)).world
  resume_slot_kept whole = at_held m.world.legs x (resume_held tones whole m.world.legs x) (λ os. Kept d tones (making_after_all d m os).world)
      (λ none. channel_fine d tones m x kept within none (awaits_restart m.world.legs x) whole) (λ leg at. resume_fine d tones m x leg kept within at)

  pub resume_slot_may : (whole : Bool) (plan : List Number) → ArePermitted d tones plan m (resume_slot tones whole m.world.legs x)
  resume_slot_may whole plan = at_held m.world.legs x (resume_held tones whole m.world.legs x) (ArePermitted d tones plan m)
      (λ none. channel_may d tones m x kept within none plan (awaits_restart m.world.legs x) whole) (λ leg at. resume_may d tones m x leg kept within at plan)

  drop_told_by : (o : Option Leg) → leg_at m.world.legs x ≡ o
      → records m.world (making_after_all d m (drop_leg tones m.world.legs (option_map (λ (leg : Leg). let held : HeldLeg = record { slot = x; leg = leg } in held) o))).world destination_out_of_order
      ≡ cons_option (option_and_then (dropped_record m.world) (option_map (λ (leg : Leg). let held : HeldLeg = record { slot = x; leg = leg } in held) o)) []
  drop_told_by None at = no_records m.world destination_out_of_order
  drop_told_by (Some leg) at = drop_told d tones m x leg kept within at

  pub drop_slot_told : records m.world (making_after_all d m (drop_slot tones m.world.legs x)).world destination_out_of_order ≡ dropped_records m.world x
  drop_slot_told = drop_told_by (leg_at m.world.legs x) refl

  pub resume_slot_told : (whole : Bool) → records m.world (making_after_all d m (resume_slot tones whole m.world.legs x)).world temporary_failure ≡ []
  resume_slot_told whole = at_held m.world.legs x (resume_held tones whole m.world.legs x) (λ os. records m.world (making_after_all d m os).world temporary_failure ≡ [])
      (λ none. channel_told d tones m x kept within none (awaits_restart m.world.legs x) whole) (λ leg at. resume_told d tones m x leg kept within at)

  -- ---- either rule

  pub rule_kept : (whole down : Bool) → Kept d tones (making_after_all d m ((rule_of tones whole down).does m.world.legs x)).world
  rule_kept whole true = drop_slot_kept
  rule_kept whole false = resume_slot_kept whole

  pub rule_may : (whole down : Bool) (plan : List Number) → ArePermitted d tones plan m ((rule_of tones whole down).does m.world.legs x)
  rule_may whole true plan = drop_slot_may plan
  rule_may whole false plan = resume_slot_may whole plan
