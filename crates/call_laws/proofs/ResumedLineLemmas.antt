-- What the establishment of a data link leaves of the legs: slot by slot.
use Rattle.std.proofs.Common.{◌≡◌, ℕ, zero, suc, ◌<◌, ◌≤◌, ◌&&◌, Bool, true, false, inl, inr, List, [], Option, Some, None, refl, sym, ◌∙◌, ap, subst, arith, eqb-true, if◌then◌else◌}
use Rattle.std.specs.Prelude.{nat_lt, ◌==◌, option_map}
use Rattle.std.proofs.lemmas.Grind.{common_steps}
use Rattle.circuit_model.specs.declared.channel.Slot.{Slot}
use Rattle.circuit_model.specs.Extent.{IsExternal}
use Rattle.circuit_model.proofs.Slots.{true_or_false}
use Rattle.q931_codec.specs.CallStates.{active, overlap_sending, release_request}
use Rattle.q931_codec.specs.Causes.{temporary_failure}
use Rattle.call_states.specs.declared.leg.HeldLeg.{HeldLeg}
use Rattle.call_states.specs.declared.leg.Leg.{Leg}
use Rattle.tone_rules.specs.declared.tones.Tones.{Tones}
use Rattle.exchange_events.specs.Sizes.{Dimensions, Setting}
use Rattle.call_profile.specs.Acts.{in_disconnect_indication, tone_of, with_enquiry}
use Rattle.call_laws.specs.Dropped.{HasLine}
use Rattle.call_profile.specs.Expiring.{send_again}
use Rattle.call_profile.specs.KeptMessages.{IsKept, LegsWait}
use Rattle.call_profile.specs.LegStanding.{CallsStand}
use Rattle.call_profile.specs.Legs.{awaits_restart, leg_at, kept_at, retransmitted_from, with_entry}
use Rattle.call_profile.specs.LinkChanges.{resume_leg, resume_slot, rule_of, with_line, outcome_of_link, restart_channel, resume_held}
use Rattle.call_profile.specs.Operations.{Making, begun, making_after_all}
use Rattle.call_profile.specs.Restarts.{MessageOutcome, outcome_below, restarts_slot}
use Rattle.call_laws.specs.Resumed.{resumed, resumed_on, LegsAreResumed}
use Rattle.call_profile.specs.LinkChanges.{whole_line}
use Rattle.call_profile.specs.World.{World}
use Rattle.call_profile.proofs.BesideLemmas.{leg_at-with_entry_here, leg_at-with_entry_else, same_or_apart, look}
use Rattle.call_profile.proofs.ClearingLemmas.{Kept}
use Rattle.call_profile.proofs.KeptMessageLemmas.{stored_there}
use Rattle.call_profile.proofs.LinkLemmas.{linked_kept, resume_slot_kept, resume_slot_may, at_held, held_same}
use Rattle.call_profile.proofs.PendingNumberLemmas.{EntriesStand, flags_stand, performed_all}
use Rattle.call_laws.proofs.RestartedLineLemmas.{was_restarted, same_where_apart, lt_true, lt_false, none_before}
use Rattle.call_profile.proofs.RestartedSlotLemmas.{below_none, below_more, linked_by}
use Rattle.call_profile.proofs.ToneLemmas.{with_tone_sounding_next}
use Rattle.circuit_model.specs.Holding.{Clear as Clear_slot, after}

-- ---- what one slot does

record Resumes (external : ℕ) (u v : World) (x : Slot) : Type 0 where
  here : leg_at v.legs x ≡ option_map (resumed u) (leg_at u.legs x)
  same : (z : Slot) → IsExternal external z → (z ≡ x → ⊥) → leg_at v.legs z ≡ leg_at u.legs z
  next : v.holding.next ≡ u.holding.next

module _ (d : Dimensions) (tones : Tones) (m : Making) (x : Slot) (kept : Kept d tones m.world)
    (waits : LegsWait d.external m.world.holding.next m.world.legs) (in_x : IsExternal d.external x) where
  abbrev u : World
  u = m.world

  -- no leg holds the slot, and none holds it after its RESTART
  unheld_resumes : leg_at u.legs x ≡ None → (v : World) → v.legs.held ≡ u.legs.held → v.holding.next ≡ u.holding.next → Resumes d.external u v x
  unheld_resumes none v held next = record {
    here = ap (look x) held ∙ none ∙ ap (option_map (resumed u)) (sym none);
    same = λ z in_z apart. ap (look z) held;
    next = next;
  }

  none_resumes : leg_at u.legs x ≡ None → (awaits whole : Bool)
      → Resumes d.external u (making_after_all d m (if awaits then restart_channel whole x else [])).world x
  none_resumes none true true = unheld_resumes none _ (held_same d tones m x kept in_x none) refl
  none_resumes none true false = unheld_resumes none _ (held_same d tones m x kept in_x none) refl
  none_resumes none false whole = unheld_resumes none u refl refl

  -- the slot has another leg
  entered : (leg new : Leg) → leg_at u.legs x ≡ Some leg → resumed u leg ≡ new → (v : World)
      → ((z : Slot) → leg_at v.legs z ≡ leg_at (with_entry u.legs x (Some new)) z) → v.holding.next ≡ u.holding.next → Resumes d.external u v x
  entered leg new at is v legs next = record {
    here = legs x ∙ leg_at-with_entry_here d.external u.legs x (Some new) kept.1.count in_x ∙ ap (λ (l : Leg). Some l) (sym is)
        ∙ ap (option_map (resumed u)) (sym at);
    same = λ z in_z apart. legs z ∙ leg_at-with_entry_else d.external u.legs x z (Some new) in_x in_z apart;
    next = next;
  }

  module _ (leg : Leg) (at : leg_at u.legs x ≡ Some leg) where
    abbrev h : HeldLeg
    h = record { slot = x; leg = leg }

    -- the message that its user is sent again
    pub is_stored : leg.state ≡ release_request → (octets : List ℕ) × (kept_at u.legs x ≡ Some octets) × IsKept leg octets
    is_stored asked = stored_there d.external u.holding.next u.legs x leg waits in_x at (rw asked refl)

    again_resumes : leg.state ≡ release_request → Resumes d.external u (making_after_all d m (send_again h (kept_at u.legs x))).world x
    again_resumes asked = subst (λ (o : Option (List ℕ)). Resumes d.external u (making_after_all d m (send_again h o)).world x) (sym (is_stored asked).1)
        (entered leg (retransmitted_from u.holding.next leg) at (rw asked refl) _ (λ z. refl) refl)

    leg_resumes : Resumes d.external u (making_after_all d m (resume_leg tones u.legs h)).world x
    leg_resumes = elim (true_or_false (leg.state == active)) [
      | inl up ↦ rw up (entered leg (begun u (with_enquiry true leg)) at (rw up refl) _ (λ z. refl) refl)
      | inr not_up ↦ elim (true_or_false (leg.state == overlap_sending)) [
        | inl dials ↦ rw (not_up, dials) (entered leg (begun u (in_disconnect_indication temporary_failure leg)) at (rw (not_up, dials) refl) _ (λ z. refl)
            (with_tone_sounding_next (after u.holding (Clear_slot x)) x (tone_of tones (in_disconnect_indication temporary_failure leg))))
        | inr other ↦ elim (true_or_false (leg.state == release_request)) [
          | inl asked ↦ rw (not_up, other, asked) (again_resumes (eqb-true leg.state release_request asked))
          | inr quiet ↦ rw (not_up, other, quiet) (record {
            here = at ∙ ap (λ (l : Leg). Some l) (sym (unchanged not_up other quiet)) ∙ ap (option_map (resumed u)) (sym at);
            same = λ z in_z apart. refl;
            next = refl;
          })
        ]
      ]
    ]
      where
        unchanged : (leg.state == active) ≡ false → (leg.state == overlap_sending) ≡ false → (leg.state == release_request) ≡ false → resumed u leg ≡ leg
        unchanged not_up other quiet = rw (not_up, other, quiet) refl

  slot_resumes : (whole : Bool) → Resumes d.external u (making_after_all d m (resume_slot tones whole u.legs x)).world x
  slot_resumes whole = at_held u.legs x (resume_held tones whole u.legs x) (λ os. Resumes d.external u (making_after_all d m os).world x)
      (λ none. none_resumes none (awaits_restart u.legs x) whole) leg_resumes

-- ---- the slots of the line

-- a leg once the slots below a place are done
abbrev pub resumed_below : ℕ → World → ℕ → Slot → Leg → Leg
resumed_below line w n x leg = if was_restarted whole_line line n x then resumed w leg else leg

pub record AreResumed (s : Setting) (line : ℕ) (w : World) (n : ℕ) (v : World) : Type 0 where
  pub kept : Kept s.dimensions s.tones v
  pub entries : EntriesStand s.dimensions.external s.plan v
  pub legs : (z : Slot) → IsExternal s.dimensions.external z → leg_at v.legs z ≡ option_map (resumed_below line w n z) (leg_at w.legs z)
  pub next : v.holding.next ≡ w.holding.next

-- no leg is another
pub mapped : (f : Leg → Leg) (o : Option Leg) → ((l : Leg) → f l ≡ l) → option_map f o ≡ o
mapped f None same = refl
mapped f (Some l) same = ap (λ (k : Leg). Some k) (same l)

both_mapped : (f g : Leg → Leg) (o : Option Leg) → ((l : Leg) → f l ≡ g l) → option_map f o ≡ option_map g o
both_mapped f g None same = refl
both_mapped f g (Some l) same = ap (λ (k : Leg). Some k) (same l)

module _ (s : Setting) (whole : Bool) (line : ℕ) (w : World) (n : ℕ) (below : line < s.dimensions.external) (small : n < 30) (m : Making)
    (so_far : AreResumed s line w n m.world) where
  abbrev d : Dimensions
  d = s.dimensions

  abbrev here : Slot
  here = record { line = line; place = n }

  in_here : IsExternal d.external here
  in_here = (below, small)

  abbrev v : World
  v = (making_after_all d m (resume_slot s.tones whole m.world.legs here)).world

  done : Resumes d.external m.world v here
  done = slot_resumes d s.tones m here so_far.kept so_far.entries.1 in_here whole

  same_resumed : (l : Leg) → resumed m.world l ≡ resumed w l
  same_resumed l = ap (λ (k : ℕ). resumed (record w { holding = record w.holding { next = k } }) l) so_far.next

  not_yet : was_restarted whole_line line n here ≡ false
  not_yet = none_before (restarts_slot whole_line line here) (nat_lt n n) (lt_false whole_line line n n (omega arith))

  now : was_restarted whole_line line (suc n) here ≡ true
  now =
      let same : (line == line) ≡ true = grind (arith, common_steps) in
      rw (same, lt_true whole_line line n (suc n) (omega arith)) refl

  legs_then : (z : Slot) → IsExternal d.external z → leg_at v.legs z ≡ option_map (resumed_below line w (suc n) z) (leg_at w.legs z)
  legs_then z in_z = elim (same_or_apart z here) [
    | inl same ↦ subst (λ (q : Slot). leg_at v.legs q ≡ option_map (resumed_below line w (suc n) q) (leg_at w.legs q)) (sym same) (
        done.here
        ∙ ap (option_map (resumed m.world)) (so_far.legs here in_here
        ∙ mapped (resumed_below line w n here) (leg_at w.legs here) (λ l. ap (λ (b : Bool). if b then resumed w l else l) not_yet))
        ∙ both_mapped (resumed m.world) (resumed_below line w (suc n) here) (leg_at w.legs here)
        (λ l. same_resumed l ∙ sym (ap (λ (b : Bool). if b then resumed w l else l) now)))
    | inr apart ↦
        done.same z in_z apart ∙ so_far.legs z in_z
        ∙ both_mapped (resumed_below line w n z) (resumed_below line w (suc n) z) (leg_at w.legs z)
        (λ l. ap (λ (b : Bool). if b then resumed w l else l) (sym (same_where_apart whole_line line z n apart)))
  ]

  pub one_more : AreResumed s line w (suc n) v
  one_more = record {
    kept = resume_slot_kept d s.tones m here so_far.kept in_here whole;
    entries = performed_all d s.tones s.plan m (resume_slot s.tones whole m.world.legs here)
        (resume_slot_may d s.tones m here so_far.kept in_here whole s.plan) so_far.entries;
    legs = legs_then;
    next = done.next ∙ so_far.next;
  }

module _ (s : Setting) (whole : Bool) (line : ℕ) (w : World) (below : line < s.dimensions.external) (stands : CallsStand s w) where
  abbrev begins : World
  begins = with_line w line false

  pub start : AreResumed s line w 0 begins
  start = record {
    kept = linked_kept s.dimensions s.tones w line false (stands.circuits, stands.legs);
    entries = flags_stand s.dimensions.external s.plan w _ _ (stands.numbers, stands.waits);
    legs = λ z in_z. sym (mapped (resumed_below line w 0 z) (leg_at w.legs z)
        (λ l. ap (λ (b : Bool). if b then resumed w l else l)
        (none_before (restarts_slot whole_line line z) (nat_lt z.place 0) (lt_false whole_line line z.place 0 (omega arith)))));
    next = refl;
  }

  resumed_so_far : (n : ℕ) → n ≤ 30 → AreResumed s line w n (outcome_below s.dimensions (rule_of s.tones whole false) line begins n).making.world
  resumed_so_far zero small = subst (λ (a : MessageOutcome). AreResumed s line w 0 a.making.world)
      (sym (below_none s.dimensions (rule_of s.tones whole false) line begins)) start
  resumed_so_far (suc n) small =
      subst (λ (a : MessageOutcome). AreResumed s line w (suc n) a.making.world) (sym (below_more s.dimensions (rule_of s.tones whole false) line begins n))
      (one_more s whole line w n below (omega (arith, small)) (outcome_below s.dimensions (rule_of s.tones whole false) line begins n).making
      (resumed_so_far n (omega (arith, small))))

-- ---- what is left

pub legs_are_resumed : (s : Setting) (w : World) (line : ℕ) → HasLine s w line
    → LegsAreResumed s.dimensions.external line w (outcome_of_link s.dimensions s.tones false line w).making.world
legs_are_resumed s w line can x in_x =
    linked_by s.dimensions s.tones false line w (λ v. leg_at v.legs x ≡ option_map (resumed_on line w x) (leg_at w.legs x)) (λ whole.
    (resumed_so_far s whole line w can.line_exists can.stands 30 (omega arith)).legs x in_x
    ∙ both_mapped (resumed_below line w 30 x) (resumed_on line w x) (leg_at w.legs x) (λ l. ap (λ (b : Bool). if b then resumed w l else l) on_line))
  where
    both : (b : Bool) → ((b && true) && true) ≡ b
    both true = refl
    both false = refl

    on_line : was_restarted whole_line line 30 x ≡ (x.line == line)
    on_line = ap (λ (b : Bool). ((x.line == line) && true) && b) (lt_true whole_line line x.place 30 in_x.1) ∙ both (x.line == line)
