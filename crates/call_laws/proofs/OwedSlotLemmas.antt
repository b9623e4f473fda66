-- A RESTART is owed only on a line whose data link is down: the operations.
use Rattle.std.proofs.Common.{◌≡◌, ℕ, zero, suc, ◌<◌, inl, inr, Bool, true, false, ◌&&◌, List, [], ◌∷◌, Some, None, refl, sym, ◌∙◌, ap, subst, arith, eqb-true, set, get_or, get_or-set_other, if◌then◌else◌}
use Rattle.std.specs.Prelude.{◌==◌, is_none, slice_index_or}
use Rattle.std.proofs.lemmas.Grind.{common_steps}
use Rattle.circuit_model.specs.declared.channel.Slot.{Slot}
use Rattle.circuit_model.specs.Extent.{IsExternal}
use Rattle.circuit_model.proofs.Slots.{true_or_false}
use Rattle.control_memory.specs.Layout.{number_of}
use Rattle.control_memory.proofs.Steps.{same_number}
use Rattle.q931_codec.specs.Causes.{destination_out_of_order, invalid_number_format, no_answer_from_user, no_user_responding, recovery_on_timer_expiry, temporary_failure}
use Rattle.call_timers.specs.declared.expiry.Expiry.{Expiry}
use Rattle.call_timers.specs.declared.expiry.Expiry.TheVariants as expiry
use Rattle.call_states.specs.Conditions.{is_owing, unanswered}
use Rattle.call_states.specs.declared.condition.Condition.{Condition}
use Rattle.call_states.specs.declared.condition.Condition.TheVariants.{Idle}
use Rattle.call_states.specs.declared.leg.HeldLeg.{HeldLeg}
use Rattle.call_states.specs.declared.leg.Leg.{Leg}
use Rattle.tone_rules.specs.declared.tones.Tones.{Tones}
use Rattle.exchange_events.specs.Sizes.{Setting, Dimensions}
use Rattle.call_profile.specs.Acts.{peer_of}
use Rattle.call_profile.specs.Expiring.{due_of, on_expiry, expire_slot}
use Rattle.call_profile.specs.LinkChanges.{restart_channel, resume_held, resume_slot}
use Rattle.call_profile.specs.Legs.{Legs, awaits_restart, condition_at, is_down, is_owed, leg_at, kept_at, with_entry, without_leg}
use Rattle.call_profile.specs.Operations as op
use Rattle.call_profile.specs.Operations.{Operation, Making, Await, Put, begun, making_after, making_after_all}
use Rattle.call_profile.proofs.ClearingLemmas.{Kept}
use Rattle.call_profile.proofs.CommandLemmas.{both_true}
use Rattle.call_profile.proofs.ExpiringLemmas.{at_slot}
use Rattle.call_profile.proofs.LinkLemmas.{at_held, by_resume}
use Rattle.call_laws.proofs.LinkedLegLemmas.{entry_or_before}
use Rattle.call_laws.proofs.RemovedSlotLemmas.{GiveAll, MayGive, again_given, cleared_given, peer_given}

-- ---- one condition written

pub set_owing : (l : List Condition) (n : ℕ) (c : Condition) → is_owing (get_or (set l n c) n Idle) ≡ true → is_owing c ≡ true
set_owing [] n c e = absurd cc
set_owing (a ∷ rest) zero c e = e
set_owing (a ∷ rest) (suc n) c e = set_owing rest n c e

both_and : (a b : Bool) → a ≡ true → b ≡ true → (a && b) ≡ true
both_and a b one other = rw (one, other) refl

-- it is owed while the link is down
pub owing_unanswered : (down : Bool) → is_owing (unanswered down) ≡ down
owing_unanswered true = refl
owing_unanswered false = refl

-- a slot with a leg is owed nothing
pub owed_by_put : (legs : Legs) (x z : Slot) (leg : Leg) → is_owed (with_entry legs x (Some leg)) z ≡ true → is_owed legs z ≡ true
owed_by_put legs x z leg owed =
    let both = both_true (is_owing (condition_at legs z)) (is_none (leg_at (with_entry legs x (Some leg)) z)) owed in
    elim (entry_or_before legs.held (number_of x) (number_of z) (Some leg) None) [
      | inl new ↦ let wrong : false ≡ true = sym (ap is_none new) ∙ both.1 in absurd cc
      | inr old ↦ both_and (is_owing (condition_at legs z)) (is_none (leg_at legs z)) both.0 (sym (ap is_none old) ∙ both.1)
    ]

-- ---- the operations, by the slots that may be owed a RESTART

module _ (d : Dimensions) (May : Slot → Type 0) where
  abbrev pub Owes : Legs → Type 0
  Owes legs = (z : Slot) → IsExternal d.external z → is_owed legs z ≡ true → May z

  -- a condition is Owed only at a slot that may be owed
  abbrev pub Due : Slot → Condition → Type 0
  Due x condition = is_owing condition ≡ true → (x.place < 30) × May x

  abbrev pub OweAll : List Operation → Type 0
  OweAll = GiveAll Due

  put_owes : (legs : Legs) (x : Slot) (leg : Leg) → Owes legs → Owes (with_entry legs x (Some leg))
  put_owes legs x leg before z in_z owed = before z in_z (owed_by_put legs x z leg owed)

  removed_owes : (legs : Legs) (x : Slot) (condition : Condition) → Due x condition → Owes legs → Owes (without_leg legs x condition)
  removed_owes legs x condition may before z in_z is =
      let both = both_true (is_owing (condition_at (without_leg legs x condition) z)) (is_none (leg_at (without_leg legs x condition) z)) is in
      elim (true_or_false (number_of z == number_of x)) [
        | inl same ↦
            let n = eqb-true (number_of z) (number_of x) same in
            let owing = set_owing legs.conditions (number_of x) condition
            (sym (ap (λ (k : ℕ). is_owing (slice_index_or (without_leg legs x condition).conditions k Idle)) n) ∙ both.0) in
            let here = may owing in
            subst May (sym (same_number z x in_z.1 here.0 n)) here.1
        | inr apart ↦
            let other : number_of z ≡ number_of x → ⊥ = λ n. grind (arith, common_steps, apart, n) in
            before z in_z (both_and (is_owing (condition_at legs z)) (is_none (leg_at legs z))
            (sym (ap is_owing (get_or-set_other legs.conditions (number_of x) (number_of z) condition Idle other)) ∙ both.0)
            (sym (ap is_none (get_or-set_other legs.held (number_of x) (number_of z) None None other)) ∙ both.1))
      ]

  performed : (m : Making) (o : Operation) → MayGive Due o → Owes m.world.legs → Owes (making_after d m o).world.legs
  performed m (op.Clear x) may before = before
  performed m (op.Pair x y) may before = before
  performed m (op.Seat x room) may before = before
  performed m (op.Sound x kind) may before = before
  performed m (op.Put x leg) may before = put_owes m.world.legs x (begun m.world leg) before
  performed m (op.Wait x leg p) may before = put_owes m.world.legs x (begun m.world leg) before
  performed m (op.Expect x leg message) may before = put_owes m.world.legs x (begun m.world leg) before
  performed m (op.Repeat h octets) may before = put_owes m.world.legs h.slot (record h.leg { since = m.world.holding.next; resent = true }) before
  performed m (op.Await x leg) may before = put_owes m.world.legs x (record leg { since = m.world.holding.next; resent = true }) before
  performed m (op.Remove x condition) may before = removed_owes m.world.legs x condition may before
  performed m (op.Send line message) may before = before

  pub owed_all : (m : Making) (os : List Operation) → OweAll os → Owes m.world.legs → Owes (making_after_all d m os).world.legs
  owed_all m [] may before = before
  owed_all m (o ∷ os) may before = owed_all (making_after d m o) os may.1 (performed m o may.0 before)

  -- ---- an expiry

  expiry_owes : (tones : Tones) (legs : Legs) (h : HeldLeg) (e : Expiry) → h.slot.place < 30 → (e ≡ expiry.Outage → May h.slot)
      → (is_down legs h.slot.line ≡ true → May h.slot) → OweAll (on_expiry tones legs h e)
  expiry_owes tones legs h expiry.Digits small lost down = cleared_given Due tones invalid_number_format h [] tt
  expiry_owes tones legs h expiry.SetupAgain small lost down = again_given Due h (kept_at legs h.slot)
  expiry_owes tones legs h expiry.SetupOver small lost down = (tt, ((λ e. absurd cc), (tt, peer_given Due tones no_user_responding (peer_of legs h.leg.peer))))
  expiry_owes tones legs h expiry.Proceeding small lost down =
      cleared_given Due tones recovery_on_timer_expiry h _ (peer_given Due tones no_user_responding (peer_of legs h.leg.peer))
  expiry_owes tones legs h expiry.Alerting small lost down =
      cleared_given Due tones recovery_on_timer_expiry h _ (peer_given Due tones no_answer_from_user (peer_of legs h.leg.peer))
  expiry_owes tones legs h expiry.Outage small lost down =
      (tt, ((λ e. (small, lost refl)), peer_given Due tones destination_out_of_order (peer_of legs h.leg.peer)))
  expiry_owes tones legs h expiry.Disconnect small lost down = (tt, tt)
  expiry_owes tones legs h expiry.ReleaseAgain small lost down = again_given Due h (kept_at legs h.slot)
  expiry_owes tones legs h expiry.ReleaseOver small lost down = (tt, ((λ e. (small, down (sym (owing_unanswered (is_down legs h.slot.line)) ∙ e))), tt))

  pub expire_owes : (s : Setting) (frame : ℕ) (legs : Legs) (x : Slot) → x.place < 30
      → ((leg : Leg) → leg_at legs x ≡ Some leg → due_of s.timers frame leg ≡ Some expiry.Outage → May x) → (is_down legs x.line ≡ true → May x)
      → OweAll (expire_slot s frame legs x)
  expire_owes s frame legs x small lost down = at_slot s frame legs x OweAll tt (λ leg e at is.
      expiry_owes s.tones legs (record { slot = x; leg = leg }) e small (λ same. lost leg at (is ∙ ap (λ (k : Expiry). Some k) same)) down)

  -- ---- a data link

  module _ (tones : Tones) (m : Making) (x : Slot) (kept : Kept d tones m.world) (within : IsExternal d.external x) where
    channel_owes : (awaits whole : Bool) → OweAll (if awaits then restart_channel whole x else [])
    channel_owes true true = ((λ e. absurd cc), tt)
    channel_owes true false = ((λ e. absurd cc), (tt, tt))
    channel_owes false whole = tt

    pub resume_owes : (whole : Bool) → OweAll (resume_slot tones whole m.world.legs x)
    resume_owes whole = at_held m.world.legs x (resume_held tones whole m.world.legs x) OweAll
        (λ none. channel_owes (awaits_restart m.world.legs x) whole) (λ leg at.
        by_resume d tones m x leg kept within at OweAll (λ talks. (tt, (tt, tt)))
        (λ dials. cleared_given Due tones temporary_failure (record { slot = x; leg = leg }) [] tt)
        (λ clears. again_given Due (record { slot = x; leg = leg }) (kept_at m.world.legs x)) tt)
