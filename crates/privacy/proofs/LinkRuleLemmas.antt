-- A property of each list of operations at a slot is one of both rules of a data link, and of the rule of a restart.
use Rattle.std.proofs.Common.{◌≡◌, Bool, true, false, List, [], ◌∷◌, Some, None, inl, inr, if◌then◌else◌}
use Rattle.std.specs.Prelude.{◌==◌}
use Rattle.circuit_model.specs.declared.channel.Slot.{Slot}
use Rattle.circuit_model.proofs.Slots.{true_or_false}
use Rattle.q931_codec.specs.CallStates.{active, overlap_sending, release_request}
use Rattle.q931_codec.specs.Causes.{destination_out_of_order, temporary_failure}
use Rattle.call_states.specs.Acts.{is_among}
use Rattle.call_states.specs.declared.condition.Condition.{Condition}
use Rattle.call_states.specs.declared.condition.Condition.TheVariants.{Owed, Unconfirmed}
use Rattle.call_states.specs.declared.leg.HeldLeg.{HeldLeg}
use Rattle.call_states.specs.declared.leg.Leg.{Leg}
use Rattle.clearing_rules.specs.Restarting.{restart_of}
use Rattle.clearing_rules.specs.declared.scope.Restart.TheVariants.{Channel}
use Rattle.tone_rules.specs.declared.tones.Tones.{Tones}
use Rattle.call_profile.specs.Acts.{clear_with, with_enquiry}
use Rattle.call_profile.specs.Expiring.{send_again}
use Rattle.call_profile.specs.Legs.{Legs, awaits_restart, kept_at, leg_at}
use Rattle.call_profile.specs.LinkChanges.{being_cleared, drop_leg, enquire, give_up_leg, give_up_rule, restart_channel, resume_held, resume_leg, rule_of, whole_line}
use Rattle.call_profile.specs.Operations.{Operation, Await, Remove, Send}
use Rattle.call_profile.specs.Restarts.{restart_leg}
use Rattle.call_profile.proofs.LinkLemmas.{at_held}

-- at a leg, and at a slot without a leg
pub record IsAtLeg (tones : Tones) (legs : Legs) (P : List Operation → Type 0) (h : HeldLeg) : Type 0 where
  pub waits : P (Await h.slot (with_enquiry false h.leg) ∷ [])
  pub goes : P (restart_leg tones destination_out_of_order Owed whole_line legs (Some h))
  pub asks : P (enquire h)
  pub clears : P (clear_with tones temporary_failure h)
  pub again : P (send_again h (kept_at legs h.slot))

pub record IsAtEmpty (P : List Operation → Type 0) (x : Slot) : Type 0 where
  pub forgets : P (Remove x Unconfirmed ∷ [])
  pub restarts : P (Remove x Unconfirmed ∷ Send x.line (restart_of (Channel x.place)) ∷ [])

module _ (tones : Tones) (legs : Legs) (P : List Operation → Type 0) (none : P []) where
  module _ (h : HeldLeg) (at : IsAtLeg tones legs P h) where
    waiting : (runs : Bool) → P (if runs then [] else Await h.slot (with_enquiry false h.leg) ∷ [])
    waiting true = none
    waiting false = at.waits

    dropped : P (drop_leg tones legs (Some h))
    dropped = elim (true_or_false (h.leg.state == active)) [
      | inl up ↦ rw up (waiting h.leg.resent)
      | inr not_up ↦ elim (true_or_false (is_among being_cleared h.leg.state)) [
        | inl clears ↦ rw (not_up, clears) none
        | inr other ↦ rw (not_up, other) at.goes
      ]
    ]

    resumed : P (resume_leg tones legs h)
    resumed = elim (true_or_false (h.leg.state == active)) [
      | inl up ↦ rw up at.asks
      | inr not_up ↦ elim (true_or_false (h.leg.state == overlap_sending)) [
        | inl dials ↦ rw (not_up, dials) at.clears
        | inr not_dialling ↦ elim (true_or_false (h.leg.state == release_request)) [
          | inl releases ↦ rw (not_up, not_dialling, releases) at.again
          | inr other ↦ rw (not_up, not_dialling, other) none
        ]
      ]
    ]

  channel : (x : Slot) → IsAtEmpty P x → (awaited whole : Bool) → P (if awaited then restart_channel whole x else [])
  channel x at true true = at.forgets
  channel x at true false = at.restarts
  channel x at false whole = none

  pub rule_by : (x : Slot) → ((leg : Leg) → leg_at legs x ≡ Some leg → IsAtLeg tones legs P (record { slot = x; leg = leg })) → (leg_at legs x ≡ None → IsAtEmpty P x)
      → (whole down : Bool) → P ((rule_of tones whole down).does legs x)
  rule_by x held empty whole true = at_held legs x (drop_leg tones legs) P (λ at. none) (λ leg at. dropped (record { slot = x; leg = leg }) (held leg at))
  rule_by x held empty whole false = at_held legs x (resume_held tones whole legs x) P (λ at. channel x (empty at) (awaits_restart legs x) whole) (λ leg at. resumed (record { slot = x; leg = leg }) (held leg at))

-- ---- the restart of a line

-- what holds if no leg holds the slot, and if a leg that holds it is removed, holds of the operations at the slot
pub give_up_by : (tones : Tones) (legs : Legs) (P : List Operation → Type 0) (x : Slot) (condition : Condition)
    → ((leg : Leg) → leg_at legs x ≡ Some leg → P (restart_leg tones temporary_failure condition whole_line legs (Some (record { slot = x; leg = leg }))))
    → (leg_at legs x ≡ None → P (Remove x condition ∷ [])) → P ((give_up_rule tones condition).does legs x)
give_up_by tones legs P x condition held empty = at_held legs x (give_up_leg tones condition legs x) P empty held
