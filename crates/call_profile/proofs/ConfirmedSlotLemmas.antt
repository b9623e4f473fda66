-- What is done at a slot whose restart the user acknowledges keeps the legs consistent, is permitted, and records nothing.
use Rattle.std.proofs.Common.{◌≡◌, ◌<◌, ◌≤◌, ◌&&◌, ℕ, Bool, true, false, None, refl, ◌∙◌, ap, []}
use Rattle.std.specs.Prelude.{List, ◌∷◌, is_none, if◌then◌else◌}
use Rattle.circuit_model.specs.declared.channel.Slot.{Slot}
use Rattle.circuit_model.specs.Extent.{IsExternal}
use Rattle.q931_codec.specs.Causes.{temporary_failure}
use Rattle.clearing_rules.specs.Restarting.{is_restarted}
use Rattle.clearing_rules.specs.declared.scope.Restart.{Restart}
use Rattle.call_states.specs.Conditions.{is_open}
use Rattle.call_states.specs.declared.condition.Condition.TheVariants.{Idle}
use Rattle.exchange_events.specs.Sizes.{Dimensions}
use Rattle.number_plan.specs.declared.plan.Number.{Number}
use Rattle.tone_rules.specs.declared.tones.Tones.{Tones}
use Rattle.call_profile.specs.CallRecords.{records}
use Rattle.call_profile.specs.Legs.{Legs, condition_at, leg_at}
use Rattle.call_profile.specs.Operations.{Making, Operation, Remove, making_after_all, with_legs}
use Rattle.call_profile.specs.Restarts.{confirm_rule, confirm_slot, outcome_below}
use Rattle.call_profile.specs.World.{World}
use Rattle.call_profile.proofs.ClearingLemmas.{Kept}
use Rattle.call_profile.proofs.CommandLemmas.{is_empty}
use Rattle.call_profile.proofs.GivenUpSlotLemmas.{flagged, flagged_held}
use Rattle.call_profile.proofs.LinkLemmas.{alike_kept}
use Rattle.call_profile.proofs.Permitted.{ArePermitted}
use Rattle.call_profile.proofs.RefusalLemmas.{no_records}
use Rattle.call_profile.proofs.RestartedSlotLemmas.{each_below}

-- what holds of no operation, and of the removal at a slot without a leg, holds of what is done at the slot
module _ (r : Restart) (legs : Legs) (x : Slot) (P : List Operation → Type 0) (same : P []) (confirmed : leg_at legs x ≡ None → P (Remove x Idle ∷ [])) where
  by_flags : (covered unsure empty : Bool) → (empty ≡ true → leg_at legs x ≡ None) → P (if covered && (unsure && empty) then Remove x Idle ∷ [] else [])
  by_flags true true true none = confirmed (none refl)
  by_flags true true false none = same
  by_flags true false empty none = same
  by_flags false unsure empty none = same

  pub at_confirmed : P (confirm_slot r legs x)
  at_confirmed = by_flags (is_restarted r x.place) (is_open (condition_at legs x)) (is_none (leg_at legs x)) (is_empty (leg_at legs x))

module _ (d : Dimensions) (tones : Tones) (r : Restart) (m : Making) (x : Slot) where
  -- the legs stay
  pub confirm_held : (making_after_all d m (confirm_slot r m.world.legs x)).world.legs.held ≡ m.world.legs.held
  confirm_held = at_confirmed r m.world.legs x (λ os. (making_after_all d m os).world.legs.held ≡ m.world.legs.held) refl (λ none. flagged_held d tones Idle m x none)

  module _ (kept : Kept d tones m.world) (within : IsExternal d.external x) where
    pub confirm_kept : Kept d tones (making_after_all d m (confirm_slot r m.world.legs x)).world
    confirm_kept = at_confirmed r m.world.legs x (λ os. Kept d tones (making_after_all d m os).world) kept
        (λ none. alike_kept d tones m.world (flagged d tones Idle m x) (flagged_held d tones Idle m x none) refl kept)

    pub confirm_may : (plan : List Number) → ArePermitted d tones plan m (confirm_slot r m.world.legs x)
    confirm_may plan = at_confirmed r m.world.legs x (ArePermitted d tones plan m) tt (λ none. (within, tt))

    pub confirm_told : records m.world (making_after_all d m (confirm_slot r m.world.legs x)).world temporary_failure ≡ []
    confirm_told = at_confirmed r m.world.legs x (λ os. records m.world (making_after_all d m os).world temporary_failure ≡ []) (no_records m.world temporary_failure)
        (λ none. ap (λ held. records m.world (with_legs m.world (record m.world.legs { held = held })) temporary_failure) (flagged_held d tones Idle m x none) ∙ no_records m.world temporary_failure)

-- ---- the slots of a line

pub confirmed_kept : (d : Dimensions) (tones : Tones) (r : Restart) (line : ℕ) (w : World) → line < d.external → Kept d tones w → (place : ℕ) → place ≤ 30 → Kept d tones (outcome_below d (confirm_rule r) line w place).making.world
confirmed_kept d tones r line w below kept =
    each_below d (confirm_rule r) line w (λ a. Kept d tones a.making.world) kept (λ a place small k. confirm_kept d tones r a.making (record { line = line; place = place }) k (below, small))
