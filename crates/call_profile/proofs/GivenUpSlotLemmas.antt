-- What is done at a slot of a line that the exchange restarts keeps the legs consistent, is permitted, and is recorded.
use Rattle.std.proofs.Common.{◌≡◌, Option, None, Some, refl, sym, ◌∙◌, ap, arith, []}
use lib.Seq.{set-get_or}
use Rattle.std.specs.Prelude.{List, option_and_then, option_map, slice_set}
use Rattle.std.specs.List.{cons_option}
use Rattle.circuit_model.specs.declared.channel.Slot.{Slot}
use Rattle.circuit_model.specs.Extent.{IsExternal}
use Rattle.control_memory.specs.Layout.{number_of}
use Rattle.q931_codec.specs.Causes.{temporary_failure}
use Rattle.call_states.specs.declared.condition.Condition.{Condition}
use Rattle.call_states.specs.declared.leg.HeldLeg.{HeldLeg}
use Rattle.call_states.specs.declared.leg.Leg.{Leg}
use Rattle.exchange_events.specs.Sizes.{Dimensions}
use Rattle.number_plan.specs.declared.plan.Number.{Number}
use Rattle.tone_rules.specs.declared.tones.Tones.{Tones}
use Rattle.call_profile.specs.CallRecords.{records}
use Rattle.call_profile.specs.EndedCalls.{record_ended}
use Rattle.call_profile.specs.Legs.{held_at, leg_at}
use Rattle.call_profile.specs.LinkChanges.{give_up_leg, give_up_slot, whole_line}
use Rattle.call_profile.specs.Operations.{Making, Remove, making_after, making_after_all, with_legs}
use Rattle.call_profile.specs.World.{World}
use Rattle.call_profile.proofs.ClearingLemmas.{Kept}
use Rattle.call_profile.proofs.LinkLemmas.{alike_kept, at_held}
use Rattle.call_profile.proofs.Permitted.{ArePermitted}
use Rattle.call_profile.proofs.RefusalLemmas.{no_records}
use Rattle.call_profile.proofs.RestartLemmas.{leg_kept, leg_permitted, records_leg_told}

module _ (d : Dimensions) (tones : Tones) (condition : Condition) (m : Making) (x : Slot) where
  -- a slot without a leg gets another condition
  abbrev pub flagged : World
  flagged = (making_after d m (Remove x condition)).world

  pub flagged_held : leg_at m.world.legs x ≡ None → flagged.legs.held ≡ m.world.legs.held
  flagged_held none = ap (slice_set m.world.legs.held (number_of x)) (sym none) ∙ set-get_or m.world.legs.held (number_of x) None

  module _ (kept : Kept d tones m.world) (within : IsExternal d.external x) where
    pub give_up_kept : Kept d tones (making_after_all d m (give_up_slot tones condition m.world.legs x)).world
    give_up_kept = at_held m.world.legs x (give_up_leg tones condition m.world.legs x) (λ os. Kept d tones (making_after_all d m os).world)
        (λ none. alike_kept d tones m.world flagged (flagged_held none) refl kept)
        (λ leg at. leg_kept d tones whole_line temporary_failure condition (omega arith) m x leg kept within at)

    pub give_up_may : (plan : List Number) → ArePermitted d tones plan m (give_up_slot tones condition m.world.legs x)
    give_up_may plan = at_held m.world.legs x (give_up_leg tones condition m.world.legs x) (ArePermitted d tones plan m) (λ none. (within, tt))
        (λ leg at. leg_permitted d tones whole_line temporary_failure condition (omega arith) m x leg kept within at plan)

    -- ---- recorded

    told_by : (o : Option Leg) → leg_at m.world.legs x ≡ o
        → records m.world (making_after_all d m (give_up_leg tones condition m.world.legs x (option_map (λ (leg : Leg). let held : HeldLeg = record { slot = x; leg = leg } in held) o))).world temporary_failure
        ≡ cons_option (option_and_then (λ h. record_ended m.world h temporary_failure) (option_map (λ (leg : Leg). let held : HeldLeg = record { slot = x; leg = leg } in held) o)) []
    told_by None at = ap (λ held. records m.world (with_legs m.world (record m.world.legs { held = held })) temporary_failure) (flagged_held at) ∙ no_records m.world temporary_failure
    told_by (Some leg) at = records_leg_told d tones whole_line temporary_failure condition (omega arith) m x leg kept within at

    pub give_up_told : records m.world (making_after_all d m (give_up_slot tones condition m.world.legs x)).world temporary_failure
        ≡ cons_option (option_and_then (λ h. record_ended m.world h temporary_failure) (held_at m.world.legs x)) []
    give_up_told = told_by (leg_at m.world.legs x) refl
