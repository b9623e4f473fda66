-- A table of legs with two entries written.
use Rattle.std.proofs.Common.{◌≡◌, ℕ, ◌*◌, length, Option, sym, ◌∙◌, length-set}
use Rattle.circuit_model.specs.declared.channel.Slot.{Slot}
use Rattle.circuit_model.specs.Extent.{IsExternal}
use Rattle.control_memory.specs.Layout.{number_of}
use Rattle.call_states.specs.declared.leg.Leg.{Leg}
use Rattle.call_profile.specs.Legs.{Legs, leg_at, with_entry}
use Rattle.call_profile.proofs.BesideLemmas.{leg_at-with_entry_here, leg_at-with_entry_else}

module _ (external : ℕ) (legs : Legs) (x y : Slot) (o p : Option Leg) (size : length legs.held ≡ 30 * external) (in_x : IsExternal external x) (in_y : IsExternal external y) (apart : y ≡ x → ⊥) where
  pub length-with_entry_both : length (with_entry (with_entry legs x o) y p).held ≡ 30 * external
  length-with_entry_both = length-set (with_entry legs x o).held (number_of y) p ∙ length-set legs.held (number_of x) o ∙ size

  pub leg_at_both_else : (z : Slot) → IsExternal external z → (z ≡ x → ⊥) → (z ≡ y → ⊥) → leg_at (with_entry (with_entry legs x o) y p) z ≡ leg_at legs z
  leg_at_both_else z in_z not_x not_y = leg_at-with_entry_else external (with_entry legs x o) y z p in_y in_z not_y ∙ leg_at-with_entry_else external legs x z o in_x in_z not_x

  pub leg_at_both_first : leg_at (with_entry (with_entry legs x o) y p) x ≡ o
  leg_at_both_first = leg_at-with_entry_else external (with_entry legs x o) y x p in_y in_x (λ e. apart (sym e)) ∙ leg_at-with_entry_here external legs x o size in_x

  pub leg_at_both_second : leg_at (with_entry (with_entry legs x o) y p) y ≡ p
  leg_at_both_second = leg_at-with_entry_here external (with_entry legs x o) y p (length-set legs.held (number_of x) o ∙ size) in_y
