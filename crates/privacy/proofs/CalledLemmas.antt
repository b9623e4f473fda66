-- The called slot of a new call is idle, on a line that exists.
use Rattle.std.proofs.Common.{◌≡◌, ℕ, ◌<◌, true, List, Some, sym, subst, arith}
use Rattle.std.proofs.lemmas.Bool.Decides.{nat_tests}
use Rattle.circuit_model.specs.declared.channel.Slot.{Slot}
use Rattle.circuit_model.specs.Extent.{IsExternal}
use Rattle.number_plan.specs.declared.target.Found.{Found}
use Rattle.number_plan.specs.declared.target.Found.TheVariants.{Line, Lines, Room, More, Nothing}
use Rattle.exchange_events.specs.Sizes.{Setting}
use Rattle.exchange_events.specs.Sound.{IsPlanned, line_exists}
use Rattle.call_profile.specs.IdleSlots.{idle}
use Rattle.call_profile.specs.Setup.{called_slot, target_dialled}
use Rattle.call_profile.specs.World.{World}
use Rattle.call_profile.proofs.SetupLemmas.{called_is, lowest_idle_beside_hunted_on, hunted_passes, all_reached, reached}

pub called_idle : (s : Setting) (w : World) (x : Slot) → IsPlanned s → (digits : List ℕ) (t : Found) → target_dialled s.plan digits ≡ t → (y : Slot) → called_slot w x t ≡ Some y
    → IsExternal s.dimensions.external y × (idle w y ≡ true)
called_idle s w x planned digits (Line l) is y chosen =
    let c = called_is w x l y chosen in
    ((subst (λ n. n < s.dimensions.external) (sym c.2.0) (reached s digits l planned is), c.2.1), c.0)
called_idle s w x planned digits (Lines ls) is y chosen =
    let c = called_is w x y.line y (lowest_idle_beside_hunted_on w x ls y chosen) in
    let passes = hunted_passes (line_exists s.dimensions.external) w x ls y (all_reached s digits ls planned is) chosen in
    ((grind (arith, nat_tests, passes), c.2.1), c.0)
called_idle s w x planned digits (Room room) is y chosen = absurd cc
called_idle s w x planned digits More is y chosen = absurd cc
called_idle s w x planned digits Nothing is y chosen = absurd cc
