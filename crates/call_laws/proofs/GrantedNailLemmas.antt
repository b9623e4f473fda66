-- A nail of two idle slots is granted, and connects them both ways.
use Rattle.std.proofs.Common.{◌≡◌, true, refl}
use Rattle.circuit_model.specs.declared.channel.Slot.{Slot}
use Rattle.circuit_model.specs.declared.circuit.Circuit.TheVariants.{Pair}
use Rattle.exchange_events.specs.declared.trace.Event.TheVariants.{Nail}
use Rattle.exchange_events.specs.Sizes.{Setting}
use Rattle.call_profile.specs.Answered.{AreNailed, IsGranted}
use Rattle.call_profile.specs.IdleSlots.{idle}
use Rattle.call_profile.specs.Step.{reply, next}
use Rattle.call_profile.specs.World.{World}
use Rattle.call_profile.proofs.AnsweringLemmas.{pair_there}

module _ (s : Setting) (w : World) (x y : Slot) (idle_x : idle w x ≡ true) (idle_y : idle w y ≡ true) where
  pub nail_granted : IsGranted (reply s w (Nail x y))
  nail_granted = rw (idle_x, idle_y) (_, _, refl)

  pub nail_both : AreNailed w (next s w (Nail x y)) x y
  nail_both = let two = pair_there w.holding.circuits (Pair x y w.holding.next) (Pair y x w.holding.next) in rw (idle_x, idle_y) (record { there = two.0; back = two.1 })
