-- What RESTART ACKNOWLEDGE makes, slot by slot.
use Rattle.std.proofs.Common.{◌≡◌, ℕ, ◌+◌, ◌<◌, List, [], Option, refl, arith}
use Rattle.circuit_model.specs.declared.channel.Slot.{Slot}
use Rattle.circuit_map.specs.Connections.{Connections}
use Rattle.clearing_rules.specs.declared.scope.Restart.{Restart}
use Rattle.exchange_events.specs.declared.signal.Signal.{Signal}
use Rattle.exchange_events.specs.Sizes.{Dimensions}
use Rattle.tone_rules.specs.declared.tones.Tones.{Tones}
use Rattle.call_profile.specs.Legs.{Legs}
use Rattle.call_profile.specs.Operations.{making_after_all}
use Rattle.call_profile.specs.Restarts.{confirm_rule, confirm_slot, outcome_below}
use Rattle.call_profile.specs.World.{World}
use Rattle.call_profile.proofs.ClearingLemmas.{Kept}
use Rattle.call_profile.proofs.ConfirmedSlotLemmas.{confirm_told, confirmed_kept}
use Rattle.call_control.specs.Standing.{Makes}
use Rattle.call_control.proofs.LinkMakingLemmas.{step_ruled}

-- one slot more
pub confirm_step : (d : Dimensions) (tones : Tones) (r : Restart) (line : ℕ) (w : World) (place : ℕ) (map : Connections) (legs : Legs) (sends : List Signal) (moved : Option (ℕ × ℕ))
    → line < d.external → Kept d tones w → place < 30
    → [] ≡ (outcome_below d (confirm_rule r) line w place).recorded
    → Makes d map legs sends moved (making_after_all d (outcome_below d (confirm_rule r) line w place).making (confirm_slot r (outcome_below d (confirm_rule r) line w place).making.world.legs (record { line = line; place = place })))
    → Makes d map legs sends moved (outcome_below d (confirm_rule r) line w (place + 1)).making × ([] ≡ (outcome_below d (confirm_rule r) line w (place + 1)).recorded)
confirm_step d tones r line w place map legs sends moved below kept small first makes =
    let x : Slot = record { line = line; place = place } in
    step_ruled d (confirm_rule r) line w place map legs sends moved [] [] [] first makes
    (confirm_told d tones r (outcome_below d (confirm_rule r) line w place).making x (confirmed_kept d tones r line w below kept place (omega (arith, small))) (below, small)) refl
