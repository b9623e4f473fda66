-- What the restart of a line by the exchange makes, by the slots that were given up.
use Rattle.std.proofs.Common.{◌≡◌, ℕ, ◌<◌, ◌≤◌, Bool, Option, subst}
use Rattle.std.specs.Prelude.{not, List}
use Rattle.circuit_map.specs.Connections.{Connections}
use Rattle.exchange_events.specs.declared.signal.Signal.{Signal}
use Rattle.exchange_events.specs.Sizes.{Dimensions}
use Rattle.tone_rules.specs.declared.tones.Tones.{Tones}
use Rattle.call_states.specs.Conditions.{unanswered}
use Rattle.call_states.specs.declared.condition.Condition.{Condition}
use Rattle.call_profile.specs.Legs.{Legs, is_down}
use Rattle.call_profile.specs.LinkChanges.{give_up_rule, outcome_of_line_restart, with_interface}
use Rattle.call_profile.specs.Restarts.{outcome_below}
use Rattle.call_profile.specs.World.{World}
use Rattle.call_profile.proofs.ClearingLemmas.{Kept}
use Rattle.call_profile.proofs.GivenUpSlotLemmas.{give_up_kept}
use Rattle.call_profile.proofs.RestartedSlotLemmas.{each_below}
use Rattle.call_control.specs.Standing.{Makes}

-- the legs stay consistent
pub given_up_kept : (d : Dimensions) (tones : Tones) (condition : Condition) (line : ℕ) (w : World) → line < d.external → Kept d tones w → (place : ℕ) → place ≤ 30
    → Kept d tones (outcome_below d (give_up_rule tones condition) line w place).making.world
given_up_kept d tones condition line w below kept =
    each_below d (give_up_rule tones condition) line w (λ a. Kept d tones a.making.world) kept
    (λ a place small k. give_up_kept d tones condition a.making (record { line = line; place = place }) k (below, small))

-- the restart of the line, by whether its data link is down
pub line_restart_made : (d : Dimensions) (tones : Tones) (line : ℕ) (w : World) (down : Bool) (condition : Condition) → down ≡ is_down w.legs line → condition ≡ unanswered down
    → (map : Connections) (legs : Legs) (sends : List Signal) (moved : Option (ℕ × ℕ))
    → Makes d map legs sends moved (with_interface d (not down) line (outcome_below d (give_up_rule tones condition) line w 30)).making
    → Makes d map legs sends moved (outcome_of_line_restart d tones line w).making
line_restart_made d tones line w down condition is so map legs sends moved made =
    subst (λ (b : Bool). Makes d map legs sends moved (with_interface d (not b) line (outcome_below d (give_up_rule tones (unanswered b)) line w 30)).making) is
    (subst (λ (c : Condition). Makes d map legs sends moved (with_interface d (not down) line (outcome_below d (give_up_rule tones c) line w 30)).making) so made)
