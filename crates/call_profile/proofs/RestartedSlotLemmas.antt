-- The slots of a line, one after another.
use Rattle.std.proofs.Common.{◌≡◌, ℕ, zero, suc, ◌<◌, ◌≤◌, ◌&&◌, Bool, true, false, [], refl, sym, subst, arith}
use Rattle.std.specs.Prelude.{not}
use Rattle.tone_rules.specs.declared.tones.Tones.{Tones}
use Rattle.call_states.specs.Conditions.{unanswered}
use Rattle.call_profile.specs.Legs.{is_down}
use Rattle.call_profile.specs.LinkChanges.{give_up_rule, outcome_of_line_restart, outcome_of_link, restarts_interface, rule_of, with_interface, with_line}
use Rattle.call_profile.specs.Operations.{making_at}
use Rattle.call_profile.specs.Restarts.{MessageOutcome, SlotRule, outcome_at_slot, outcome_below}
use Rattle.exchange_events.specs.Sizes.{Dimensions}
use Rattle.call_profile.specs.World.{World}

pub below_none : (d : Dimensions) (rule : SlotRule) (line : ℕ) (w : World) → outcome_below d rule line w 0 ≡ record { making = making_at w; recorded = [] }
unfolding outcome_below
below_none d rule line w = refl

pub below_more : (d : Dimensions) (rule : SlotRule) (line : ℕ) (w : World) (place : ℕ)
    → outcome_below d rule line w (suc place) ≡ outcome_at_slot d rule (record { line = line; place = place }) (outcome_below d rule line w place)
unfolding outcome_below
below_more d rule line w place = refl

-- what holds before the first, and is kept at each, holds at the end
pub each_below : (d : Dimensions) (rule : SlotRule) (line : ℕ) (w : World) (P : MessageOutcome → Type 0) → P (record { making = making_at w; recorded = [] })
    → ((a : MessageOutcome) (place : ℕ) → place < 30 → P a → P (outcome_at_slot d rule (record { line = line; place = place }) a))
    → (place : ℕ) → place ≤ 30 → P (outcome_below d rule line w place)
each_below d rule line w P first more zero small = subst P (sym (below_none d rule line w)) first
each_below d rule line w P first more (suc place) small =
    subst P (sym (below_more d rule line w place)) (more (outcome_below d rule line w place) place (omega (arith, small)) (each_below d rule line w P first more place (omega (arith, small))))

-- ---- a change of a data link

-- the RESTART of the interface changes no exchange state, and records nothing
pub interface_world : (d : Dimensions) (whole : Bool) (line : ℕ) (a : MessageOutcome) → (with_interface d whole line a).making.world ≡ a.making.world
interface_world d true line a = refl
interface_world d false line a = refl

pub interface_recorded : (d : Dimensions) (whole : Bool) (line : ℕ) (a : MessageOutcome) → (with_interface d whole line a).recorded ≡ a.recorded
interface_recorded d true line a = refl
interface_recorded d false line a = refl

-- so what all slots of the line keep holds after the change
module _ (d : Dimensions) (tones : Tones) (down : Bool) (line : ℕ) (w : World) where
  abbrev at_last : Bool → MessageOutcome
  at_last whole = outcome_below d (rule_of tones whole down) line (with_line w line down) 30

  pub linked_by : (P : World → Type 0) → ((whole : Bool) → P (at_last whole).making.world) → P (outcome_of_link d tones down line w).making.world
  linked_by P each = let whole : Bool = not down && restarts_interface w.legs line in subst P (sym (interface_world d whole line (at_last whole))) (each whole)

-- ---- the exchange restarts a line

module _ (d : Dimensions) (tones : Tones) (line : ℕ) (w : World) where
  -- each slot of the line is given up, before its user is sent RESTART
  abbrev pub given_up : MessageOutcome
  given_up = outcome_below d (give_up_rule tones (unanswered (is_down w.legs line))) line w 30

  pub line_restarted_by : (P : World → Type 0) → P given_up.making.world → P (outcome_of_line_restart d tones line w).making.world
  line_restarted_by P holds = subst P (sym (interface_world d (not (is_down w.legs line)) line given_up)) holds

  pub line_restart_recorded : (outcome_of_line_restart d tones line w).recorded ≡ given_up.recorded
  line_restart_recorded = interface_recorded d (not (is_down w.legs line)) line given_up
