-- Line hunting: which slot is found, and when none is.
use Rattle.std.proofs.Common.{◌≡◌, ℕ, Bool, List, [], ◌∷◌, ◌++◌, Option, Some, None, refl, sym, ◌∙◌, ap, subst, arith, true, false, ◌&&◌}
use Rattle.std.specs.Prelude.{All, Contains, is_none}
use Rattle.std.specs.Option.{option_or}
use Rattle.std.proofs.lemmas.List.Elements.{All-nil, All-cons, All-head, All-tail, Contains-append_right, Contains-get_or}
use Rattle.circuit_model.specs.declared.channel.Slot.{Slot}
use Rattle.number_plan.specs.declared.target.Found.TheVariants.{Line, Lines}
use Rattle.call_states.specs.declared.pending.Pending.{Pending}
use Rattle.exchange_events.specs.Sizes.{Dimensions}
use Rattle.call_profile.specs.Hunting.{IsFull, IsFirstIdle, IsIdleOnOne}
use Rattle.call_profile.specs.IdleSlots.{lowest_called, hunted}
use Rattle.call_profile.specs.Legs.{lowest_free_reference, is_down}
use Rattle.call_profile.specs.Setup.{accept, call, call_line, called_checks}
use Rattle.call_profile.specs.World.{World}
use Rattle.call_profile.proofs.SetupLemmas.{called_is, lowest_idle_beside_hunted_on}
use Rattle.q931_codec.specs.Causes.{destination_out_of_order, no_channel_available, switching_equipment_congestion}

-- the same slot, if one is found
some_is : (y z : Slot) → Some z ≡ Some y → z ≡ y
some_is y z e = cc

module _ (w : World) (x : Slot) where
  -- ---- the slot that is found

  first_step : (line : ℕ) (lines : List ℕ) (y : Slot) (o : Option Slot) → lowest_called w x line ≡ o → (hunted w x lines ≡ Some y → IsFirstIdle w x lines y) → option_or o (hunted w x lines) ≡ Some y
      → IsFirstIdle w x (line ∷ lines) y
  first_step line lines y None full later e =
      let rest = later e in
      record {
        before = line ∷ rest.before;
        after = rest.after;
        listed = ap (λ (ls : List ℕ). line ∷ ls) rest.listed;
        full = All-cons (IsFull w x) line rest.before full rest.full;
        lowest = rest.lowest;
      }
  first_step line lines y (Some z) chosen later e =
      let here : lowest_called w x line ≡ Some y = chosen ∙ e in
      let on : y.line ≡ line = (called_is w x line y here).2.0 in
      record {
        before = [];
        after = lines;
        listed = ap (λ n. n ∷ lines) (sym on);
        full = All-nil (IsFull w x);
        lowest = subst (λ n. lowest_called w x n ≡ Some y) (sym on) here;
      }

  pub first_idle : (lines : List ℕ) (y : Slot) → hunted w x lines ≡ Some y → IsFirstIdle w x lines y
  first_idle [] y e = absurd cc
  first_idle (line ∷ lines) y e = first_step line lines y (lowest_called w x line) refl (first_idle lines y) e

  hunted_found_behind : (before after : List ℕ) (y : Slot) → All (IsFull w x) before → lowest_called w x y.line ≡ Some y → hunted w x (before ++ y.line ∷ after) ≡ Some y
  hunted_found_behind [] after y full lowest = ap (λ o. option_or o (hunted w x after)) lowest
  hunted_found_behind (line ∷ before) after y full lowest =
      ap (λ o. option_or o (hunted w x (before ++ y.line ∷ after))) (All-head (IsFull w x) line before full) ∙ hunted_found_behind before after y (All-tail (IsFull w x) line before full) lowest

  pub hunted_found : (lines : List ℕ) (y : Slot) → IsFirstIdle w x lines y → hunted w x lines ≡ Some y
  hunted_found lines y first = ap (λ (ls : List ℕ). hunted w x ls) first.listed ∙ hunted_found_behind first.before first.after y first.full first.lowest

  -- ---- all lines are full

  none_step : (line : ℕ) (lines : List ℕ) (o : Option Slot) → lowest_called w x line ≡ o → (hunted w x lines ≡ None → All (IsFull w x) lines) → option_or o (hunted w x lines) ≡ None → All (IsFull w x) (line ∷ lines)
  none_step line lines None full later e = All-cons (IsFull w x) line lines full (later e)
  none_step line lines (Some z) chosen later e = absurd cc

  pub all_full : (lines : List ℕ) → hunted w x lines ≡ None → All (IsFull w x) lines
  all_full [] e = All-nil (IsFull w x)
  all_full (line ∷ lines) e = none_step line lines (lowest_called w x line) refl (all_full lines) e

  pub hunted_none_found : (lines : List ℕ) → All (IsFull w x) lines → hunted w x lines ≡ None
  hunted_none_found [] full = refl
  hunted_none_found (line ∷ lines) full = ap (λ o. option_or o (hunted w x lines)) (All-head (IsFull w x) line lines full) ∙ hunted_none_found lines (All-tail (IsFull w x) line lines full)

  -- ---- what the slot is

  pub idle_on_one : (lines : List ℕ) (y : Slot) → hunted w x lines ≡ Some y → IsIdleOnOne w x lines y
  idle_on_one lines y e =
      let first = first_idle lines y e in
      let is = called_is w x y.line y (lowest_idle_beside_hunted_on w x lines y e) in
      record {
        free = is.0;
        apart = is.1;
        on = subst (λ (ls : List ℕ). Contains ls y.line) (sym first.listed) (Contains-append_right first.before (y.line ∷ first.after) y.line (Contains-get_or (y.line ∷ first.after) 0 0 (omega arith)));
      }

  -- ---- a list of one line

  pub option_or-none : (o : Option Slot) → option_or o None ≡ o
  option_or-none None = refl
  option_or-none (Some y) = refl

  and_true : (b : Bool) → (b && true) ≡ b
  and_true true = refl
  and_true false = refl

  one_checked : (d : Dimensions) (line : ℕ) (full : Bool) → is_none (hunted w x (line ∷ [])) ≡ full → full ≡ is_none (lowest_called w x line) → called_checks d w (Some x) (Lines (line ∷ [])) ≡ called_checks d w (Some x) (Line line)
  one_checked d line full is same = λ i. (and_true (is_down w.legs line) i, destination_out_of_order) ∷ ((is ∙ same) i, no_channel_available) ∷ (false, switching_equipment_congestion) ∷ []

  pub called_checks_one_is_full : (d : Dimensions) (line : ℕ) → called_checks d w (Some x) (Lines (line ∷ [])) ≡ called_checks d w (Some x) (Line line)
  called_checks_one_is_full d line = one_checked d line (is_none (lowest_called w x line)) (ap is_none (option_or-none (lowest_called w x line))) refl

  one_call : (first : Bool) (own : ℕ) (asked : Pending) (line : ℕ) (o : Option Slot) → lowest_called w x line ≡ o → call first w own asked x (Lines (line ∷ [])) (option_or o None) ≡ call first w own asked x (Line line) o
  one_call first own asked line None chosen = refl
  one_call first own asked line (Some y) chosen = ap (λ n. call_line first own asked x y (lowest_free_reference w.legs n)) (called_is w x line y chosen).2.0

  pub accept_one_line : (first : Bool) (own : ℕ) (asked : Pending) (line : ℕ) → accept first w own asked x (Lines (line ∷ [])) ≡ accept first w own asked x (Line line)
  accept_one_line first own asked line = one_call first own asked line (lowest_called w x line) refl
