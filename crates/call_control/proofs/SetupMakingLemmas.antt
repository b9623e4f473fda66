-- What an accepted SETUP makes, by what the map and the legs hold.
use Rattle.std.proofs.Common.{◌≡◌, ℕ, ◌+◌, ◌*◌, ◌<◌, ◌≤◌, length, arith, Bool, true, false, List, [], Option, Some, None, refl, sym, ◌∙◌, ap, subst}
use Rattle.std.specs.Prelude.{IsTrue, IfSome, IfOk, IfErr, Result, Ok, Err, if◌then◌else◌}
use Rattle.circuit_model.specs.declared.channel.Slot.{Slot}
use Rattle.circuit_model.specs.Extent.{IsExternal}
use Rattle.circuit_map.specs.Connections.{Connections}
use Rattle.number_plan.specs.declared.plan.Number.{Number}
use Rattle.number_plan.specs.declared.target.Found.{Found}
use Rattle.number_plan.specs.declared.target.Found.TheVariants.{Line, Lines, Room, More, Nothing}
use Rattle.number_plan.specs.Plan.{all_targets, found_for}
use Rattle.q931_codec.specs.Causes.{switching_equipment_congestion, destination_out_of_order}
use Rattle.call_states.specs.declared.pending.Pending.{Pending}
use Rattle.call_control.specs.declared.setup_checks.CalledSide.{CalledSide}
use Rattle.call_control.specs.declared.setup_checks.CalledSide.TheVariants as side
use Rattle.call_control.specs.Choices.{IsReached, accept_side, at_slot, called_side}
use Rattle.call_profile.proofs.AcceptedSetupLemmas.{accepts_line}
use Rattle.call_profile.proofs.SetupLemmas.{called_is}
use Rattle.call_profile.specs.IdleSlots.{lowest_called, hunted}
use Rattle.call_profile.specs.Setup.{accept, call, call_line, is_cut_off}
use Rattle.call_control.proofs.RefusalCauseLemmas.{reaches}
use Rattle.exchange_events.specs.declared.signal.Signal.{Signal}
use Rattle.call_profile.specs.Legs.{Legs, lowest_free_reference}
use Rattle.call_profile.specs.Operations.{Operation, Making, making_at, making_after_all}
use Rattle.exchange_events.specs.Sizes.{Setting, Dimensions}
use Rattle.exchange_events.specs.Sound.{IsPlanned, is_reached}
use Rattle.call_control.specs.Standing.{Holds, Makes, dimensions_of}
use Rattle.call_profile.specs.World.{World, is_full}

-- ---- what is made

-- at the beginning nothing was sent or moved
pub makes_begun : (d : Dimensions) (map : Connections) (legs : Legs) (sends : List Signal) (moved : Option (ℕ × ℕ)) (w : World) → Holds d map legs w → (sends ≡ []) × (moved ≡ None) → Makes d map legs sends moved (making_at w)
makes_begun d map legs sends moved w holds fresh = record { holds = holds; sent = fresh.0; moves = fresh.1 }

-- the operations by another name
pub makes_same : (d : Dimensions) (map : Connections) (legs : Legs) (sends : List Signal) (moved : Option (ℕ × ℕ)) (m : Making) (os ps : List Operation) → ps ≡ os → Makes d map legs sends moved (making_after_all d m os) → Makes d map legs sends moved (making_after_all d m ps)
makes_same d map legs sends moved m os ps same makes = subst (λ (qs : List Operation). Makes d map legs sends moved (making_after_all d m qs)) (sym same) makes

-- ---- what a setting and a map have in common

pub planned_by : (s : Setting) (numbers : List Number) (map : Connections) → s.plan ≡ numbers → dimensions_of map ≡ s.dimensions → IsPlanned s → IsTrue (all_targets (is_reached map.external) numbers)
planned_by s numbers map plan sizes planned =
    let one : IsTrue (all_targets (is_reached map.external) s.plan) = subst (λ (d : Dimensions). IsTrue (all_targets (is_reached d.external) s.plan)) (sym sizes) planned in
    subst (λ (ns : List Number). IsTrue (all_targets (is_reached map.external) ns)) plan one

-- the line that a number leads to exists
pub number_reaches : (s : Setting) (numbers : List Number) (map : Connections) (digits : List ℕ) (target : Found) → s.plan ≡ numbers → dimensions_of map ≡ s.dimensions → IsPlanned s → target ≡ found_for numbers digits
    → IsReached map.external target
number_reaches s numbers map digits target plan sizes planned is = reaches map.external numbers digits target (planned_by s numbers map plan sizes planned) (sym is)

pub external_by : (s : Setting) (map : Connections) (x : Slot) → dimensions_of map ≡ s.dimensions → IsExternal map.external x → IsExternal s.dimensions.external x
external_by s map x sizes within = subst (λ (d : Dimensions). IsExternal d.external x) sizes within

pub chosen_external : (external : ℕ) (o : Option Slot) (x : Slot) → o ≡ Some x → IfSome o (IsExternal external) → IsExternal external x
chosen_external external o x is within = subst (λ (p : Option Slot). IfSome p (IsExternal external)) is within

-- a line has a place for each of its thirty legs
pub row_of : (map : Connections) (legs : Legs) (line : ℕ) → length legs.held ≡ 30 * map.external → line < map.external → 30 * line + 30 ≤ length legs.held
row_of map legs line count within = omega (arith, within, count)

-- ---- what is known of the one way in which a result came out

pub on_err : {A : Type 0} (r : Result A ℕ) (cause : ℕ) (P : ℕ → Type 0) → r ≡ Err cause → IfErr r P → P cause
on_err r cause P is known = subst (λ (q : Result _ ℕ). IfErr q P) is known

pub on_ok : {A : Type 0} (r : Result A ℕ) (a : A) (P : A → Type 0) → r ≡ Ok a → IfOk r P → P a
on_ok r a P is known = subst (λ (q : Result _ ℕ). IfOk q P) is known

-- ---- what a call does whose called side was chosen

module _ (w : World) (first : Bool) (own : ℕ) (asked : Pending) (x : Slot) where
  line_side : (line : ℕ) (o : Option Slot) (called : CalledSide) → lowest_called w x line ≡ o → at_slot o ≡ Ok called → accept first w own asked x (Line line) ≡ accept_side first w own asked x called
  line_side line None called chosen e = absurd cc
  line_side line (Some y) called chosen e =
      let f : at_slot (Some y) ≡ Ok called = e in
      let same : side.Line y ≡ called = cc in
      let on = (called_is w x line y chosen).2.0 in
      subst (λ (c : CalledSide). accept first w own asked x (Line line) ≡ accept_side first w own asked x c) same
      (accepts_line w first own asked x line y chosen ∙ ap (λ n. call_line first own asked x y (lowest_free_reference w.legs n)) (sym on))

  hunted_side : (lines : List ℕ) (o : Option Slot) (called : CalledSide) → hunted w x lines ≡ o → at_slot o ≡ Ok called → accept first w own asked x (Lines lines) ≡ accept_side first w own asked x called
  hunted_side lines None called chosen e = absurd cc
  hunted_side lines (Some y) called chosen e =
      let f : at_slot (Some y) ≡ Ok called = e in
      let same : side.Line y ≡ called = cc in
      subst (λ (c : CalledSide). accept first w own asked x (Lines lines) ≡ accept_side first w own asked x c) same (ap (λ o. call first w own asked x (Lines lines) o) chosen)

  unless_cut : (cut : Bool) (r : Result CalledSide ℕ) (called : CalledSide) → (if cut then Err destination_out_of_order else r) ≡ Ok called → r ≡ Ok called
  unless_cut true r called e = absurd cc
  unless_cut false r called e = e

  room_side : (full : Bool) (room : ℕ) (called : CalledSide) → (if full then Err switching_equipment_congestion else Ok (side.Room room)) ≡ Ok called → side.Room room ≡ called
  room_side true room called e = absurd cc
  room_side false room called e = let f : Ok (side.Room room) ≡ Ok called = e in cc

  pub side_accepts : (d : Dimensions) (t : Found) (called : CalledSide) → called_side d w x t ≡ Ok called → accept first w own asked x t ≡ accept_side first w own asked x called
  side_accepts d (Line line) called e = line_side line (lowest_called w x line) called refl (unless_cut (is_cut_off w (Line line)) (at_slot (lowest_called w x line)) called e)
  side_accepts d (Lines lines) called e = hunted_side lines (hunted w x lines) called refl (unless_cut (is_cut_off w (Lines lines)) (at_slot (hunted w x lines)) called e)
  side_accepts d (Room room) called e = ap (accept_side first w own asked x) (room_side (is_full d w) room called e)
  side_accepts d More called e = let f : Ok side.More ≡ Ok called = e in let same : side.More ≡ called = cc in ap (accept_side first w own asked x) same
  side_accepts d Nothing called e = absurd cc

-- the number leads to a room, where that is the called side
slot_no_room : (o : Option Slot) (room : ℕ) → at_slot o ≡ Ok (side.Room room) → ⊥
slot_no_room None room e = cc
slot_no_room (Some y) room e = cc

room_is : (full : Bool) (r room : ℕ) → (if full then Err switching_equipment_congestion else Ok (side.Room r)) ≡ Ok (side.Room room) → r ≡ room
room_is true r room e = absurd cc
room_is false r room e = let f : Ok (side.Room r) ≡ Ok (side.Room room) = e in cc

cut_no_room : (cut : Bool) (o : Option Slot) (room : ℕ) → (if cut then Err destination_out_of_order else at_slot o) ≡ Ok (side.Room room) → ⊥
cut_no_room true o room e = cc
cut_no_room false o room e = slot_no_room o room e

pub leads_to_room : (d : Dimensions) (w : World) (x : Slot) (t : Found) (room : ℕ) → called_side d w x t ≡ Ok (side.Room room) → t ≡ Room room
leads_to_room d w x (Line line) room e = absurd (cut_no_room (is_cut_off w (Line line)) (lowest_called w x line) room e)
leads_to_room d w x (Lines lines) room e = absurd (cut_no_room (is_cut_off w (Lines lines)) (hunted w x lines) room e)
leads_to_room d w x (Room r) room e = ap (λ n. Room n) (room_is (is_full d w) r room e)
leads_to_room d w x More room e = absurd cc
leads_to_room d w x Nothing room e = absurd cc
