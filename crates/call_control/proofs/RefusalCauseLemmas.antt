-- The cause with which a SETUP is refused, check by check.
use Rattle.std.proofs.Common.{◌≡◌, ℕ, Bool, true, false, List, [], ◌∷◌, ◌++◌, Option, Some, None, refl, sym, ◌∙◌, ap, arith}
use Rattle.std.specs.Prelude.{IsTrue, not, Result, Ok, Err, IfErr, IfOk, OnOk, is_none, if◌then◌else◌}
use Rattle.std.proofs.lemmas.Bool.Decides.{nat_tests}
use Rattle.circuit_model.specs.declared.channel.Slot.{Slot}
use Rattle.q931_codec.specs.declared.contents.ChannelIdentification.{ChannelIdentification}
use Rattle.q931_codec.specs.declared.message.Message.{Message}
use Rattle.q931_codec.specs.Causes.{no_channel_available, switching_equipment_congestion, destination_out_of_order}
use Rattle.q931_codec.specs.Contents.{channel_in, complete_in}
use Rattle.number_plan.specs.declared.plan.Number.{Number}
use Rattle.number_plan.specs.declared.target.Found.{Found}
use Rattle.number_plan.specs.declared.target.Found.TheVariants.{Line, Lines, Room, More, Nothing}
use Rattle.number_plan.specs.declared.target.Target.TheVariants as target
use Rattle.number_plan.specs.Plan.{found_for, all_targets}
use Rattle.number_plan.proofs.Meanings.{found_passes}
use Rattle.call_control.specs.declared.setup_checks.CalledSide.{CalledSide}
use Rattle.call_control.specs.declared.setup_checks.CalledSide.TheVariants as side
use Rattle.call_control.specs.Choices.{IsReached, at_slot, called_side, dialled_checks}
use Rattle.call_profile.specs.IdleSlots.{lowest_called, hunted}
use Rattle.exchange_events.specs.Sizes.{Setting, Dimensions}
use Rattle.call_profile.specs.Setup.{Check, first_cause, called_checks, target_of, caller_slot, is_taken, is_unknown, element_checks, number_checks, slot_checks, refusal, is_cut_off}
use Rattle.exchange_events.specs.Sound.{is_reached}
use Rattle.call_profile.specs.World.{World, is_full}

-- ---- one list of checks behind another decides only where no check of the other fails

first_cause_none_step : (fails : Bool) (cause : ℕ) (a b : List Check) → (first_cause a ≡ None → first_cause (a ++ b) ≡ first_cause b) → first_cause ((fails, cause) ∷ a) ≡ None → first_cause ((fails, cause) ∷ a ++ b) ≡ first_cause b
first_cause_none_step true cause a b later e = absurd cc
first_cause_none_step false cause a b later e = later e

pub first_cause_none_fails : (a b : List Check) → first_cause a ≡ None → first_cause (a ++ b) ≡ first_cause b
first_cause_none_fails [] b e = refl
first_cause_none_fails ((fails, cause) ∷ a) b e = first_cause_none_step fails cause a b (first_cause_none_fails a b) e

first_cause_some_step : (fails : Bool) (cause : ℕ) (a b : List Check) (why : ℕ) → (first_cause a ≡ Some why → first_cause (a ++ b) ≡ Some why) → first_cause ((fails, cause) ∷ a) ≡ Some why → first_cause ((fails, cause) ∷ a ++ b) ≡ Some why
first_cause_some_step true cause a b why later e = e
first_cause_some_step false cause a b why later e = later e

pub first_cause_some_fails : (a b : List Check) (why : ℕ) → first_cause a ≡ Some why → first_cause (a ++ b) ≡ Some why
first_cause_some_fails [] b why e = absurd cc
first_cause_some_fails ((fails, cause) ∷ a) b why e = first_cause_some_step fails cause a b why (first_cause_some_fails a b why) e

-- ---- the called side that is chosen

-- the line has a slot for it exactly where the check of slots passes
first_cause_line_refused : (o : Option Slot) (cause : ℕ) → at_slot o ≡ Err cause → first_cause ((is_none o, no_channel_available) ∷ (false, switching_equipment_congestion) ∷ []) ≡ Some cause
first_cause_line_refused None cause e = let f : Err no_channel_available ≡ Err cause = e in let same : no_channel_available ≡ cause = cc in ap (λ n. Some n) same
first_cause_line_refused (Some y) cause e = absurd cc

first_cause_line_passes : (o : Option Slot) (called : CalledSide) → at_slot o ≡ Ok called → first_cause ((is_none o, no_channel_available) ∷ (false, switching_equipment_congestion) ∷ []) ≡ None
first_cause_line_passes None called e = absurd cc
first_cause_line_passes (Some y) called e = refl

-- where each called line's data link is down, that is the cause
cut_refused : (cut : Bool) (o : Option Slot) (cause : ℕ) → (if cut then Err destination_out_of_order else at_slot o) ≡ Err cause
    → first_cause ((cut, destination_out_of_order) ∷ (is_none o, no_channel_available) ∷ (false, switching_equipment_congestion) ∷ []) ≡ Some cause
cut_refused true o cause e =
    let r : Result CalledSide ℕ = Err destination_out_of_order in
    let f : r ≡ Err cause = e in
    let same : destination_out_of_order ≡ cause = cc in ap (λ n. Some n) same
cut_refused false o cause e = first_cause_line_refused o cause e

cut_passes : (cut : Bool) (o : Option Slot) (called : CalledSide) → (if cut then Err destination_out_of_order else at_slot o) ≡ Ok called
    → first_cause ((cut, destination_out_of_order) ∷ (is_none o, no_channel_available) ∷ (false, switching_equipment_congestion) ∷ []) ≡ None
cut_passes true o called e = absurd cc
cut_passes false o called e = first_cause_line_passes o called e

first_cause_room_refused : (full : Bool) (room cause : ℕ) → (if full then Err switching_equipment_congestion else Ok (side.Room room)) ≡ Err cause
    → first_cause ((false, no_channel_available) ∷ (full, switching_equipment_congestion) ∷ []) ≡ Some cause
first_cause_room_refused true room cause e =
    let r : Result CalledSide ℕ = Err switching_equipment_congestion in
    let f : r ≡ Err cause = e in
    let same : switching_equipment_congestion ≡ cause = cc in ap (λ n. Some n) same
first_cause_room_refused false room cause e = absurd cc

first_cause_room_passes : (full : Bool) (room : ℕ) (called : CalledSide) → (if full then Err switching_equipment_congestion else Ok (side.Room room)) ≡ Ok called
    → first_cause ((false, no_channel_available) ∷ (full, switching_equipment_congestion) ∷ []) ≡ None
first_cause_room_passes true room called e = absurd cc
first_cause_room_passes false room called e = refl

pub first_cause_side_refused : (d : Dimensions) (w : World) (x : Slot) (t : Found) (cause : ℕ) → is_unknown t ≡ false → called_side d w x t ≡ Err cause → first_cause (called_checks d w (Some x) t) ≡ Some cause
first_cause_side_refused d w x (Line line) cause known e = cut_refused (is_cut_off w (Line line)) (lowest_called w x line) cause e
first_cause_side_refused d w x (Lines lines) cause known e = cut_refused (is_cut_off w (Lines lines)) (hunted w x lines) cause e
first_cause_side_refused d w x (Room room) cause known e = first_cause_room_refused (is_full d w) room cause e
first_cause_side_refused d w x More cause known e = absurd cc
first_cause_side_refused d w x Nothing cause known e = absurd cc

pub first_cause_side_passes : (d : Dimensions) (w : World) (x : Slot) (t : Found) (called : CalledSide) → called_side d w x t ≡ Ok called → first_cause (called_checks d w (Some x) t) ≡ None
first_cause_side_passes d w x (Line line) called e = cut_passes (is_cut_off w (Line line)) (lowest_called w x line) called e
first_cause_side_passes d w x (Lines lines) called e = cut_passes (is_cut_off w (Lines lines)) (hunted w x lines) called e
first_cause_side_passes d w x (Room room) called e = first_cause_room_passes (is_full d w) room called e
first_cause_side_passes d w x More called e = refl
first_cause_side_passes d w x Nothing called e = absurd cc

-- where the checks of the number pass, the plan knows it
pub is_unknown_false : (t : Found) (complete : Bool) → first_cause (number_checks t complete) ≡ None → is_unknown t ≡ false
is_unknown_false (Line line) complete e = refl
is_unknown_false (Lines lines) complete e = refl
is_unknown_false (Room room) complete e = refl
is_unknown_false More complete e = refl
is_unknown_false Nothing complete e = absurd cc

-- a result that is the called side's, and the checks of it
pub side_err : (d : Dimensions) (w : World) (x : Slot) (t : Found) (r : Result CalledSide ℕ) → is_unknown t ≡ false → r ≡ called_side d w x t
    → IfErr r (λ cause. first_cause (called_checks d w (Some x) t) ≡ Some cause)
side_err d w x t (Ok called) known is = tt
side_err d w x t (Err cause) known is = first_cause_side_refused d w x t cause known (sym is)

pub side_ok : (d : Dimensions) (w : World) (x : Slot) (t : Found) (r : Result CalledSide ℕ) → r ≡ called_side d w x t → OnOk r (first_cause (called_checks d w (Some x) t) ≡ None)
side_ok d w x t (Ok called) is = first_cause_side_passes d w x t called (sym is)
side_ok d w x t (Err cause) is = tt

pub side_is : (r s : Result CalledSide ℕ) → r ≡ s → IfOk r (λ called. s ≡ Ok called)
side_is (Ok called) s is = sym is
side_is (Err cause) s is = tt

-- ---- the checks of a number that is dialled on

module _ (d : Dimensions) (w : World) (x : Slot) (m : Message) (t : Found) (readable : Bool) (reads : not readable ≡ false) where
  pub first_cause-dialled_checks_refused : (cause : ℕ) → first_cause (number_checks t (complete_in m.elements)) ≡ Some cause → first_cause (dialled_checks d w x m readable t) ≡ Some cause
  first_cause-dialled_checks_refused cause e = rw reads (first_cause_some_fails (number_checks t (complete_in m.elements)) (called_checks d w (Some x) t) cause e)

  pub first_cause-dialled_checks_same : first_cause (number_checks t (complete_in m.elements)) ≡ None → first_cause (dialled_checks d w x m readable t) ≡ first_cause (called_checks d w (Some x) t)
  first_cause-dialled_checks_same e = rw reads (first_cause_none_fails (number_checks t (complete_in m.elements)) (called_checks d w (Some x) t) e)

-- ---- the checks of slots

pub slot_causes : (d : Dimensions) (w : World) (line : ℕ) (channel : Option ChannelIdentification) (target : Found) (x : Slot) → is_taken w line channel ≡ false → caller_slot w line channel ≡ Some x
    → first_cause (called_checks d w (Some x) target) ≡ first_cause (slot_checks d w line channel target)
slot_causes d w line channel target x taken is = rw (taken, is) refl

-- ---- a line that is found exists, where the plan's lines do

pub reaches : (external : ℕ) (plan : List Number) (digits : List ℕ) (t : Found) → IsTrue (all_targets (is_reached external) plan) → found_for plan digits ≡ t → IsReached external t
reaches external plan digits (Line line) planned is = let passes = found_passes (is_reached external) plan digits (target.Line line) planned is in grind (arith, nat_tests, passes)
reaches external plan digits (Lines lines) planned is = found_passes (is_reached external) plan digits (target.Lines lines) planned is
reaches external plan digits (Room room) planned is = tt
reaches external plan digits More planned is = tt
reaches external plan digits Nothing planned is = tt

-- ---- the whole

module _ (s : Setting) (w : World) (line : ℕ) (m : Message) (target : Found) (leads : target_of s m ≡ target) where
  pub refusal_element_refused : (cause : ℕ) → first_cause (element_checks m) ≡ Some cause → refusal s w line m ≡ Some cause
  refusal_element_refused cause e = first_cause_some_fails (element_checks m) (number_checks (target_of s m) (complete_in m.elements) ++ slot_checks s.dimensions w line (channel_in m.elements) (target_of s m)) cause e

  pub refusal_number_refused : (cause : ℕ) → first_cause (element_checks m) ≡ None → first_cause (number_checks target (complete_in m.elements)) ≡ Some cause → refusal s w line m ≡ Some cause
  refusal_number_refused cause read e =
      first_cause_none_fails (element_checks m) (number_checks (target_of s m) (complete_in m.elements) ++ slot_checks s.dimensions w line (channel_in m.elements) (target_of s m)) read
      ∙ first_cause_some_fails (number_checks (target_of s m) (complete_in m.elements)) (slot_checks s.dimensions w line (channel_in m.elements) (target_of s m)) cause (ap (λ t. first_cause (number_checks t (complete_in m.elements))) leads ∙ e)

  pub refusal_slot_refused : (why : Option ℕ) → first_cause (element_checks m) ≡ None → first_cause (number_checks target (complete_in m.elements)) ≡ None → first_cause (slot_checks s.dimensions w line (channel_in m.elements) target) ≡ why → refusal s w line m ≡ why
  refusal_slot_refused why read known e =
      first_cause_none_fails (element_checks m) (number_checks (target_of s m) (complete_in m.elements) ++ slot_checks s.dimensions w line (channel_in m.elements) (target_of s m)) read
      ∙ first_cause_none_fails (number_checks (target_of s m) (complete_in m.elements)) (slot_checks s.dimensions w line (channel_in m.elements) (target_of s m)) (ap (λ t. first_cause (number_checks t (complete_in m.elements))) leads ∙ known)
      ∙ ap (λ t. first_cause (slot_checks s.dimensions w line (channel_in m.elements) t)) leads
      ∙ e
