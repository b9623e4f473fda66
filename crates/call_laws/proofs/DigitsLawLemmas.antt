-- Which slot a call gets whose number is dialled on, and for lack of what it is refused.
use Rattle.std.proofs.Common.{◌≡◌, ℕ, Bool, true, false, ◌&&◌, inl, inr, List, [], ◌∷◌, Option, Some, None, refl, sym, ◌∙◌, ap, subst, arith, if◌then◌else◌}
use Rattle.std.specs.Prelude.{All, find, is_none, not}
use Rattle.std.proofs.lemmas.List.Elements.{All-nil, All-cons, All-weaker}
use Rattle.circuit_model.specs.declared.channel.Slot.{Slot}
use Rattle.circuit_model.specs.Circuits.{is_idle, same_slot}
use Rattle.circuit_model.proofs.Slots.{true_or_false, same_slot-true}
use Rattle.q931_codec.specs.Causes.{invalid_number_format, unallocated_number, no_channel_available, switching_equipment_congestion, destination_out_of_order}
use Rattle.q931_codec.specs.Contents.{complete_in, dialled_digits}
use Rattle.q931_codec.specs.declared.message.Message.{Message}
use Rattle.number_plan.specs.declared.target.Found.{Found}
use Rattle.number_plan.specs.declared.target.Found.TheVariants.{Line, Lines, Room, More, Nothing}
use Rattle.call_states.specs.declared.leg.Leg.{Leg}
use Rattle.exchange_events.specs.Sizes.{Setting, Dimensions}
use Rattle.call_profile.specs.Digits.{adds_wrongly, called_with, digits_refusal, WantsSlot, WantsPort, IsUnavailable}
use Rattle.call_profile.specs.IdleSlots.{idle, lowest_idle, lowest_idle_beside, hunted, lowest_called}
use Rattle.call_profile.specs.Hunting.{lines_of, IsFull}
use Rattle.call_profile.specs.Legs.{leg_at, slots_of, is_down}
use Rattle.call_profile.specs.Setup.{Check, first_cause, is_unknown, is_incomplete, is_line_full, is_room_full, target_dialled, is_cut_off}
use Rattle.call_profile.specs.World.{World, is_full}
use Rattle.call_laws.proofs.HuntingLemmas.{all_full}

and_false : (b : Bool) → (b && false) ≡ false
and_false true = refl
and_false false = refl

and_true : (b : Bool) → (b && true) ≡ b
and_true true = refl
and_true false = refl

module _ (w : World) (x : Slot) (leg : Leg) (at : leg_at w.legs x ≡ Some leg) where
  held_is_taken : idle w x ≡ false
  held_is_taken = ap (λ (o : Option Leg). is_idle w.holding.circuits x && is_none o) at ∙ and_false _

  beside_or_not : (y : Slot) → (idle w y && not (same_slot x y)) ≡ idle w y
  beside_or_not y = elim (true_or_false (same_slot x y)) [
    | inl same ↦ let taken : idle w y ≡ false = subst (λ (z : Slot). idle w z ≡ false) (same_slot-true x y same) held_is_taken in rw taken refl
    | inr differ ↦ rw differ (and_true (idle w y))
  ]

  pub lowest_idle_beside_same_choice : (line : ℕ) → lowest_idle_beside w x line ≡ lowest_idle w line
  lowest_idle_beside_same_choice line = λ i. find (λ y. beside_or_not y i) (slots_of line)

  unavailable : (line : ℕ) (down : Bool) → is_down w.legs line ≡ down → IsFull w x line → IsUnavailable w line
  unavailable line true is none = inl is
  unavailable line false is none = inr (sym (lowest_idle_beside_same_choice line) ∙ sym (ap (λ (down : Bool). if down then None else lowest_idle_beside w x line) is) ∙ none)

-- ---- the cause tells which check failed

-- a check with another cause is not the one that failed
first_cause_later : (fails : Bool) (cause why : ℕ) (cs : List Check) → (cause ≡ why → ⊥) → first_cause ((fails, cause) ∷ cs) ≡ Some why → first_cause cs ≡ Some why
first_cause_later true cause why cs apart e = let f : Some cause ≡ Some why = e in let same : cause ≡ why = cc in absurd (apart same)
first_cause_later false cause why cs apart e = e

failed : (fails : Bool) (cause : ℕ) (cs : List Check) → (first_cause cs ≡ Some cause → ⊥) → first_cause ((fails, cause) ∷ cs) ≡ Some cause → fails ≡ true
failed true cause cs none e = refl
failed false cause cs none e = absurd (none e)

no_check : (why : ℕ) → first_cause [] ≡ Some why → ⊥
no_check why e = cc

module _ (a b c d g e f : Bool) where
  abbrev last_two : List Check
  last_two = (e, no_channel_available) ∷ (f, switching_equipment_congestion) ∷ []

  abbrev last_three : List Check
  last_three = (g, destination_out_of_order) ∷ last_two

  abbrev seven : List Check
  seven = (a, invalid_number_format) ∷ (b, invalid_number_format) ∷ (c, unallocated_number) ∷ (d, invalid_number_format) ∷ last_three

  first_cause-last_two : (why : ℕ) → (invalid_number_format ≡ why → ⊥) → (unallocated_number ≡ why → ⊥) → (destination_out_of_order ≡ why → ⊥) → first_cause seven ≡ Some why → first_cause last_two ≡ Some why
  first_cause-last_two why not_format not_number not_cut is =
      first_cause_later g destination_out_of_order why last_two not_cut
      (first_cause_later d invalid_number_format why last_three not_format
      (first_cause_later c unallocated_number why ((d, invalid_number_format) ∷ last_three) not_number
      (first_cause_later b invalid_number_format why ((c, unallocated_number) ∷ (d, invalid_number_format) ∷ last_three) not_format
      (first_cause_later a invalid_number_format why ((b, invalid_number_format) ∷ (c, unallocated_number) ∷ (d, invalid_number_format) ∷ last_three) not_format is))))

  sixth : first_cause seven ≡ Some no_channel_available → e ≡ true
  sixth is =
      failed e no_channel_available ((f, switching_equipment_congestion) ∷ [])
      (λ rest. no_check no_channel_available (first_cause_later f switching_equipment_congestion no_channel_available [] (λ same. omega (arith, same)) rest))
      (first_cause-last_two no_channel_available (λ same. omega (arith, same)) (λ same. omega (arith, same)) (λ same. omega (arith, same)) is)

  seventh : first_cause seven ≡ Some switching_equipment_congestion → f ≡ true
  seventh is =
      failed f switching_equipment_congestion [] (no_check switching_equipment_congestion)
      (first_cause_later e no_channel_available switching_equipment_congestion ((f, switching_equipment_congestion) ∷ []) (λ same. omega (arith, same))
      (first_cause-last_two switching_equipment_congestion (λ same. omega (arith, same)) (λ same. omega (arith, same)) (λ same. omega (arith, same)) is))

none_of : (o : Option Slot) → is_none o ≡ true → o ≡ None
none_of None e = refl
none_of (Some y) e = absurd cc

full_line : (w : World) (x : Slot) (t : Found) → is_line_full w (Some x) t ≡ true → (lines : List ℕ) × (lines_of t ≡ Some lines) × All (IsFull w x) lines
full_line w x (Line line) e = (line ∷ [], refl, All-cons (IsFull w x) line [] (none_of (lowest_called w x line) e) (All-nil (IsFull w x)))
full_line w x (Lines lines) e = (lines, refl, all_full w x lines (none_of (hunted w x lines) e))
full_line w x (Room room) e = absurd cc
full_line w x More e = absurd cc
full_line w x Nothing e = absurd cc

full_room : (d : Dimensions) (w : World) (t : Found) → is_room_full d w t ≡ true → (room : ℕ) × (t ≡ Room room) × (is_full d w ≡ true)
full_room d w (Line line) e = absurd cc
full_room d w (Lines lines) e = absurd cc
full_room d w (Room room) e = (room, refl, e)
full_room d w More e = absurd cc
full_room d w Nothing e = absurd cc

module _ (s : Setting) (w : World) (x : Slot) (called : List ℕ) (m : Message) where
  abbrev dialled : List ℕ
  dialled = called_with called m

  abbrev target : Found
  target = target_dialled s.plan dialled

  line_is_full : digits_refusal s w x called m ≡ Some no_channel_available → is_line_full w (Some x) target ≡ true
  line_is_full is = sixth (adds_wrongly called m) (is_none (dialled_digits dialled)) (is_unknown target) (is_incomplete target && complete_in m.elements) (is_cut_off w target) (is_line_full w (Some x) target) (is_room_full s.dimensions w target) is

  room_is_full : digits_refusal s w x called m ≡ Some switching_equipment_congestion → is_room_full s.dimensions w target ≡ true
  room_is_full is = seventh (adds_wrongly called m) (is_none (dialled_digits dialled)) (is_unknown target) (is_incomplete target && complete_in m.elements) (is_cut_off w target) (is_line_full w (Some x) target) (is_room_full s.dimensions w target) is

  pub wants_slot : (leg : Leg) → leg_at w.legs x ≡ Some leg → digits_refusal s w x called m ≡ Some no_channel_available → WantsSlot s w dialled
  wants_slot leg at is =
      let full = full_line w x target (line_is_full is) in
      (full.0, full.1, All-weaker (IsFull w x) (IsUnavailable w) (λ line none. unavailable w x leg at line (is_down w.legs line) refl none) full.0 full.2)

  pub wants_port : digits_refusal s w x called m ≡ Some switching_equipment_congestion → WantsPort s w dialled
  wants_port is = full_room s.dimensions w target (room_is_full is)
