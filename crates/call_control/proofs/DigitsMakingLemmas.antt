-- What more digits make, told by what the map and the legs hold.
use Rattle.std.proofs.Common.{◌≡◌, ℕ, ◌<◌, ◌++◌, Bool, true, false, List, ◌∷◌, Option, Some, None, refl, sym, ◌∙◌, ap, subst, arith}
use Rattle.std.specs.Prelude.{is_none, is_some, not}
use Rattle.circuit_model.specs.declared.channel.Slot.{Slot}
use Rattle.circuit_model.specs.Extent.{IsExternal}
use Rattle.circuit_map.specs.Connections.{Connections}
use Rattle.number_plan.specs.declared.plan.Number.{Number}
use Rattle.number_plan.specs.declared.target.Found.{Found}
use Rattle.number_plan.specs.declared.target.Found.TheVariants.{Room}
use Rattle.q931_codec.specs.CallStates.{overlap_sending}
use Rattle.q931_codec.specs.Causes.{invalid_number_format}
use Rattle.q931_codec.specs.Contents.{complete_in, dialled_digits}
use Rattle.q931_codec.specs.declared.message.Message.{Message}
use Rattle.call_states.specs.declared.leg.HeldLeg.{HeldLeg}
use Rattle.call_states.specs.declared.pending.Pending.{Pending}
use Rattle.exchange_events.specs.Sizes.{Setting, Dimensions}
use Rattle.call_profile.specs.Acts.{clear_with}
use Rattle.call_profile.specs.Digits.{adds_wrongly, asked_with, called_with, dial_on, digits_refusal, on_digits, with_pending}
use Rattle.call_profile.specs.Legs.{Legs, leg_at, pending_at}
use Rattle.call_profile.specs.Permitted.{CanSeat}
use Rattle.call_profile.specs.Setup.{first_cause, number_checks, called_checks, target_dialled, accept}
use Rattle.call_profile.specs.Waiting.{Waits}
use Rattle.call_profile.specs.World.{World}
use Rattle.call_profile.proofs.AcceptedSetupLemmas.{small_cause}
use Rattle.call_profile.proofs.DigitsLemmas.{number}
use Rattle.call_profile.proofs.PermittedDigitsLemmas.{can_accept}
use Rattle.call_control.specs.AtWork.{IsAtWork}
use Rattle.call_control.specs.Choices.{dialled_checks}

pub dialled_small : (d : Dimensions) (w : World) (x : Slot) (m : Message) (readable : Bool) (t : Found) (cause : ℕ) → first_cause (dialled_checks d w x m readable t) ≡ Some cause → cause < 128
dialled_small d w x m readable t cause e = small_cause (dialled_checks d w x m readable t) cause (omega arith, (omega arith, (omega arith, (omega arith, (omega arith, (omega arith, tt)))))) e

not_some : (o : Option (List ℕ)) → is_none o ≡ not (is_some o)
not_some None = refl
not_some (Some digits) = refl

module _ (s : Setting) (numbers : List Number) (map : Connections) (legs : Legs) (w : World) (plan : s.plan ≡ numbers) (work : IsAtWork s map legs w) (h : HeldLeg) (m : Message)
    (within : IsExternal map.external h.slot) (at : leg_at legs h.slot ≡ Some h.leg) (is : h.leg.state ≡ overlap_sending) (p : Pending) (pends : pending_at legs h.slot ≡ Some p) where
  abbrev in_world : IsExternal s.dimensions.external h.slot
  in_world = subst (λ (d : Dimensions). IsExternal d.external h.slot) work.holds.sizes within

  abbrev at_world : leg_at w.legs h.slot ≡ Some h.leg
  at_world = ap (λ (ls : Legs). leg_at ls h.slot) (sym work.holds.legs_are) ∙ at

  pends_world : pending_at w.legs h.slot ≡ Some p
  pends_world = ap (λ (ls : Legs). pending_at ls h.slot) (sym work.holds.legs_are) ∙ pends

  abbrev waits : Waits s w h.slot h.leg
  waits = number s w h m work.planned work.stands in_world at_world is

  same_number : waits.number ≡ p
  same_number = let e : Some waits.number ≡ Some p = sym waits.pends ∙ pends_world in cc

  -- what is done where a check fails, and where none does
  pub digits_clear : (cause : ℕ) → digits_refusal s w h.slot p.called m ≡ Some cause → on_digits s w h m ≡ clear_with s.tones cause h
  digits_clear cause refused = ap (with_pending s w h m) pends_world ∙ ap (dial_on s w h (asked_with p m)) refused

  pub digits_accept : digits_refusal s w h.slot p.called m ≡ None → on_digits s w h m ≡ accept false w h.leg.reference (asked_with p m) h.slot (target_dialled s.plan (called_with p.called m))
  digits_accept passes = ap (with_pending s w h m) pends_world ∙ ap (dial_on s w h (asked_with p m)) passes

  -- the first check, and the others
  pub digits_refusal_wrong : adds_wrongly p.called m ≡ true → digits_refusal s w h.slot p.called m ≡ Some invalid_number_format
  digits_refusal_wrong wrong = rw wrong refl

  pub digits_refusal_right : (called : List ℕ) (readable : Bool) (t : Found) → adds_wrongly p.called m ≡ false → called ≡ called_with p.called m → readable ≡ is_some (dialled_digits called) → t ≡ target_dialled numbers called
      → digits_refusal s w h.slot p.called m ≡ first_cause (dialled_checks s.dimensions w h.slot m readable t)
  digits_refusal_right called readable t right same reads leads =
      let none : is_none (dialled_digits (called_with p.called m)) ≡ not readable =
      ap (λ (c : List ℕ). is_none (dialled_digits c)) (sym same) ∙ not_some (dialled_digits called) ∙ ap not (sym reads) in
      let found : target_dialled s.plan (called_with p.called m) ≡ t =
      ap (λ (ns : List Number). target_dialled ns (called_with p.called m)) plan ∙ ap (target_dialled numbers) (sym same) ∙ sym leads in
      rw right (λ i. first_cause ((none i, invalid_number_format) ∷ (number_checks (found i) (complete_in m.elements) ++ called_checks s.dimensions w (Some h.slot) (found i))))

  -- a caller whose number is a room's can be seated
  pub digits_seat : digits_refusal s w h.slot p.called m ≡ None → (room : ℕ) → target_dialled s.plan (called_with p.called m) ≡ Room room → CanSeat s.dimensions w h.slot
  digits_seat passes room leads =
      let of_number : digits_refusal s w h.slot waits.number.called m ≡ None = ap (λ (q : Pending). digits_refusal s w h.slot q.called m) same_number ∙ passes in
      (can_accept s w h m work.planned work.stands in_world at_world is of_number).room room (ap (λ (q : Pending). target_dialled s.plan (called_with q.called m)) same_number ∙ leads)
