-- What a slot hears once it gets a tone, if there is one.
use Rattle.std.proofs.Common.{◌≡◌, ◌≢◌, ℕ, Bool, true, false, not, List, [], ◌∷◌, inl, inr, Option, Some, None, refl, sym, ◌∙◌, ap, subst, arith}
use Rattle.std.specs.Prelude.{filter, option_map, option_and_then, IfSome, ◌==◌}
use Rattle.std.specs.List.{list_any}
use Rattle.std.proofs.lemmas.Bool.Decides.{nat_tests}
use Rattle.circuit_model.specs.declared.channel.Slot.{Slot}
use Rattle.circuit_model.specs.declared.circuit.Circuit.{Circuit}
use Rattle.circuit_model.specs.declared.circuit.Circuit.TheVariants.{Tone}
use Rattle.circuit_model.specs.declared.circuit.Kind.{Kind}
use Rattle.circuit_model.specs.Circuits.{heard_by, is_idle, names}
use Rattle.circuit_model.specs.Holding.{Holding, Clear, after, Valid}
use Rattle.circuit_model.proofs.Hearing.{heard_by-one}
use Rattle.circuit_model.proofs.Slots.{true_or_false, same_slot-refl, same_slot-false, heard_by_idle_is_deaf}
use Rattle.circuit_model.proofs.Validity.{valid-tone}
use Rattle.q931_codec.specs.CallStates.{active, call_delivered, disconnect_indication}
use Rattle.call_states.specs.declared.leg.Leg.{Leg}
use Rattle.tone_rules.specs.declared.tones.Tones.{Tones}
use Rattle.tone_rules.specs.Tables.{IsGiven}
use Rattle.tone_rules.specs.CallTones.{is_given, if_given, tone_for}
use Rattle.call_profile.specs.Acts.{tone_of}
use Rattle.call_profile.specs.LegStanding.{MayHear}
use Rattle.call_profile.specs.Operations.{with_tone}

-- ---- a slot that was cleared is idle

none_any : (p : Circuit → Bool) (cs : List Circuit) → list_any p (filter (λ c. not (p c)) cs) ≡ false
none_any p [] = refl
none_any p (c ∷ cs) = elim (true_or_false (p c)) [
  | inl named ↦ rw named (none_any p cs)
  | inr other ↦ rw (other, other) (none_any p cs)
]

pub cleared_is_idle : (h : Holding) (x : Slot) → is_idle (after h (Clear x)).circuits x ≡ true
cleared_is_idle h x = ap not (none_any (names x) h.circuits)

-- ---- the circuits

module _ (h : Holding) (x : Slot) (idle : is_idle h.circuits x ≡ true) where
  pub sounding_valid : (bridges : ℕ) → Valid bridges h → (o : Option Kind) → Valid bridges (with_tone h x o)
  sounding_valid bridges valid None = valid
  sounding_valid bridges valid (Some kind) = valid-tone bridges h x kind valid idle

  heard_sounding : (o : Option Kind) → heard_by (with_tone h x o).circuits x ≡ option_map (λ kind. Tone kind x h.next) o
  heard_sounding None = heard_by_idle_is_deaf h.circuits x idle
  heard_sounding (Some kind) = heard_by-one h.circuits (Tone kind x h.next) x idle ∙ rw (same_slot-refl x) refl

  pub heard_by_sounding_keeps : (z : Slot) → (z ≡ x → ⊥) → (o : Option Kind) → heard_by (with_tone h x o).circuits z ≡ heard_by h.circuits z
  heard_by_sounding_keeps z not_x None = refl
  heard_by_sounding_keeps z not_x (Some kind) = heard_by-one h.circuits (Tone kind x h.next) z idle ∙ rw (same_slot-false z x not_x) refl

  -- a leg that gets the tone of its state and cause hears what it may
  may_sound : (tones : Tones) (leg : Leg) → leg.state ≢ active → (o : Option Kind) → tone_of tones leg ≡ o → MayHear tones leg (option_map (λ kind. Tone kind x h.next) o)
  may_sound tones leg quiet None is = (quiet, is)
  may_sound tones leg quiet (Some kind) is = inl is

  pub sounds : (tones : Tones) (leg : Leg) → leg.state ≢ active → MayHear tones leg (heard_by (with_tone h x (tone_of tones leg)).circuits x)
  sounds tones leg quiet = subst (MayHear tones leg) (sym (heard_sounding (tone_of tones leg))) (may_sound tones leg quiet (tone_of tones leg) refl)

pub with_tone_sounding_next : (h : Holding) (x : Slot) (o : Option Kind) → (with_tone h x o).next ≡ h.next
with_tone_sounding_next h x None = refl
with_tone_sounding_next h x (Some kind) = refl

-- ---- states without a tone

pub no_tone : (tones : Tones) (leg : Leg) → (leg.state == call_delivered) ≡ false → (leg.state == disconnect_indication) ≡ false → tone_of tones leg ≡ None
no_tone tones leg not_four not_twelve = rw (not_four, not_twelve) refl

-- ---- a tone that a slot gets has octets

given_some : (tones : Tones) (kind : Kind) → IfSome (if_given tones kind) (IsGiven tones)
given_some tones kind = elim (true_or_false (is_given tones kind)) [
  | inl given ↦ rw given (grind (arith, nat_tests, given))
  | inr none ↦ rw none tt
]

given_if : (tones : Tones) (o : Option Kind) → IfSome (option_and_then (if_given tones) o) (IsGiven tones)
given_if tones None = tt
given_if tones (Some kind) = given_some tones kind

pub tone_octets : (tones : Tones) (leg : Leg) → IfSome (tone_of tones leg) (IsGiven tones)
tone_octets tones leg = given_if tones (tone_for leg.state leg.cause)
