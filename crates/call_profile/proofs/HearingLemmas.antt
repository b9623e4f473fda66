-- What a leg's slot hears while other slots are cleared and connected.
use Rattle.std.proofs.Common.{◌≡◌, ℕ, true, false, List, Option, Some, None, refl, sym, ◌∙◌, subst}
use Rattle.circuit_model.specs.declared.channel.Slot.{Slot}
use Rattle.circuit_model.specs.declared.circuit.Circuit.{Circuit}
use Rattle.circuit_model.specs.declared.circuit.Circuit.TheVariants.{Pair, Member, Tone}
use Rattle.circuit_model.specs.Circuits.{same_slot, names, listener, is_idle, heard_by, unless_naming}
use Rattle.circuit_model.specs.Holding.{Holding, Connect, Seat, Clear, after, Valid}
use Rattle.circuit_model.proofs.Hearing.{heard_by-stands, heard_by-two, heard_by-one}
use Rattle.circuit_model.proofs.Slots.{same_slot-true, same_slot-false}
use Rattle.circuit_model.proofs.Validity.{valid-clear, heard_by-clear}
use Rattle.call_states.specs.declared.leg.Leg.{Leg}
use Rattle.call_states.specs.declared.leg.Peer.TheVariants as peer
use Rattle.tone_rules.specs.declared.tones.Tones.{Tones}
use Rattle.call_profile.specs.LegStanding.{MayHear}

-- the leg's peer isn't the leg at a slot
abbrev pub IsStrange : Leg → Slot → Type 0
IsStrange leg x = (p : Slot) → leg.peer ≡ peer.Leg p → p ≡ x → ⊥

-- a circuit by which a leg hears names no slot but its own and its peer's
pub names_unnamed : (tones : Tones) (leg : Leg) (z x : Slot) (c : Circuit) → MayHear tones leg (Some c) → same_slot z (listener c) ≡ true → (z ≡ x → ⊥) → IsStrange leg x → names x c ≡ false
names_unnamed tones leg z x (Pair from to since) may hears apart strange =
    let not_from = same_slot-false x from (λ e. strange from may.1 (sym e)) in
    let not_to = same_slot-false x to (λ e. apart (same_slot-true z to hears ∙ sym e)) in
    rw (not_from, not_to) refl
names_unnamed tones leg z x (Member room at since) may hears apart strange = same_slot-false x at (λ e. apart (same_slot-true z at hears ∙ sym e))
names_unnamed tones leg z x (Tone kind to since) may hears apart strange = same_slot-false x to (λ e. apart (same_slot-true z to hears ∙ sym e))

kept_by : (tones : Tones) (circuits : List Circuit) (leg : Leg) (z x : Slot) (o : Option Circuit) → heard_by circuits z ≡ o → MayHear tones leg o → (z ≡ x → ⊥) → IsStrange leg x → unless_naming x o ≡ o
kept_by tones circuits leg z x None e may apart strange = refl
kept_by tones circuits leg z x (Some c) e may apart strange = rw (names_unnamed tones leg z x c may (heard_by-stands circuits z c e).1 apart strange) refl

-- clearing another slot leaves what a leg hears, where the leg's peer isn't there
pub heard_by_clear_keeps : (bridges : ℕ) (tones : Tones) (h : Holding) (leg : Leg) (z x : Slot) → Valid bridges h → MayHear tones leg (heard_by h.circuits z) → (z ≡ x → ⊥) → IsStrange leg x
    → heard_by (after h (Clear x)).circuits z ≡ heard_by h.circuits z
heard_by_clear_keeps bridges tones h leg z x valid may apart strange = heard_by-clear h.circuits x z (valid.standing z) ∙ kept_by tones h.circuits leg z x (heard_by h.circuits z) refl may apart strange

pub heard_by_clear_both_keeps : (bridges : ℕ) (tones : Tones) (h : Holding) (leg : Leg) (z x y : Slot) → Valid bridges h → MayHear tones leg (heard_by h.circuits z) → (z ≡ x → ⊥) → IsStrange leg x → (z ≡ y → ⊥) → IsStrange leg y
    → heard_by (after (after h (Clear x)) (Clear y)).circuits z ≡ heard_by h.circuits z
heard_by_clear_both_keeps bridges tones h leg z x y valid may not_x strange_x not_y strange_y =
    let first = heard_by_clear_keeps bridges tones h leg z x valid may not_x strange_x in
    heard_by_clear_keeps bridges tones (after h (Clear x)) leg z y (valid-clear bridges h x valid) (subst (MayHear tones leg) (sym first) may) not_y strange_y ∙ first

-- so does connecting two others, or seating one
pub heard_by_connect_keeps : (h : Holding) (x y z : Slot) → is_idle h.circuits x ≡ true → is_idle h.circuits y ≡ true → (z ≡ x → ⊥) → (z ≡ y → ⊥)
    → heard_by (after h (Connect x y)).circuits z ≡ heard_by h.circuits z
heard_by_connect_keeps h x y z idle_x idle_y not_x not_y = heard_by-two h.circuits x y z h.next idle_x idle_y ∙ rw (same_slot-false z x not_x, same_slot-false z y not_y) refl

pub heard_by_seat_keeps : (h : Holding) (x z : Slot) (room : ℕ) → is_idle h.circuits x ≡ true → (z ≡ x → ⊥) → heard_by (after h (Seat x room)).circuits z ≡ heard_by h.circuits z
heard_by_seat_keeps h x z room idle not_x = heard_by-one h.circuits (Member room x h.next) z idle ∙ rw (same_slot-false z x not_x) refl
