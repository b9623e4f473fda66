-- The legs are consistent after one leg of a call is released and the other is cleared.
use Rattle.std.proofs.Common.{◌≡◌, ℕ, ◌<◌, ◌⊎◌, inl, inr, length, Option, Some, None, refl, sym, ◌∙◌, ap, subst, length-set}
use Rattle.circuit_model.specs.declared.channel.Slot.{Slot}
use Rattle.circuit_model.specs.Circuits.{heard_by, unless_naming}
use Rattle.circuit_model.specs.Extent.{IsExternal}
use Rattle.circuit_model.specs.Holding.{Holding, Clear, after, Valid}
use Rattle.circuit_model.proofs.Validity.{heard_by-clear}
use Rattle.control_memory.specs.Layout.{number_of}
use Rattle.call_states.specs.declared.leg.Leg.{Leg}
use Rattle.call_states.specs.declared.leg.Peer.TheVariants as peer
use Rattle.tone_rules.specs.declared.tones.Tones.{Tones}
use Rattle.call_profile.specs.Acts.{in_release_request, in_disconnect_indication}
use Rattle.call_profile.specs.LegStanding.{LegStands, LegsStand, MayHear}
use Rattle.call_profile.specs.Legs.{waiting_from, leg_at, with_entry}
use Rattle.call_profile.specs.World.{World}
use Rattle.call_profile.proofs.AnsweringLemmas.{unless_naming_cleared}
use Rattle.call_profile.proofs.BesideLemmas.{look, leg_at-with_entry_here, leg_at-with_entry_else, same_or_apart, named_back, Beside, each_stands, SameReferences, still_one}
use Rattle.call_profile.proofs.HearingLemmas.{IsStrange, heard_by_clear_keeps}

-- ---- what is alone

-- a slot that was cleared hears nothing, whatever is cleared then
pub heard_by_deaf_once : (bridges : ℕ) (h : Holding) (x : Slot) → Valid bridges h → heard_by (after h (Clear x)).circuits x ≡ None
heard_by_deaf_once bridges h x valid = heard_by-clear h.circuits x x (valid.standing x) ∙ unless_naming_cleared h.circuits x (heard_by h.circuits x) refl

pub heard_by_deaf_still : (bridges : ℕ) (h : Holding) (x y : Slot) → Valid bridges h → heard_by h.circuits x ≡ None → heard_by (after h (Clear y)).circuits x ≡ None
heard_by_deaf_still bridges h x y valid deaf = heard_by-clear h.circuits y x (valid.standing x) ∙ ap (unless_naming y) deaf

-- a leg that was released is alone in silence, and one that was disconnected with a cause where it hears what it may
pub released_stands : (external : ℕ) (tones : Tones) (w v : World) (x : Slot) (leg : Leg) (next : ℕ) → LegStands external tones w x leg → heard_by v.holding.circuits x ≡ None
    → LegStands external tones v x (waiting_from next (in_release_request leg))
released_stands external tones w v x leg next stands deaf = record {
  state = refl;
  reference = stands.reference;
  cause = stands.cause;
  peer = refl;
  hears = subst (MayHear tones (waiting_from next (in_release_request leg))) (sym deaf) (λ e. absurd cc, refl);
}

pub disconnected_stands : (external : ℕ) (tones : Tones) (w v : World) (x : Slot) (leg : Leg) (next cause : ℕ) → cause < 128 → LegStands external tones w x leg
    → MayHear tones (waiting_from next (in_disconnect_indication cause leg)) (heard_by v.holding.circuits x)
    → LegStands external tones v x (waiting_from next (in_disconnect_indication cause leg))
disconnected_stands external tones w v x leg next cause small stands may = record {
  state = refl;
  reference = stands.reference;
  cause = small;
  peer = refl;
  hears = may;
}

-- ---- one leg without another

-- what becomes of a leg that is released: it is gone, or waits for its release from the next frame on
abbrev pub IsLeft : ℕ → Leg → Option Leg → Type 0
IsLeft next leg o = (o ≡ None) ⊎ (o ≡ Some (waiting_from next (in_release_request leg)))

pub left_stands : (external : ℕ) (tones : Tones) (w v : World) (x : Slot) (leg : Leg) (next : ℕ) (o : Option Leg) → IsLeft next leg o → LegStands external tones w x leg → heard_by v.holding.circuits x ≡ None
    → (l : Leg) → o ≡ Some l → LegStands external tones v x l
left_stands external tones w v x leg next o (inl gone) stands deaf l is = let e : None ≡ Some l = sym gone ∙ is in absurd cc
left_stands external tones w v x leg next o (inr waits) stands deaf l is =
    let e : Some (waiting_from next (in_release_request leg)) ≡ Some l = sym waits ∙ is in
    let same : waiting_from next (in_release_request leg) ≡ l = cc in
    subst (LegStands external tones v x) same (released_stands external tones w v x leg next stands deaf)

pub left_reference : (leg : Leg) (next : ℕ) (o : Option Leg) → IsLeft next leg o → (b : Leg) → o ≡ Some b → (leg.side ≡ b.side) × (leg.reference ≡ b.reference)
left_reference leg next o (inl gone) b is = let e : None ≡ Some b = sym gone ∙ is in absurd cc
left_reference leg next o (inr waits) b is =
    let e : Some (waiting_from next (in_release_request leg)) ≡ Some b = sym waits ∙ is in
    let same : waiting_from next (in_release_request leg) ≡ b = cc in
    (ap (λ (l : Leg). l.side) same, ap (λ (l : Leg). l.reference) same)

module _ (external : ℕ) (tones : Tones) (bridges : ℕ) (w v : World) (x : Slot) (leg : Leg) (o : Option Leg) (valid : Valid bridges w.holding) (stand : LegsStand external tones w)
    (within : IsExternal external x) (at : leg_at w.legs x ≡ Some leg) (left : IsLeft w.holding.next leg o)
    (legs : v.legs.held ≡ (with_entry w.legs x o).held) (holding : v.holding ≡ after w.holding (Clear x)) (no_peer : (p : Slot) → leg.peer ≡ peer.Leg p → ⊥) where
  legs_alone : (z : Slot) → IsExternal external z → (z ≡ x → ⊥) → leg_at v.legs z ≡ leg_at w.legs z
  legs_alone z in_z apart = ap (look z) legs ∙ leg_at-with_entry_else external w.legs x z o within in_z apart

  here_alone : leg_at v.legs x ≡ o
  here_alone = ap (look x) legs ∙ leg_at-with_entry_here external w.legs x o stand.count within

  -- nobody else names the slot
  strange_alone : (z : Slot) (l : Leg) → IsExternal external z → leg_at w.legs z ≡ Some l → IsStrange l x
  strange_alone z l in_z at_z p is same =
      let has = (stand.each z l in_z at_z).peer in
      no_peer z (named_back external w.legs z p l leg is has (ap (leg_at w.legs) same ∙ at))

  heard_alone : (z : Slot) (l : Leg) → IsExternal external z → leg_at w.legs z ≡ Some l → (z ≡ x → ⊥) → heard_by v.holding.circuits z ≡ heard_by w.holding.circuits z
  heard_alone z l in_z at_z apart =
      ap (λ (h : Holding). heard_by h.circuits z) holding
      ∙ heard_by_clear_keeps bridges tones w.holding l z x valid (stand.each z l in_z at_z).hears apart (strange_alone z l in_z at_z)

  beside_alone : Beside external w v x x
  beside_alone = record {
    legs = λ z in_z not_x same. legs_alone z in_z not_x;
    heard = λ z l in_z at_z not_x same. heard_alone z l in_z at_z not_x;
    strange = λ z l p in_z at_z not_x same is. (strange_alone z l in_z at_z p is, strange_alone z l in_z at_z p is);
  }

  new_alone : (l : Leg) → leg_at v.legs x ≡ Some l → LegStands external tones v x l
  new_alone l is = left_stands external tones w v x leg w.holding.next o left (stand.each x leg within at) (ap (λ (h : Holding). heard_by h.circuits x) holding ∙ heard_by_deaf_once bridges w.holding x valid) l (sym here_alone ∙ is)

  references_alone : SameReferences external w v
  references_alone z b in_z at_z = elim (same_or_apart z x) [
    | inl is_x ↦
        let kept = left_reference leg w.holding.next o left b (sym here_alone ∙ sym (ap (leg_at v.legs) is_x) ∙ at_z) in
        (leg, ap (leg_at w.legs) is_x ∙ at, kept.0, kept.1)
    | inr not_x ↦ (b, sym (legs_alone z in_z not_x) ∙ at_z, refl, refl)
  ]

  pub LegsStand_alone_left : LegsStand external tones v
  LegsStand_alone_left = record {
    count = ap length legs ∙ length-set w.legs.held (number_of x) o ∙ stand.count;
    each = each_stands external tones w v x x beside_alone stand new_alone new_alone;
    one = still_one external tones w v references_alone stand;
  }
