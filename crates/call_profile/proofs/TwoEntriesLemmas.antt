-- The legs are consistent after the two legs of a call got other entries, or none, if each of these is.
use Rattle.std.proofs.Common.{◌≡◌, ℕ, inl, inr, Option, Some, refl, sym, ◌∙◌, ap, subst, length, length-set}
use Rattle.circuit_model.specs.declared.channel.Slot.{Slot}
use Rattle.circuit_model.specs.Circuits.{heard_by}
use Rattle.circuit_model.specs.Extent.{IsExternal}
use Rattle.control_memory.specs.Layout.{number_of}
use Rattle.call_states.specs.declared.leg.Leg.{Leg}
use Rattle.call_states.specs.declared.leg.Peer.TheVariants as peer
use Rattle.tone_rules.specs.declared.tones.Tones.{Tones}
use Rattle.call_profile.specs.LegStanding.{LegStands, LegsStand}
use Rattle.call_profile.specs.Legs.{leg_at, with_entry}
use Rattle.call_profile.specs.World.{World}
use Rattle.call_profile.proofs.BesideLemmas.{Beside, SameReferences, look, leg_at-with_entry_here, leg_at-with_entry_else, each_stands, named_back, same_or_apart, still_one}
use Rattle.call_profile.proofs.HearingLemmas.{IsStrange}

-- two legs that name each other, and no others
pub record ArePeers (external : ℕ) (w : World) (x y : Slot) (leg other : Leg) : Type 0 where
  pub in_x : IsExternal external x
  pub in_y : IsExternal external y
  pub apart : y ≡ x → ⊥
  pub at_x : leg_at w.legs x ≡ Some leg
  pub at_y : leg_at w.legs y ≡ Some other
  pub there : leg.peer ≡ peer.Leg y
  pub back : other.peer ≡ peer.Leg x

-- a third leg names neither of them
pub strange_both : (external : ℕ) (tones : Tones) (w : World) (x y : Slot) (leg other : Leg) → LegsStand external tones w → ArePeers external w x y leg other
    → (z : Slot) (l : Leg) → IsExternal external z → leg_at w.legs z ≡ Some l → (z ≡ x → ⊥) → (z ≡ y → ⊥) → IsStrange l x × IsStrange l y
strange_both external tones w x y leg other stand peers z l in_z at_z not_x not_y =
    let has = (stand.each z l in_z at_z).peer in (
      λ p is same.
          let e : peer.Leg y ≡ peer.Leg z = sym peers.there ∙ named_back external w.legs z p l leg is has (ap (leg_at w.legs) same ∙ peers.at_x) in
          let slots : y ≡ z = cc in
          not_y (sym slots),
      λ p is same.
          let e : peer.Leg x ≡ peer.Leg z = sym peers.back ∙ named_back external w.legs z p l other is has (ap (leg_at w.legs) same ∙ peers.at_y) in
          let slots : x ≡ z = cc in
          not_x (sym slots),
    )

-- each leg that an entry holds is consistent, and has the side and the call reference of the leg that was there
pub record IsFine (external : ℕ) (tones : Tones) (v : World) (x : Slot) (leg : Leg) (o : Option Leg) : Type 0 where
  pub stands : (l : Leg) → o ≡ Some l → LegStands external tones v x l
  pub same : (l : Leg) → o ≡ Some l → (leg.side ≡ l.side) × (leg.reference ≡ l.reference)

module _ (external : ℕ) (tones : Tones) (w v : World) (x y : Slot) (leg other : Leg) (o p : Option Leg) (stand : LegsStand external tones w) (peers : ArePeers external w x y leg other)
    (legs : v.legs.held ≡ (with_entry (with_entry w.legs x o) y p).held)
    (heard : (z : Slot) (l : Leg) → IsExternal external z → leg_at w.legs z ≡ Some l → (z ≡ x → ⊥) → (z ≡ y → ⊥) → heard_by v.holding.circuits z ≡ heard_by w.holding.circuits z)
    (fine_x : IsFine external tones v x leg o) (fine_y : IsFine external tones v y other p) where
  legs_both : (z : Slot) → IsExternal external z → (z ≡ x → ⊥) → (z ≡ y → ⊥) → leg_at v.legs z ≡ leg_at w.legs z
  legs_both z in_z not_x not_y =
      ap (look z) legs
      ∙ leg_at-with_entry_else external (with_entry w.legs x o) y z p peers.in_y in_z not_y
      ∙ leg_at-with_entry_else external w.legs x z o peers.in_x in_z not_x

  here_x : leg_at v.legs x ≡ o
  here_x =
      ap (look x) legs
      ∙ leg_at-with_entry_else external (with_entry w.legs x o) y x p peers.in_y peers.in_x (λ e. peers.apart (sym e))
      ∙ leg_at-with_entry_here external w.legs x o stand.count peers.in_x

  here_y : leg_at v.legs y ≡ p
  here_y =
      ap (look y) legs
      ∙ leg_at-with_entry_here external (with_entry w.legs x o) y p (length-set w.legs.held (number_of x) o ∙ stand.count) peers.in_y

  beside_both : Beside external w v x y
  beside_both = record {
    legs = legs_both;
    heard = heard;
    strange = λ z l q in_z at_z not_x not_y is.
        let strange = strange_both external tones w x y leg other stand peers z l in_z at_z not_x not_y in
        (strange.0 q is, strange.1 q is);
  }

  references_both : SameReferences external w v
  references_both z b in_z at_z = elim (same_or_apart z x) [
    | inl is_x ↦
        let kept = fine_x.same b (sym here_x ∙ sym (ap (leg_at v.legs) is_x) ∙ at_z) in
        (leg, ap (leg_at w.legs) is_x ∙ peers.at_x, kept.0, kept.1)
    | inr not_x ↦ elim (same_or_apart z y) [
      | inl is_y ↦
          let kept = fine_y.same b (sym here_y ∙ sym (ap (leg_at v.legs) is_y) ∙ at_z) in
          (other, ap (leg_at w.legs) is_y ∙ peers.at_y, kept.0, kept.1)
      | inr not_y ↦ (b, sym (legs_both z in_z not_x not_y) ∙ at_z, refl, refl)
    ]
  ]

  pub both_stand : LegsStand external tones v
  both_stand = record {
    count = ap length legs ∙ length-set (with_entry w.legs x o).held (number_of y) p ∙ length-set w.legs.held (number_of x) o ∙ stand.count;
    each = each_stands external tones w v x y beside_both stand (λ l is. fine_x.stands l (sym here_x ∙ is)) (λ l is. fine_y.stands l (sym here_y ∙ is));
    one = still_one external tones w v references_both stand;
  }

-- a leg that is put as it is known to be
pub fine_leg : (external : ℕ) (tones : Tones) (v : World) (x : Slot) (leg new : Leg) → LegStands external tones v x new → leg.side ≡ new.side → leg.reference ≡ new.reference → IsFine external tones v x leg (Some new)
fine_leg external tones v x leg new stands side reference = record {
  stands = λ l is. let same : new ≡ l = cc in subst (LegStands external tones v x) same stands;
  same = λ l is. let same : new ≡ l = cc in (side ∙ ap (λ (k : Leg). k.side) same, reference ∙ ap (λ (k : Leg). k.reference) same);
}
