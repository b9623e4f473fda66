-- Legs are as before where a message touches two slots alone.
use Rattle.std.proofs.Common.{◌≡◌, ℕ, ◌*◌, ◌⊎◌, inl, inr, List, length, Option, Some, None, refl, sym, ◌∙◌, ap, subst, arith, get_or-set_same, get_or-set_other, set-set}
use Rattle.circuit_model.specs.declared.channel.Slot.{Slot}
use Rattle.circuit_model.specs.Circuits.{heard_by, same_slot}
use Rattle.circuit_model.specs.Extent.{IsExternal}
use Rattle.std.specs.Prelude.{slice_index_or}
use Rattle.circuit_model.proofs.Slots.{same_slot_cases, same_slot-refl}
use Rattle.control_memory.specs.Layout.{number_of}
use Rattle.control_memory.proofs.Steps.{same_number, number_inside}
use Rattle.call_states.specs.declared.leg.Leg.{Leg}
use Rattle.call_states.specs.declared.leg.Peer.{Peer}
use Rattle.call_states.specs.declared.leg.Peer.TheVariants as peer
use Rattle.call_states.specs.declared.leg.Side.{Side}
use Rattle.call_states.specs.declared.leg.Side.TheVariants.{Caller, Called}
use Rattle.tone_rules.specs.declared.tones.Tones.{Tones}
use Rattle.call_profile.specs.LegStanding.{LegStands, LegsStand, HasPeer, MayHear, IsInCall}
use Rattle.call_profile.specs.Legs.{Legs, leg_at, with_entry}
use Rattle.call_profile.specs.World.{World}

-- ---- a table of legs with one entry written

-- the entry of a slot
abbrev pub look : Slot → List (Option Leg) → Option Leg
look x os = slice_index_or os (number_of x) None

pub leg_at-with_entry_here : (external : ℕ) (legs : Legs) (x : Slot) (o : Option Leg) → length legs.held ≡ 30 * external → IsExternal external x → leg_at (with_entry legs x o) x ≡ o
leg_at-with_entry_here external legs x o size inside = get_or-set_same legs.held (number_of x) o None (let n = number_inside external x inside in omega (arith, n, size))

pub leg_at-with_entry_else : (external : ℕ) (legs : Legs) (x z : Slot) (o : Option Leg) → IsExternal external x → IsExternal external z → (z ≡ x → ⊥) → leg_at (with_entry legs x o) z ≡ leg_at legs z
leg_at-with_entry_else external legs x z o at_x at_z apart = get_or-set_other legs.held (number_of x) (number_of z) o None (λ e. apart (same_number z x at_z.1 at_x.1 e))

-- the second of two entries for one slot is left
pub entry_twice : (legs : Legs) (x : Slot) (o p : Option Leg) → with_entry (with_entry legs x o) x p ≡ with_entry legs x p
entry_twice legs x o p = λ i. record { held = set-set legs.held (number_of x) o p i; pending = set-set legs.pending (number_of x) None None i; kept = set-set legs.kept (number_of x) None None i; conditions = legs.conditions; down = legs.down }

-- one slot or another
pub same_or_apart : (x y : Slot) → (x ≡ y) ⊎ (x ≡ y → ⊥)
same_or_apart x y = elim (same_slot_cases x y) [
  | inl same ↦ inl same
  | inr differ ↦ inr (λ e. let t = same_slot-refl y in let f = ap (λ z. same_slot z y) (sym e) in cc)
]

-- ---- peers

pub peer_back : (side : Side) (x y : Slot) (leg other : Leg) → IsInCall side x leg y other → other.peer ≡ peer.Leg x
peer_back Caller x y leg other call = call.back
peer_back Called x y leg other call = call.there

pub peer_there : (side : Side) (x y : Slot) (leg other : Leg) → IsInCall side x leg y other → leg.peer ≡ peer.Leg y
peer_there Caller x y leg other call = call.there
peer_there Called x y leg other call = call.back

-- the leg at a slot that a leg names names it back
pub named_back : (external : ℕ) (legs : Legs) (z p : Slot) (leg other : Leg) → leg.peer ≡ peer.Leg p → HasPeer external legs z leg leg.peer → leg_at legs p ≡ Some other → other.peer ≡ peer.Leg z
named_back external legs z p leg other is has at =
    let h = subst (HasPeer external legs z leg) is has in
    let same : h.1.0 ≡ other = let e = sym h.1.1 ∙ at in cc in
    subst (λ (l : Leg). l.peer ≡ peer.Leg z) same (peer_back leg.side z p leg h.1.0 h.1.2)

-- ---- what is left as it was

-- the legs of all slots but two are as before, and hear what they heard; and the peers of these legs are none of the two
pub record Beside (external : ℕ) (w v : World) (x y : Slot) : Type 0 where
  pub legs : (z : Slot) → IsExternal external z → (z ≡ x → ⊥) → (z ≡ y → ⊥) → leg_at v.legs z ≡ leg_at w.legs z
  pub heard : (z : Slot) (leg : Leg) → IsExternal external z → leg_at w.legs z ≡ Some leg → (z ≡ x → ⊥) → (z ≡ y → ⊥) → heard_by v.holding.circuits z ≡ heard_by w.holding.circuits z
  pub strange : (z : Slot) (leg : Leg) (p : Slot) → IsExternal external z → leg_at w.legs z ≡ Some leg → (z ≡ x → ⊥) → (z ≡ y → ⊥) → leg.peer ≡ peer.Leg p → (p ≡ x → ⊥) × (p ≡ y → ⊥)

module _ (external : ℕ) (tones : Tones) (w v : World) (x y : Slot) (beside : Beside external w v x y) where
  peer_beside : (z : Slot) (leg : Leg) (p : Peer) → leg.peer ≡ p → IsExternal external z → leg_at w.legs z ≡ Some leg → (z ≡ x → ⊥) → (z ≡ y → ⊥) → HasPeer external w.legs z leg p → HasPeer external v.legs z leg p
  peer_beside z leg peer.Alone is within at not_x not_y has = has
  peer_beside z leg (peer.Leg p) is within at not_x not_y has =
      let s = beside.strange z leg p within at not_x not_y is in
      (has.0, (has.1.0, beside.legs p has.0 s.0 s.1 ∙ has.1.1, has.1.2))
  peer_beside z leg (peer.Room room) is within at not_x not_y has = has

  pub stands_beside : (z : Slot) (leg : Leg) → IsExternal external z → leg_at w.legs z ≡ Some leg → (z ≡ x → ⊥) → (z ≡ y → ⊥) → LegStands external tones w z leg → LegStands external tones v z leg
  stands_beside z leg within at not_x not_y stands = record {
    state = stands.state;
    reference = stands.reference;
    cause = stands.cause;
    peer = peer_beside z leg leg.peer refl within at not_x not_y stands.peer;
    hears = subst (MayHear tones leg) (sym (beside.heard z leg within at not_x not_y)) stands.hears;
  }

  -- each leg is consistent where the legs of the two slots are
  pub each_stands : LegsStand external tones w → ((leg : Leg) → leg_at v.legs x ≡ Some leg → LegStands external tones v x leg) → ((leg : Leg) → leg_at v.legs y ≡ Some leg → LegStands external tones v y leg)
      → (z : Slot) (leg : Leg) → IsExternal external z → leg_at v.legs z ≡ Some leg → LegStands external tones v z leg
  each_stands stand at_x at_y z leg within at = elim (same_or_apart z x) [
    | inl is_x ↦ subst (λ s. LegStands external tones v s leg) (sym is_x) (at_x leg (sym (ap (leg_at v.legs) is_x) ∙ at))
    | inr not_x ↦ elim (same_or_apart z y) [
      | inl is_y ↦ subst (λ s. LegStands external tones v s leg) (sym is_y) (at_y leg (sym (ap (leg_at v.legs) is_y) ∙ at))
      | inr not_y ↦ let before = sym (beside.legs z within not_x not_y) ∙ at in stands_beside z leg within before not_x not_y (stand.each z leg within before)
    ]
  ]

-- ---- call references

-- each leg has the side and the reference that the leg of its slot had before
abbrev pub SameReferences : ℕ → World → World → Type 0
SameReferences external w v = (z : Slot) (b : Leg) → IsExternal external z → leg_at v.legs z ≡ Some b → (a : Leg) × (leg_at w.legs z ≡ Some a) × (a.side ≡ b.side) × (a.reference ≡ b.reference)

pub still_one : (external : ℕ) (tones : Tones) (w v : World) → SameReferences external w v → LegsStand external tones w
    → (x y : Slot) (a b : Leg) → IsExternal external x → IsExternal external y → leg_at v.legs x ≡ Some a → leg_at v.legs y ≡ Some b
    → x.line ≡ y.line → a.side ≡ b.side → a.reference ≡ b.reference → x ≡ y
still_one external tones w v same stand x y a b in_x in_y at_x at_y line side reference =
    let p = same x a in_x at_x in
    let q = same y b in_y at_y in
    stand.one x y p.0 q.0 in_x in_y p.1 q.1 line (p.2 ∙ side ∙ sym q.2) (p.3 ∙ reference ∙ sym q.3)
